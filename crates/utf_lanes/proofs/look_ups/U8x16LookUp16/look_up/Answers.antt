use Rattle.std.proofs.Common.{refl}
use Rattle.utf_lanes.proofs.LookUps.{places_ok, looked_up}
use Rattle.utf_lanes.proofs.look_ups.U8x16LookUp16.look_up.Goals as goal

pub swizzle : goal.swizzle
swizzle c = places_ok 1 16 c.args.places refl c.fits-places.0 c.requires

pub returns : goal.returns
returns c = looked_up c.args.row.now c.args.places c.fits-places.0 c.requires
