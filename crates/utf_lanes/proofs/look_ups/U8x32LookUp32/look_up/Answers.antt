use Rattle.std.proofs.Common.{◌++◌, arith, refl, sym, subst, length-append, w8}
use Rattle.std.proofs.lemmas.Simd.{pick_l_whole, swz_l}
use Rattle.utf_lanes.specs.Lanes.{AreLookedUp}
use Rattle.utf_lanes.proofs.LookUps.{places_ok, looked_up_twice}
use Rattle.utf_lanes.proofs.look_ups.U8x32LookUp32.look_up.Goals as goal

pub swizzle : goal.swizzle
swizzle c = places_ok 2 32 c.args.places refl c.fits-places.0 c.requires

pub returns : goal.returns
returns c =
    let row = c.args.row.now in
    let places = c.args.places in
    let whole = pick_l_whole 0 (row ++ row) 32 (omega (arith, length-append row row, c.told-row)) in
    subst (λ twice. AreLookedUp 32 row places (swz_l w8 16 twice 0 places)) (sym whole) (looked_up_twice row places c.told-row c.fits-places.0 c.requires)
