use Rattle.std.proofs.Common.{◌+◌, ◌<◌, ◌/◌, ◌^◌, bit_and, drop, get_or, length-drop, arith}
use Rattle.std.proofs.lemmas.List.{drop-drop, get_or-drop}
use Rattle.std.proofs.lemmas.Nat.Bits.{bit_at-lt, shr_and_one}
use Rattle.utf_base.specs.declared.errors.Utf8ErrorKind.TheVariants.{TooFewBytes}
use Rattle.utf_lanes.proofs.FaultKinds.{kind_in_table, not_ascii}
use Rattle.utf_lanes.proofs.fault_masks.kind_at.Goals as goal

pub overflow_sub-result : goal.overflow_sub-result
overflow_sub-result c = rw (get_or-drop c.args.place c.args.bytes.now c.args.index 0) at (not_ascii (drop c.args.place c.args.bytes.now) c.args.index c.requires.fault)

pub returns : goal.returns
returns c =
    let xs = c.args.bytes.now in
    let p = c.args.place in
    let i = c.args.index in
    let broken = c.args.window.broken in
    let bit = shr_and_one broken i in
    let enough = c.requires.enough in
    let lt = bit_at-lt broken i in
    let few : bit_and (broken / 2 ^ i) 1 < 2 = rw bit lt in
    let byte = get_or-drop p xs i 0 in
    let fits : get_or (drop p xs) i 0 < 256 = rw byte ((c.type_inv.bytes (p + i)).fits) in
    rw (drop-drop i p xs, byte) at (kind_in_table (drop p xs) i c.requires.fault (bit_and (broken / 2 ^ i) 1) TooFewBytes (omega (arith, length-drop p xs)) fits few (λ high. rw bit (c.requires.judged.broken i c.requires.within high)))
