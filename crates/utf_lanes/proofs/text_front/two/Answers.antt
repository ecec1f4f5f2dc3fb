use Rattle.std.proofs.Common.{◌≡◌, ◌-◌, ◌≤◌, length, get_or, false, true, lit<, arith}
use Rattle.std.proofs.lemmas.Grind.{common_steps}
use Rattle.utf_base.specs.Kinds.{is_continuation}
use Rattle.utf_base.specs.Scalar.{IsScalar}
use Rattle.utf_base.proofs.FrontLemmas.{least_value-below_3}
use Rattle.utf_base.proofs.KindCases.{Asks-2, Sums-2, begins_with}
use Rattle.utf_lanes.proofs.TextFronts.{none_by_first, none_by_second}
use Rattle.utf_lanes.proofs.text_front.two.Goals as goal

pub returns-then-second-ge64-clause-none : goal.returns-then-second-ge64-clause-none
returns-then-second-ge64-clause-none c =
    let other = c.if-second-ge64.true in
    let breaks : is_continuation (get_or c.args.src.now 1 0) ≡ false = grind (arith, common_steps) in
    none_by_second c.args.src.now c.requires.low breaks

pub returns-then-marked-clause-none : goal.returns-then-marked-clause-none
returns-then-marked-clause-none c = none_by_first c.args.src.now c.requires.low (λ low high. omega arith)

pub returns-clause-some : goal.returns-clause-some
returns-clause-some c =
    let byte = c.type_inv.src 1 in
    let second = c.if-second-ge64.false in
    let continues : is_continuation (get_or c.args.src.now 1 0) ≡ true = grind (arith, common_steps) in
    let low : 0xC2 ≤ get_or c.args.src.now 0 0 = omega arith in
    let enough : 2 ≤ length c.args.src.now = omega arith in
    let asks = Asks-2 c.args.src.now (omega arith) low c.requires.high in
    let v = c.with_low_bits-marked.result - 0x3000 in
    let any : 0 ≤ v = omega arith in
    let sums = Sums-2 _ v asks enough continues (omega arith) in
    let scalar : IsScalar v = record { below = omega arith; no_surrogate = λ g. omega arith } in
    rw c.from_u32_unchecked.ensures (begins_with _ 2 _ sums (rw (least_value-below_3 2 (lit< tt)) any) scalar)
