use Rattle.std.proofs.Common.{◌≡◌, ℕ, ◌+◌, ◌-◌, List, ◌++◌, take, arith, sym}
use Rattle.std.proofs.lemmas.List.{take_all}
use Rattle.std.specs.Prelude.{slice_range}
use Rattle.cuts.proofs.Parts.{take_plus}
use Rattle.run_examples.proofs.parts.recode_in_parts.Goals as goal

longer : (p n : ℕ) (xs : List ℕ) → take (p + n) xs ≡ take p xs ++ slice_range xs p (p + n)
longer p n xs = let count : p + n - p ≡ n = omega arith in rw count (take_plus p n xs)

pub loop-place-preserved : goal.loop-place-preserved
loop-place-preserved g c = c.parts_are_one_part.ensures.part c.args.from c.args.to _ _ _ c.loop-place.out.items _ _ _ c.loop-place.invariant c.in_ok-feed.ensures.ok (longer _ _ _)

pub returns : goal.returns
returns g c =
    c.parts_are_one_part.ensures.whole c.args.from c.args.to _ c.args.bytes.now _ _ _ c.loop-place.invariant c.in_ok-finish.ensures.ok
    (sym (take_all _ _ c.loop-place-test.false))
