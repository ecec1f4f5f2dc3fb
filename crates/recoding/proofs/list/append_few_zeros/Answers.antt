use Rattle.std.proofs.Common.{◌≡◌, ℕ, ◌+◌, ◌-◌, List, ◌++◌, Ok, Err, ◌∙◌, ap, ap₂, arith, length, take}
use Rattle.std.specs.Prelude.{if◌then◌else◌, is_ok, replicate, IsOk, Result}
use Rattle.std.proofs.lemmas.List.{length-replicate, take_all}
use Rattle.recoding.proofs.list.append_few_zeros.Goals as goal

-- a list that was resized, if that did not fail
resized : {U E : Type 0} (r : Result U E) (xs new : List ℕ) (n k count : ℕ) → IsOk r → new ≡ (if is_ok r then take n xs ++ replicate (n - k) 0 else xs) → n ≡ k + count → k ≡ length xs → new ≡ xs ++ replicate count 0
resized (Ok u) xs new n k count done e sum len =
    let more : n - k ≡ count = omega arith in
    e ∙ ap₂ (λ ys m. ys ++ replicate m 0) (take_all n xs (omega arith)) more
resized (Err x) xs new n k count done e sum len = absurd cc

pub returns : goal.returns
returns g c =
    let old = c.args.out.now in
    let count = c.args.count in
    record {
      bytes = replicate count 0;
      extends = record {
        items = resized c.resize.result old.items _ _ _ count (c.resize.ensures.succeeds (omega arith)) c.resize.ensures.items (ap (λ n. n + count) c.len.ensures) old.ok.0;
        capacity = c.resize.ensures.capacity;
      };
      len = length-replicate count 0;
    }
