-- The size hint of a merger.
use Rattle.std.proofs.Common.{◌≡◌, ℕ, ◌+◌, ◌*◌, ◌/◌, ◌<◌, ◌≤◌, List, length, Some, None, Bool, true, false, refl, ap, ◌∙◌, arith, length-append}
use Rattle.std.specs.Iterator.{Count}
use Rattle.std.specs.Prelude.{Option, IfSome}
use Rattle.utf_base.specs.Code.{IsCode}
use Rattle.utf_base.proofs.Cuts.{Finds, count_of_cut}
use Rattle.utf_chars.specs.Taking.{BoundsLength}
use Rattle.encode_unicode.specs.Hints.{BoundsCut}
use Rattle.encode_unicode.specs.Mergers.{Merging, MergesHint, hint_until, merge_hint, still, unread}
use Rattle.encode_unicode.specs.Sources.{IsHintOf}
use Rattle.encode_unicode.proofs.Splits.{upper_bound}

no_more : (o : Option ℕ) (p q : ℕ) → p ≤ q → IfSome o (λ j. q ≤ j) → IfSome o (λ j. p ≤ j)
no_more None p q le h = tt
no_more (Some j) p q le h = omega arith

-- a source that has ended still gives no more than its list
still_fewer : {S : Type 0} (rest : S → List ℕ) (s : S) (e : Bool) → length (still rest s e) ≤ 1 * length (rest s)
still_fewer rest s true = omega arith
still_fewer rest s false = omega arith

-- a source that has ended gives no less than its hint, once that is 0
lower_until : {S : Type 0} (rest : S → List ℕ) (s : S) (e : Bool) (hint : ℕ × Option ℕ) → hint.0 ≤ length (rest s) → (hint_until e hint).0 ≤ length (still rest s e)
lower_until rest s true hint le = omega arith
lower_until rest s false hint le = le

-- the hint of a source that has ended is already 0, if it bounds what the source gives
until_plain : (e : Bool) (hint : ℕ × Option ℕ) (n : ℕ) → (e ≡ true → n ≡ 0) → hint.0 ≤ n → hint_until e hint ≡ hint
until_plain true hint n none le = let known = none refl in let zero : 0 ≡ hint.0 = omega arith in ap (λ low. (low, hint.1)) zero
until_plain false hint n none le = refl

pub merges_hint : {S : Type 0} (code : ℕ → List ℕ) → IsCode code → Finds code → (m : ℕ) → ((s : ℕ) → length (code s) ≤ m) → 0 < m → ((a n : ℕ) → a ≤ m * n → a / m ≤ n)
    → (remaining : S → Count) (v : Merging S) (of_source hint : ℕ × Option ℕ) → IsHintOf (remaining v.source) of_source → hint ≡ merge_hint m (length v.held) (hint_until v.ended of_source)
    → MergesHint code m remaining v hint
merges_hint {S} code is_code finds m short positive divides remaining v of_source hint is_hint made = record {
  of_source = of_source;
  is_hint = is_hint;
  made = made;
  plain = λ rest spent b. made ∙ ap (merge_hint m (length v.held)) (until_plain v.ended of_source (length (rest v.source)) (λ ends. ap length (spent ends)) b.0);
  bounds = λ rest b. rw made (bounds_of rest b);
}
  where
    bounds_of : (rest : S → List ℕ) → BoundsLength (rest v.source) of_source → BoundsCut code (unread rest v) (merge_hint m (length v.held) (hint_until v.ended of_source))
    bounds_of rest b ps cut =
        let count = count_of_cut code is_code finds m short positive (unread rest v) ps cut in
        let len : length (unread rest v) ≡ length v.held + length (still rest v.source v.ended) = length-append v.held (still rest v.source v.ended) in
        let low = lower_until rest v.source v.ended of_source b.0 in
        let high = upper_bound 1 (length v.held) (length (rest v.source)) (length (still rest v.source v.ended)) of_source.1 b.1 (still_fewer rest v.source v.ended) in
        (divides (hint_until v.ended of_source).0 (length ps) (omega arith), no_more _ (length ps) (length v.held + length (still rest v.source v.ended)) (omega arith) high)

pub divides_4 : (a n : ℕ) → a ≤ 4 * n → a / 4 ≤ n
divides_4 a n h = omega arith

pub divides_2 : (a n : ℕ) → a ≤ 2 * n → a / 2 ≤ n
divides_2 a n h = omega arith
