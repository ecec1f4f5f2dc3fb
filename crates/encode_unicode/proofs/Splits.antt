-- The remaining elements of a splitter, call by call. All of it is generic in the code.
use Rattle.std.proofs.Common.{◌≡◌, ℕ, suc, ◌+◌, ◌*◌, ◌<◌, ◌≤◌, List, [], ◌∷◌, ◌++◌, Some, None, length, refl, ap, sym, ◌∙◌, arith, length-append, append-nil}
use Rattle.std.proofs.Math.Nat.{mul-le-mul_left, mul_comm}
use Rattle.std.proofs.lemmas.Grind.{common_steps}
use Rattle.std.specs.Iterator.{Count, MakesProgress, YieldsFirst, count_map}
use Rattle.std.specs.List.{flat_map}
use Rattle.std.specs.Prelude.{Option, IfSome, Bool, true, false, nat_lt, ◌^◌, if◌then◌else◌}
use Rattle.utf_chars.specs.Taking.{BoundsLength}
use Rattle.encode_unicode.specs.Sources.{Splitting, SplitterNext, IsHintOf, SplitsHint, unsent, split_upper, split_hint}
use Rattle.utf_base.proofs.JoinedLengths.{joined_bounds}

module _ {S : Type 0} (code : ℕ → List ℕ) (steps : S → Option ℕ → S → Type 0) where
  -- the first element of the code of the next item
  pub sent_next : (s t : S) (x : ℕ) (begun fresh left : List ℕ) (r : Option ℕ) → begun ≡ [] → steps s (Some x) t → fresh ≡ code x → 0 < length (code x) → YieldsFirst (λ (xs : List ℕ). xs) fresh r left
      → SplitterNext code steps (record { begun = begun; source = s }) r (record { begun = left; source = t })
  sent_next s t x begun fresh left None none step is some h = let e : length (code x) ≡ 0 = ap length (sym is ∙ h.0) in absurd (omega arith)
  sent_next s t x begun fresh left (Some y) none step is some h = record {
    takes = λ rest listed. rw (none, listed s (Some x) t step, ← is, h) refl;
    given = x ∷ [];
    gave = (t, step, refl);
    sends = ap (λ xs. xs ++ flat_map code (x ∷ [])) none ∙ append-nil (code x) ∙ sym is ∙ h;
  }

times_less : (m a b : ℕ) → a < b → m * a + m ≤ m * b
times_less m a b h = grind (arith, common_steps)

-- the splitter has fewer elements left
pub nearer_by_next : {S : Type 0} (can : S → Type 0) (remaining : S → Count) (m : ℕ) (s t : S) (x : ℕ) (begun fresh left : List ℕ) (r : Option ℕ) → length fresh ≤ m → 0 < length fresh
    → YieldsFirst (λ (xs : List ℕ). xs) fresh r left → MakesProgress can remaining s (Some x) t
    → MakesProgress (λ (v : Splitting S). can v.source) (λ (v : Splitting S). count_map (λ n. length v.begun + m * n) (remaining v.source)) (record { begun = begun; source = s }) r (record { begun = left; source = t })
nearer_by_next can remaining m s t x begun fresh left None short some h goes = let e : length fresh ≡ 0 = ap length h.0 in absurd (omega arith)
nearer_by_next can remaining m s t x begun fresh left (Some y) short some h goes =
    let len : length fresh ≡ suc (length left) = ap length h in
    record {
      on = λ f. let on = goes.on f in let times = times_less m (remaining t).bound (remaining s).bound on.2 in (on.0, on.1, omega arith);
      keeps = goes.keeps;
      rests = λ f. tt;
    }

-- The size hint of a splitter.

fits_bound : (fits : Bool) (n k : ℕ) → k ≤ n → IfSome (if fits then Some n else None) (λ j. k ≤ j)
fits_bound true n k le = le
fits_bound false n k le = tt

pub upper_bound : (m h n k : ℕ) (high : Option ℕ) → IfSome high (λ j. n ≤ j) → k ≤ m * n → IfSome (split_upper m h high) (λ j. h + k ≤ j)
upper_bound m h n k None le short = tt
upper_bound m h n k (Some high) le short =
    let times : m * n ≤ m * high = mul-le-mul_left m le in
    let turned : m * high ≡ high * m = mul_comm m high in
    fits_bound (nat_lt (high * m + h) (2 ^ 64)) (high * m + h) (h + k) (omega arith)

-- a splitter's hint bounds the remaining elements if the source's hint bounds the items
pub split_bounds : {S : Type 0} (code : ℕ → List ℕ) (m : ℕ) → ((s : ℕ) → 0 < length (code s)) → ((s : ℕ) → length (code s) ≤ m) → (rest : S → List ℕ) (s : Splitting S) (hint : ℕ × Option ℕ)
    → BoundsLength (rest s.source) hint → BoundsLength (unsent code rest s) (split_hint m (length s.begun) hint)
split_bounds code m some short rest s hint b =
    let joined = joined_bounds code m some short (rest s.source) in
    let len : length (unsent code rest s) ≡ length s.begun + length (flat_map code (rest s.source)) = length-append s.begun (flat_map code (rest s.source)) in
    (omega arith, rw len (upper_bound m (length s.begun) (length (rest s.source)) (length (flat_map code (rest s.source))) hint.1 b.1 joined.1))

-- the hint that a splitter derives from its source's bounds the remaining elements
pub splits_hint : {S : Type 0} (code : ℕ → List ℕ) (m : ℕ) → ((s : ℕ) → 0 < length (code s)) → ((s : ℕ) → length (code s) ≤ m) → (remaining : S → Count) (s : Splitting S) (of_source hint : ℕ × Option ℕ) (n : ℕ)
    → IsHintOf (remaining s.source) of_source → hint ≡ split_hint m n of_source → n ≡ length s.begun → SplitsHint code m remaining s hint
splits_hint code m some short remaining s of_source hint n is_hint made len =
    let all : hint ≡ split_hint m (length s.begun) of_source = made ∙ ap (λ h. split_hint m h of_source) len in
    record { of_source = of_source; is_hint = is_hint; made = all; bounds = λ rest b. rw all (split_bounds code m some short rest s of_source b) }
