-- Items that are taken from a source one by one, and whose codes are appended.
use Rattle.std.proofs.Common.{◌≡◌, ℕ, ◌+◌, ◌<◌, List, [], ◌∷◌, ◌++◌, length, take, ap, sym, ◌∙◌, arith, length-append, append_assoc, append-nil}
use Rattle.std.proofs.Math.Seq.{take-append_seam}
use Rattle.std.proofs.lemmas.List.{flat_map_more}
use Rattle.std.specs.List.{flat_map}
use Rattle.encode_unicode.specs.Collections.{AddsFewer}

-- one more item is taken
pub one_more : {A : Type 0} {all : List A} (taken : List A) {left later : List A} {x : A} → all ≡ taken ++ left → left ≡ x ∷ later → all ≡ (taken ++ x ∷ []) ++ later
one_more taken {left} {later} {x} is first = is ∙ ap (λ ys. taken ++ ys) first ∙ sym (append_assoc taken (x ∷ []) later)

-- no item is left, so all were taken
pub none_left : {A : Type 0} (all taken left : List A) → all ≡ taken ++ left → left ≡ [] → all ≡ taken
none_left all taken left is none = is ∙ ap (λ ys. taken ++ ys) none ∙ append-nil taken

-- one is left, so the taken ones are fewer than all
fewer : {A : Type 0} (all taken left later : List A) (x : A) → all ≡ taken ++ left → left ≡ x ∷ later → length taken < length all
fewer all taken left later x is first =
    let len : length all ≡ length taken + length left = ap length is ∙ length-append taken left in
    let some = ap length first in
    omega arith

-- a list with an item left is not empty
pub not_none : {A : Type 0} {all : List A} (taken : List A) {left later : List A} {x : A} → all ≡ taken ++ left → left ≡ x ∷ later → all ≡ [] → ⊥
not_none {A} {all} taken {left} {later} {x} is first none =
    let some = fewer all taken left later x is first in
    let zero : length all ≡ 0 = ap length none in
    absurd (omega arith)

-- the codes of the taken items were appended, and there was no capacity for that of the next
pub first_added : {A B : Type 0} (code : A → List B) {all : List A} (taken : List A) {left later : List A} {x : A} {room : ℕ} {old new : List B} → all ≡ taken ++ left → left ≡ x ∷ later
    → new ≡ old ++ flat_map code taken → room < length ((old ++ flat_map code taken) ++ code x) → AddsFewer code all room old new
first_added code {all} taken {left} {later} {x} {room} {old} is first added full =
    let whole : all ≡ (taken ++ x ∷ []) ++ later = one_more taken is first in
    let len : length (taken ++ x ∷ []) ≡ length taken + 1 = length-append taken (x ∷ []) in
    let next : take (length taken + 1) all ≡ taken ++ x ∷ [] = sym (ap (λ n. take n all) len) ∙ ap (take (length (taken ++ x ∷ []))) whole ∙ take-append_seam (taken ++ x ∷ []) later in
    record {
      count = length taken;
      fewer = fewer all taken left later x is first;
      added = added ∙ ap (λ ys. old ++ flat_map code ys) (sym (ap (take (length taken)) is ∙ take-append_seam taken left));
      full = rw (next, ← flat_map_more code old taken x) full;
    }
