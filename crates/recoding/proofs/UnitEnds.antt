-- The last offset among units, up to another, that no character covers; and the first from another on.
use Rattle.std.proofs.Common.{◌≡◌, ℕ, ◌+◌, ◌-◌, ◌<◌, ◌≤◌, ⊎_elim, List, length, drop, arith}
use Rattle.std.proofs.lemmas.Bool.{cases_lt}
use Rattle.utf_base.specs.Code.{utf16}
use Rattle.utf_base.specs.Front.{BeginsWith}
use Rattle.utf_base.specs.Piece.{Stands}
use Rattle.utf_base.proofs.Standing.{not_inside, same_char}
use Rattle.utf_base.proofs.Utf16Code.{utf16_is_code, length_utf16}
use Rattle.recoding.specs.Boundaries.{IsLastTo, IsUnitBoundary, LiesOver}
use Rattle.recoding.proofs.LastBoundaries.{stands_in_list, stands_in_rest}

pub single_code : (xs : List ℕ) (s n : ℕ) → BeginsWith utf16 xs s n → n ≤ 1 → (t : ℕ) → Stands utf16 xs 0 t → length (utf16 t) ≤ 1
single_code xs s n (h, e) le t g =
    let same : t ≡ s = same_char utf16 utf16_is_code xs 0 t s g h in
    rw same (omega arith)

pub before_pair : (units : List ℕ) (at : ℕ) → 0 < at → at < length units → LiesOver utf16 (drop (at - 1) units) 0 1
    → IsLastTo (IsUnitBoundary units) (length units) at (at - 1)
before_pair units at some lt over =
    let stands = stands_in_list utf16 units (at - 1) over.char (omega arith) over.stands in
    let ends = over.ends in
    record {
      within = omega arith;
      before = omega arith;
      outside = not_inside utf16 utf16_is_code units (at - 1) over.char stands;
      last = λ m le lo out.
          ⊎_elim
          (λ (later : at - 1 < m). absurd (out (record { from = at - 1; char = over.char; stands = stands; begins = later; ends = omega arith })))
          (λ (early : m ≤ at - 1). early)
          (cases_lt (at - 1) m);
    }

pub no_pair_before : (units : List ℕ) (at : ℕ) → at < length units → (0 < at → (s : ℕ) → Stands utf16 (drop (at - 1) units) 0 s → length (utf16 s) ≤ 1)
    → IsLastTo (IsUnitBoundary units) (length units) at at
no_pair_before units at lt none = record {
  within = omega arith;
  before = omega arith;
  outside = λ v.
      let begins = v.begins in
      let ends = v.ends in
      let most = length_utf16 v.char in
      let from : v.from ≡ at - 1 = omega arith in
      let single = none (omega arith) v.char (stands_in_rest utf16 units (at - 1) v.char (rw from at v.stands)) in
      omega arith;
  last = λ m le lo out. lo;
}

-- No offset from `at` on, and before the other, is such an end.
pub record NoneBefore (IsEnd : ℕ → Type 0) (len at place : ℕ) : Type 0 where
  pub within : place ≤ len
  pub least : at ≤ len → at ≤ place
  pub end : len ≤ at → place ≡ len
  pub none : (m : ℕ) → at ≤ m → m < place → IsEnd m → ⊥

-- If the last such end up to the offset is before it, the offset is none, and that end is before `at`.
pub none_next : (IsEnd : ℕ → Type 0) (len at place n : ℕ) → NoneBefore IsEnd len at place → place < len → n < place
    → ((m : ℕ) → m ≤ len → m ≤ place → IsEnd m → m ≤ n) → NoneBefore IsEnd len at (place + 1)
none_next IsEnd len at place n before lt less last =
    let within = before.within in
    record {
      within = omega arith;
      least = λ le. let least = before.least le in omega arith;
      end = λ le. let end = before.end le in absurd (omega arith);
      none = λ m lo hi out.
          ⊎_elim
          (λ (early : m < place). before.none m lo early out)
          (λ (here : place ≤ m). let most = last m (omega arith) (omega arith) out in omega arith)
          (cases_lt m place);
    }

pub before_at : (IsEnd : ℕ → Type 0) (len at place n : ℕ) → NoneBefore IsEnd len at place → n < place → IsEnd n → n < at
before_at IsEnd len at place n before less out =
    ⊎_elim (λ (lt : n < at). lt) (λ (le : at ≤ n). absurd (before.none n le less out)) (cases_lt n at)

-- The offset is before the end of the list, if the last such end up to it is before it.
pub within_end : (IsEnd : ℕ → Type 0) (len place n : ℕ) → place ≤ len → n < place → IsEnd len → ((m : ℕ) → m ≤ len → m ≤ place → IsEnd m → m ≤ n) → place < len
within_end IsEnd len place n le less end last =
    ⊎_elim (λ (lt : place < len). lt) (λ (ge : len ≤ place). let most = last len (omega arith) ge end in omega arith) (cases_lt place len)
