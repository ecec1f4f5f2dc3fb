-- The code that covers an offset, and the offsets between two pieces near it.
use Rattle.std.proofs.Common.{◌≡◌, ℕ, ◌+◌, ◌-◌, ◌<◌, ◌≤◌, List, length, get_or, take, drop, None, Some, ⊎_elim, arith, refl, ap, ◌∙◌, false, length-drop}
use Rattle.std.proofs.lemmas.Bool.{cases_lt}
use Rattle.std.proofs.lemmas.List.{get_or-drop, take_rest}
use Rattle.std.specs.Prelude.{slice_range}
use Rattle.utf_base.specs.Code.{utf8}
use Rattle.utf_base.specs.CutLaws.{CodesNeverOverlap}
use Rattle.utf_base.specs.Front.{BeginsWith}
use Rattle.utf_base.specs.Kinds.{fault_kind, is_continuation}
use Rattle.utf_base.specs.Piece.{Inside, Stands}
use Rattle.utf_base.specs.declared.errors.Utf8ErrorKind.{Utf8ErrorKind}
use Rattle.utf_base.proofs.Cuts.{front_char}
use Rattle.utf_base.proofs.FrontLemmas.{decodes_from_none, no_code_where_fault, no_fault_where_code}
use Rattle.utf_base.proofs.Standing.{same_char}
use Rattle.utf_base.proofs.Utf8Code.{utf8_is_code, length_utf8}
use Rattle.recoding.proofs.CodeFronts.{continues_not}
use Rattle.text_runs.specs.PieceBoundaries.{IsBetween, IsCodeOver, IsEndFrom, IsFirstBetween, IsLastBetween}
use Rattle.text_runs.proofs.InnerLemmas.{asked_len}

-- no code that begins from the offset i on and before j covers p
abbrev pub NoneOver : List ℕ → ℕ → ℕ → ℕ → Type 0
NoneOver xs p i j = (k s : ℕ) → i ≤ k → k < j → Stands utf8 xs k s → k + length (utf8 s) ≤ p

-- a code at an offset begins the rest from there on
stands_at_front : (xs : List ℕ) (i s : ℕ) → Stands utf8 xs i s → Stands utf8 (slice_range xs i (length xs)) 0 s
stands_at_front xs i s h =
    let len : 0 + length (utf8 s) - 0 ≡ i + length (utf8 s) - i = omega arith in
    let fits = h.within in
    rw (take_rest xs i) (record {
      scalar = h.scalar;
      within = omega (arith, fits, length-drop i xs);
      equal = ap (λ n. take n (drop i xs)) len ∙ h.equal;
    })

pub end_of_char : (xs : List ℕ) (i s n : ℕ) → i ≤ length xs → BeginsWith utf8 (slice_range xs i (length xs)) s n → IsEndFrom xs i (i + n)
end_of_char xs i s n le (h, e) = record {
  code = λ t stands. ap (λ k. i + k) (e ∙ ap (λ c. length (utf8 c)) (same_char utf8 utf8_is_code (slice_range xs i (length xs)) 0 s t h (stands_at_front xs i t stands)));
  some = λ _. (s, (front_char utf8 utf8_is_code xs i (length xs) s le (omega arith) h).0.0);
}

pub end_of_fault : (xs : List ℕ) (i : ℕ) (k : Utf8ErrorKind) → fault_kind (slice_range xs i (length xs)) ≡ Some k → IsEndFrom xs i i
end_of_fault xs i k fault = record {
  code = λ t stands. absurd (no_code_where_fault (slice_range xs i (length xs)) k t fault (stands_at_front xs i t stands));
  some = λ lt. absurd (omega arith);
}

pub over_push : {xs : List ℕ} (p i : ℕ) {j e : ℕ} → NoneOver xs p i j → IsEndFrom xs j e → e ≤ p → NoneOver xs p i (j + 1)
over_push p i {j} none ends le k t from before stands = ⊎_elim
    (λ (lt : k < j). none k t from lt stands)
    (λ (ge : j ≤ k).
    let at : k ≡ j = omega arith in
    let end = ends.code t (rw at at stands) in
    omega arith)
    (cases_lt k j)

pub over_found : (xs : List ℕ) (p j e : ℕ) → IsEndFrom xs j e → j < p → p < e → IsCodeOver xs j e p
over_found xs p j e ends before over =
    let code = ends.some (omega arith) in
    record { char = code.0; stands = code.1; end = ends.code code.0 code.1; begins = before; over = over }

-- a code has at most four bytes, so one that covers the offset begins at most three before it
pub none_over : (xs : List ℕ) (p : ℕ) → p ≤ length xs → NoneOver xs p (p - 3) p → IsBetween xs p
none_over xs p le none = record {
  within = le;
  outside = λ inside.
      let begins = inside.begins in
      let most = length_utf8 inside.char in
      let before = none inside.from inside.char (omega arith) begins inside.stands in
      omega arith;
}

-- a byte that a code covers continues it
over_continues : (xs : List ℕ) (p : ℕ) → Inside utf8 xs p → (0x80 ≤ get_or xs p 0) × (get_or xs p 0 < 0xC0)
over_continues xs p i =
    let w = drop i.from xs in
    let stands : Stands utf8 w 0 i.char = rw (take_rest xs i.from) at (stands_at_front xs i.from i.char i.stands) in
    let none : fault_kind w ≡ None = no_fault_where_code w i.char stands in
    let long = asked_len w i.char (length (utf8 i.char)) stands refl in
    let begins = i.begins in
    let ends = i.ends in
    let byte = (decodes_from_none w none).follow (p - i.from) (omega arith) (omega arith) in
    let place : i.from + (p - i.from) ≡ p = omega arith in
    let same : get_or w (p - i.from) 0 ≡ get_or xs p 0 = get_or-drop i.from xs (p - i.from) 0 ∙ ap (λ k. get_or xs k 0) place in
    rw same at byte

pub none_at_end : (xs : List ℕ) (p : ℕ) → p ≡ length xs → IsBetween xs p
none_at_end xs p end = record {
  within = omega arith;
  outside = λ i.
      let within = i.stands.within in
      let ends = i.ends in
      omega arith;
}

pub none_over_start : (xs : List ℕ) (p : ℕ) → p ≤ length xs → is_continuation (get_or xs p 0) ≡ false → IsBetween xs p
none_over_start xs p le starts = record { within = le; outside = λ i. continues_not (get_or xs p 0) starts (over_continues xs p i) }

pub last_at : (xs : List ℕ) (p : ℕ) → IsBetween xs p → IsLastBetween xs p p
last_at xs p b = record { between = b; before = omega arith; last = λ k lo hi. absurd (omega arith) }

pub first_at : (xs : List ℕ) (p : ℕ) → IsBetween xs p → IsFirstBetween xs p p
first_at xs p b = record { between = b; after = omega arith; first = λ k lo hi. absurd (omega arith) }

inside_of : (xs : List ℕ) (i j p k : ℕ) → IsCodeOver xs i j p → i < k → k < j → Inside utf8 xs k
inside_of xs i j p k over lo hi = let end = over.end in record { from = i; char = over.char; stands = over.stands; begins = lo; ends = omega arith }

-- the code's own ends are between pieces
pub last_before : CodesNeverOverlap utf8 → (xs : List ℕ) (i j p : ℕ) → IsCodeOver xs i j p → IsLastBetween xs p i
last_before apart xs i j p over =
    let within = over.stands.within in
    let begins = over.begins in
    let ends = over.over in record {
      between = record {
        within = omega arith;
        outside = λ inside.
            let fits = (apart xs inside.from i inside.char over.char inside.stands over.stands).1 inside.begins in
            omega arith;
      };
      before = omega arith;
      last = λ k lo hi. inside_of xs i j p k over lo (omega arith);
    }

pub first_after : (xs : List ℕ) (i j p : ℕ) → IsCodeOver xs i j p → IsFirstBetween xs p j
first_after xs i j p over =
    let end = over.end in
    let within = over.stands.within in
    let ends = over.over in record {
      between = record { within = omega arith; outside = rw end (front_char utf8 utf8_is_code xs i (length xs) over.char (omega arith) (omega arith) (stands_at_front xs i over.char over.stands)).2 };
      after = omega arith;
      first = λ k lo hi. inside_of xs i j p k over (omega arith) hi;
    }
