-- The first fault of a list, searched one character after another.
use Rattle.std.proofs.Common.{◌≡◌, ℕ, ◌+◌, ◌<◌, ◌≤◌, ⊎_elim, List, length, drop, arith, ap, ◌∙◌, Option, Some, None}
use Rattle.std.proofs.lemmas.Bool.{cases_lt}
use Rattle.std.proofs.lemmas.List.{take_rest}
use Rattle.std.specs.Prelude.{slice_range}
use Rattle.utf_base.specs.Code.{IsCode, utf8, utf16}
use Rattle.utf_base.specs.Front.{BeginsWith}
use Rattle.utf_base.specs.Piece.{Inside, Piece, IsPiece, Stands}
use Rattle.utf_base.specs.Kinds.{fault_kind}
use Rattle.utf_base.specs.Units.{slice_fault, unit_fault_kind}
use Rattle.utf_base.specs.declared.errors.Utf8ErrorKind.{Utf8ErrorKind}
use Rattle.utf_base.specs.declared.errors.units.Utf16SliceError.{Utf16SliceError}
use Rattle.utf_base.specs.declared.errors.units.Utf16PairError.{Utf16PairError}
use Rattle.utf_base.proofs.Cuts.{char_at, front_char, front_fault, one_piece_begins, pieces_never_overlap}
use Rattle.utf_base.proofs.FrontLemmas.{no_code_where_fault}
use Rattle.utf_base.proofs.Standing.{outside_front, outside_end}
use Rattle.utf_base.proofs.UnitLemmas.{no_units_where_fault, no_units_where_kind}
use Rattle.utf_base.proofs.Utf8Code.{utf8_is_code}
use Rattle.utf_base.proofs.Utf16Code.{utf16_is_code}
use Rattle.recoding.specs.FirstFaults.{IsFirstFault}

-- no code begins elements that have a kind
abbrev pub Excludes : {E : Type 0} → (ℕ → List ℕ) → (List ℕ → Option E) → Type 0
Excludes {E} code kind = (w : List ℕ) (k : E) (s : ℕ) → kind w ≡ Some k → Stands code w 0 s → ⊥

-- no fault begins before the offset, and no code covers it
pub record IsGoodTo (code : ℕ → List ℕ) (xs : List ℕ) (i : ℕ) : Type 0 where
  pub within : i ≤ length xs
  pub none : (x : Piece) → IsPiece code xs x → x.char ≡ None → i ≤ x.start
  pub outside : Inside code xs i → ⊥

pub good_front : (code : ℕ → List ℕ) (xs : List ℕ) → IsGoodTo code xs 0
good_front code xs = record { within = omega arith; none = λ x h e. omega arith; outside = outside_front code xs }

no_some : (s : ℕ) → Some s ≡ None → ⊥
no_some s e = cc

pub good_step : (code : ℕ → List ℕ) → IsCode code → (xs : List ℕ) (i s n : ℕ) → IsGoodTo code xs i → BeginsWith code (drop i xs) s n → IsGoodTo code xs (i + n)
good_step code c xs i s n g (h, e) =
    let within = g.within in
    let stands : Stands code (slice_range xs i (length xs)) 0 s = rw (take_rest xs i) h in
    let f = front_char code c xs i (length xs) s within (omega arith) stands in
    record {
      within = omega arith;
      none = λ x p bad.
          let least = g.none x p bad in
          ⊎_elim
          (λ (later : i < x.start). let over = (pieces_never_overlap code c xs (char_at code i s) x f.0 p).1 later in omega arith)
          (λ (here : x.start ≤ i).
          let at : i ≡ x.start = omega arith in
          let same : char_at code i s ≡ x = one_piece_begins code c xs (char_at code i s) x f.0 p at in
          let no : Some s ≡ None = ap (λ y. y.char) same ∙ bad in
          absurd (no_some s no))
          (cases_lt i x.start);
      outside = rw e f.2;
    }

good_fault : {E : Type 0} (code : ℕ → List ℕ) (kind : List ℕ → Option E) → Excludes code kind → (xs : List ℕ) (i : ℕ) (k : E) → IsGoodTo code xs i → i < length xs
    → kind (drop i xs) ≡ Some k → IsFirstFault code xs i
good_fault code kind apart xs i k g lt e =
    let f = front_fault code xs i (length xs) g.outside (outside_end code xs) lt (omega arith) (λ s h. apart (drop i xs) k s e (rw (take_rest xs i) at h)) in
    record { within = g.within; none = g.none; fault = λ _. f.0 }

pub good_all : (code : ℕ → List ℕ) (xs : List ℕ) (i : ℕ) → IsGoodTo code xs i → length xs ≤ i → IsFirstFault code xs i
good_all code xs i g le = record { within = g.within; none = g.none; fault = λ lt. absurd (omega arith) }

-- No fault of bytes, and of units, begins before the offset after one more character.

pub good_bytes : (xs : List ℕ) (i s n : ℕ) → IsGoodTo utf8 xs i → BeginsWith utf8 (drop i xs) s n → IsGoodTo utf8 xs (i + n)
good_bytes = good_step utf8 utf8_is_code

pub good_units : (xs : List ℕ) (i s n : ℕ) → IsGoodTo utf16 xs i → BeginsWith utf16 (drop i xs) s n → IsGoodTo utf16 xs (i + n)
good_units = good_step utf16 utf16_is_code

pub first_fault : (xs : List ℕ) (i : ℕ) (k : Utf8ErrorKind) → IsGoodTo utf8 xs i → i < length xs → fault_kind (drop i xs) ≡ Some k → IsFirstFault utf8 xs i
first_fault = good_fault utf8 fault_kind no_code_where_fault

pub first_unit_fault : (xs : List ℕ) (i : ℕ) (k : Utf16SliceError) → IsGoodTo utf16 xs i → i < length xs → slice_fault (drop i xs) ≡ Some k → IsFirstFault utf16 xs i
first_unit_fault = good_fault utf16 slice_fault no_units_where_fault

-- the first fault, by the kind that a decoder of pairs gives
pub first_pair_fault : (xs : List ℕ) (i : ℕ) (k : Utf16PairError) → IsGoodTo utf16 xs i → i < length xs → unit_fault_kind (drop i xs) ≡ Some k → IsFirstFault utf16 xs i
first_pair_fault = good_fault utf16 unit_fault_kind no_units_where_kind
