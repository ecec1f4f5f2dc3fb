-- Shards that are transcoded strictly, up to the first fault, and joined.
use Rattle.std.proofs.Common.{◌≡◌, ℕ, ◌+◌, ◌-◌, ◌*◌, ◌/◌, ◌<◌, ◌≤◌, ⊎_elim, Bool, None, List, [], ◌∷◌, ◌++◌, length, take, drop, arith, refl, ap, ap₂, sym, ◌∙◌, length-drop}
use Rattle.std.specs.Prelude.{if◌then◌else◌, nat_lt, slice_range}
use Rattle.std.proofs.lemmas.Bool.{cases_lt, lt-ltb, le-ltb}
use Rattle.std.proofs.lemmas.Grind.{common_steps}
use Rattle.std.proofs.Math.Seq.{take-add}
use Rattle.std.proofs.lemmas.List.{append-nil, length-take-le, take-take}
use Rattle.utf_base.specs.Code.{utf8, utf16}
use Rattle.utf_base.specs.Piece.{Inside, IsPieceAt, Stands}
use Rattle.utf_base.proofs.Rests.{piece_in_list, piece_in_rest}
use Rattle.utf_base.proofs.Standing.{stands_in_part, stands_in_whole}
use Rattle.utf_lanes.specs.BytePairs.{units_of}
use Rattle.recoding.specs.declared.form.Form.{Form}
use Rattle.recoding.specs.Boundaries.{IsBoundary, IsUnitsEnd}
use Rattle.recoding.specs.FirstFaults.{IsFirstFault, IsFirstUnitFault}
use Rattle.recoding.specs.Shards.{IsStrict, StrictResult, StrictShardsJoin, joined_to_fault, joined_two}
use Rattle.recoding.specs.Strict.{Transcodes}
use Rattle.recoding.specs.TextForms.{text_form}
use Rattle.recoding.proofs.Forms.{by_form, is_units}
use Rattle.recoding.proofs.JoinedShards.{end_at_front, end_of_rest, even_units, units_within}
use Rattle.recoding.proofs.ShardLists.{Joins, shards_of}
use Rattle.recoding.proofs.TextRuns.{Transcodes-then, text_room}

-- The first fault of a list that is cut at an offset that no code covers.
module _ (code : ℕ → List ℕ) (xs : List ℕ) (n : ℕ) (le : n ≤ length xs) (out : Inside code xs n → ⊥) where
  front : slice_range xs 0 n ≡ take n xs
  front = grind (arith, common_steps)

  stands_in_whole_list : (p s : ℕ) → Stands code (take n xs) p s → Stands code xs p s
  stands_in_whole_list p s h = (stands_in_whole code xs 0 n p p s (omega arith) (omega arith) le (rw front h)).0

  stands_in_front : (p s : ℕ) → Stands code xs p s → p + length (code s) ≤ n → Stands code (take n xs) p s
  stands_in_front p s h fits = rw front at (stands_in_part code xs 0 n p p s (omega arith) le h fits)

  -- a fault of the list before the offset is one of the front
  fault_in_front : (p m : ℕ) → p < n → IsPieceAt code xs p m None → IsPieceAt code (take n xs) p m None
  fault_in_front p m lt h = (
    omega (arith, length-take-le n xs le),
    h.1,
    λ v. h.2 (record { from = v.from; char = v.char; stands = stands_in_whole_list v.from v.char v.stands; begins = v.begins; ends = v.ends }),
  )

  fault_of_front : (p m : ℕ) → IsPieceAt code (take n xs) p m None → IsPieceAt code xs p m None
  fault_of_front p m h =
      let lt = h.0 in
      let len = length-take-le n xs le in (
        omega arith,
        h.1,
        λ v.
            let begins = v.begins in
            let ends = v.ends in
            ⊎_elim
            (λ (over : n < v.from + length (code v.char)). out (record { from = v.from; char = v.char; stands = v.stands; begins = omega arith; ends = over }))
            (λ (fits : v.from + length (code v.char) ≤ n).
            h.2 (record { from = v.from; char = v.char; stands = stands_in_front v.from v.char v.stands fits; begins = begins; ends = ends }))
            (cases_lt n (v.from + length (code v.char))),
      )

  -- the first fault of a list is that of its front, if the front has one
  first_in_front : (k : ℕ) → k < n → IsFirstFault code (take n xs) k → IsFirstFault code xs k
  first_in_front k lt f = record {
    within = omega arith;
    none = λ x piece e.
        ⊎_elim
        (λ (early : x.start < n).
        f.none (record { start = x.start; len = x.len; char = None }) (fault_in_front x.start x.len early (rw e at piece)) refl)
        (λ (late : n ≤ x.start). omega arith)
        (cases_lt x.start n);
    fault = λ some. fault_of_front k 1 (f.fault (omega (arith, length-take-le n xs le)));
  }

  -- the first fault of a list is otherwise that of its rest
  first_in_rest : (k : ℕ) → IsFirstFault code (take n xs) n → IsFirstFault code (drop n xs) k → IsFirstFault code xs (n + k)
  first_in_rest k f g =
      let within = g.within in
      record {
        within = omega (arith, length-drop n xs);
        none = λ x piece e.
            ⊎_elim
            (λ (early : x.start < n).
            let least = f.none (record { start = x.start; len = x.len; char = None }) (fault_in_front x.start x.len early (rw e at piece)) refl in
            absurd (omega arith))
            (λ (late : n ≤ x.start).
            let least = g.none (record { start = x.start - n; len = x.len; char = None }) (piece_in_rest code xs n x.start (x.start - n) x.len None (omega arith) le (rw e at piece)) refl in
            omega arith)
            (cases_lt x.start n);
        fault = λ some. piece_in_list code xs n k 1 None le out (g.fault (omega (arith, length-drop n xs)));
      }

-- The first fault of units in bytes that are cut at an offset.
module _ (high : Bool) (bytes : List ℕ) (n : ℕ) (lt : n < length bytes) (end : IsUnitsEnd high bytes n) where
  even : n ≡ 2 * (n / 2)
  even = let zero = end.even lt in omega arith

  units_in_front : (k : ℕ) → k < n → IsFirstUnitFault high (take n bytes) k → IsFirstUnitFault high bytes k
  units_in_front k less f =
      let units = even_units high bytes n (n / 2) (omega arith) even in
      let count = units_within high bytes n (n / 2) (omega arith) even in
      let whole = f.even in
      record {
        within = omega arith;
        even = whole;
        first = first_in_front utf16 (units_of high bytes) (n / 2) count end.outside (k / 2) (omega (arith, even)) (rw units.0 at f.first);
      }

  units_in_rest : (k : ℕ) → IsFirstUnitFault high (take n bytes) n → IsFirstUnitFault high (drop n bytes) k → IsFirstUnitFault high bytes (n + k)
  units_in_rest k f g =
      let units = even_units high bytes n (n / 2) (omega arith) even in
      let count = units_within high bytes n (n / 2) (omega arith) even in
      let whole = g.even in
      let within = g.within in
      let half : (n + k) / 2 ≡ n / 2 + k / 2 = omega (arith, even) in
      record {
        within = omega (arith, length-drop n bytes);
        even = omega (arith, even);
        first = rw half (first_in_rest utf16 (units_of high bytes) (n / 2) count end.outside (k / 2) (rw units.0 at f.first) (rw units.1 at g.first));
      }

-- Each encoding.

-- the first fault of bytes is at that offset
abbrev FirstFault : Form → List ℕ → ℕ → Type 0
FirstFault from = (text_form from).first_fault

within_bytes : (from : Form) (bytes : List ℕ) (k : ℕ) → FirstFault from bytes k → k ≤ length bytes
within_bytes = by_form _ (λ bytes k f. f.within) (λ high. rw (is_units high, FirstFault) (λ bytes k f. f.within))

in_front : (from : Form) (bytes : List ℕ) (n : ℕ) → n < length bytes → IsBoundary from bytes n → (k : ℕ) → k < n → FirstFault from (take n bytes) k → FirstFault from bytes k
in_front =
    by_form _ (λ bytes n lt out. first_in_front utf8 bytes n (omega arith) out)
    (λ high. rw (is_units high, IsBoundary, FirstFault) (units_in_front high))

in_rest : (from : Form) (bytes : List ℕ) (n : ℕ) → n < length bytes → IsBoundary from bytes n → (k : ℕ) → FirstFault from (take n bytes) n → FirstFault from (drop n bytes) k
    → FirstFault from bytes (n + k)
in_rest =
    by_form _ (λ bytes n lt out. first_in_rest utf8 bytes n (omega arith) out)
    (λ high. rw (is_units high, IsBoundary, FirstFault) (units_in_rest high))

-- The result of a part, and then the result of the rest.

abbrev join : List ℕ → StrictResult → StrictResult → StrictResult
join part r s = if nat_lt r.read (length part) then r else joined_two r s

take_both : (xs : List ℕ) (n k : ℕ) → take (n + k) xs ≡ take n (take n xs) ++ take k (drop n xs)
take_both xs n k = take-add n k xs ∙ ap (λ ys. ys ++ take k (drop n xs)) (sym (take-take n n xs (omega arith)))

strict_parts : (from to : Form) (bytes : List ℕ) (r s : StrictResult) (n : ℕ) → n < length bytes → IsBoundary from bytes n
    → IsStrict from to (take n bytes) r → IsStrict from to (drop n bytes) s → IsStrict from to bytes (join (take n bytes) r s)
strict_parts from to bytes r s n lt end h g =
    let len : length (take n bytes) ≡ n = length-take-le n bytes (omega arith) in
    let most = within_bytes from (take n bytes) r.read h.fault in
    ⊎_elim
    (λ (early : r.read < n).
    rw (len, lt-ltb r.read n early)
    (record { fault = in_front from bytes n lt end r.read early h.fault; text = rw (take-take r.read n bytes (omega arith)) at h.text }))
    (λ (late : n ≤ r.read).
    let all : r.read ≡ n = omega arith in
    let fault : FirstFault from (take n bytes) n = rw all at h.fault in
    let text : Transcodes from to (take n (take n bytes)) r.out = rw all at h.text in
    rw (len, le-ltb r.read n late, all)
    (record {
      fault = in_rest from bytes n lt end s.read fault g.fault;
      text = rw (take_both bytes n s.read) (Transcodes-then text g.text);
    }))
    (cases_lt r.read n)

strict_alone : (from to : Form) (bytes : List ℕ) (r : StrictResult) → IsStrict from to bytes r → IsStrict from to bytes (join bytes r (record { out = []; read = 0 }))
strict_alone from to bytes r h =
    ⊎_elim
    (λ (early : r.read < length bytes). rw (lt-ltb r.read (length bytes) early) h)
    (λ (late : length bytes ≤ r.read).
    let none : r.read + 0 ≡ r.read = omega arith in
    rw (le-ltb r.read (length bytes) late, append-nil r.out, none) h)
    (cases_lt r.read (length bytes))

strict_of_nothing : (from to : Form) (r : StrictResult) → IsStrict from to [] r → r ≡ record { out = []; read = 0 }
strict_of_nothing from to r h =
    let most = within_bytes from [] r.read h.fault in
    let none : r.read ≡ 0 = omega arith in
    let text : Transcodes from to [] r.out = rw none at h.text in
    let short = text_room text in
    let empty : r.out ≡ [] = sym (append-nil r.out) ∙ drop_none r.out (omega arith) in
    ap₂ (λ out read. record { out = out; read = read }) empty none
  where
    drop_none : (xs : List ℕ) → length xs ≡ 0 → xs ++ [] ≡ []
    drop_none [] e = refl
    drop_none (x ∷ xs) e = absurd (omega arith)

-- The law.

strict_joins : (from to : Form) → Joins (IsBoundary from) (IsStrict from to) joined_to_fault
strict_joins from to = record {
  join = join;
  nothing = record { out = []; read = 0 };
  none = refl;
  more = λ part parts r results. refl;
  front = end_at_front from;
  rest = end_of_rest from;
  two = strict_parts from to;
  one = strict_alone from to;
  only = strict_of_nothing from to;
}

pub strict_shards_join : StrictShardsJoin
strict_shards_join from to bytes places results h b = shards_of (IsBoundary from) (IsStrict from to) joined_to_fault (strict_joins from to) bytes places results h b
