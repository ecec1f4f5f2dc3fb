-- The offsets of the pieces of bytes in any encoding, and which of them are faults: of UTF-8 as those that a decoder
-- of bytes gives, of UTF-16 as those of units, and an odd last byte.
use Rattle.std.proofs.Common.{◌≡◌, ℕ, zero, suc, ◌+◌, ◌-◌, ◌*◌, ◌%◌, ◌^◌, ◌<◌, ◌≤◌, Bool, true, List, [], ◌∷◌, ◌++◌, length, length-drop, drop, map, is_err, get_or, Option, Some, None, Result, Ok, Err, arith, refl, ap, ap₂, sym, ◌∙◌}
use Rattle.std.proofs.lemmas.List.{take_rest}
use Rattle.std.proofs.lemmas.List.Elements.{All-drop}
use Rattle.std.proofs.lemmas.Simd.{map-map}
use Rattle.utf_base.specs.Decoded.{decoded, decoded_pairs}
use Rattle.utf_base.specs.Kinds.{fault_kind, merger_kind}
use Rattle.utf_base.specs.declared.errors.Utf8ErrorKind.{Utf8ErrorKind}
use Rattle.utf_base.specs.Scalar.{IsUnits}
use Rattle.utf_base.specs.Units.{unit_fault_kind, unit_value}
use Rattle.utf_base.specs.declared.errors.units.Utf16PairError.{Utf16PairError}
use Rattle.utf_base.specs.declared.errors.units.Utf16PairError.TheVariants.{Incomplete}
use Rattle.utf_lanes.specs.BytePairs.{units_of}
use Rattle.encode_unicode.specs.Mergers.{decoded_by_merger}
use Rattle.encode_unicode.specs.Pieces.{pieces, pieces_by, unit_pieces}
use Rattle.encode_unicode.specs.Window.{Placed, as_piece}
use Rattle.encode_unicode.proofs.ForCallers.{code_where_no_fault, decoded_code, decoded_pairs_code, decoded_pairs_kind, merger_none, some_units, units_where_no_kind}
use Rattle.recoding.specs.NextScalars.{HasByteOrder}
use Rattle.recoding.specs.declared.faults.FaultKind.{FaultKind}
use Rattle.recoding.specs.declared.faults.FaultKind.TheVariants as kind
use Rattle.recoding.specs.declared.form.Form.{Form}
use Rattle.recoding.specs.declared.form.Form.TheVariants.{Utf8}
use Rattle.recoding.proofs.JoinedShards.{even_units}
use Rattle.text_stream.specs.declared.located.LocatedPiece.{LocatedPiece}
use Rattle.text_stream.specs.FormPieces.{form_pieces, placed}
use Rattle.text_stream.specs.Located.{Told, first_told, in_bytes, located, located_by, told_as, wrapped}
use Rattle.text_runs.proofs.FaultLemmas.{pieces_first}
use Rattle.text_stream.proofs.FrontTold.{byte_last, lacking_units, told_units}
use Rattle.text_stream.proofs.LocatedLemmas.{located_first, located_none}
use Rattle.text_stream.proofs.LocatedLists.{told_len}
use Rattle.text_stream.proofs.MergedFronts.{merged_code, merged_kind}
use Rattle.text_stream.proofs.UnitFaults.{count_units}

-- the offset of an item, and whether it is a fault
abbrev pub mark : {E : Type 0} → Placed E → ℕ × Bool
mark x = (x.0, is_err x.1)

abbrev of_located : LocatedPiece → ℕ × Bool
of_located piece = (piece.offset, is_err piece.answer)

told_err : {E : Type 0} (kind : E → FaultKind) (x : Result ℕ E × ℕ) → is_err (told_as kind x).0 ≡ is_err x.0
told_err kind (Ok s, n) = refl
told_err kind (Err e, n) = refl

-- UTF-8: the kinds that a merger gives may differ, and nothing else does.

pub record IsFrontAlike (w : List ℕ) : Type 0 where
  pub err : is_err (as_piece (decoded_by_merger w)).0 ≡ is_err (as_piece (decoded w)).0
  pub len : (as_piece (decoded_by_merger w)).1 ≡ (as_piece (decoded w)).1
  pub within : 0 < length w → (as_piece (decoded w)).1 ≤ length w

decoded_kind : (w : List ℕ) (k : Utf8ErrorKind) → fault_kind w ≡ Some k → decoded w ≡ Err k
unfolding decoded
decoded_kind w k e = rw e refl

front_alike : (w : List ℕ) → IsFrontAlike w
front_alike w = by_kind (fault_kind w) refl
  where
    by_merger : (j : Option Utf8ErrorKind) (k : Utf8ErrorKind) → merger_kind w ≡ j → fault_kind w ≡ Some k → IsFrontAlike w
    by_merger None k e is = absurd (let none = merger_none w e in cc)
    by_merger (Some j) k e is = let a = merged_kind w j e in let b = decoded_kind w k is in record { err = rw (a, b) refl; len = rw (a, b) refl; within = λ some. rw b (omega arith) }

    by_kind : (k : Option Utf8ErrorKind) → fault_kind w ≡ k → IsFrontAlike w
    by_kind None e =
        let stands = (code_where_no_fault w e).0 in
        let within = stands.within in
        let a = merged_code w _ stands in
        let b = decoded_code w _ stands in
        record { err = rw (a, b) refl; len = rw (a, b) refl; within = λ some. rw b (omega arith) }
    by_kind (Some k) e = by_merger (merger_kind w) k refl e

bytes_marked : (n place : ℕ) (w : List ℕ) → place + length w < 2 ^ 64 → map of_located (located_by n Utf8 place w) ≡ map mark (pieces_by decoded n place w)
unfolding located_by pieces_by first_told
bytes_marked zero place w small = refl
bytes_marked (suc n) place [] small = refl
bytes_marked (suc n) place (b ∷ w) small =
    let v = b ∷ w in
    let x = as_piece (decoded v) in
    let y = told_as kind.Utf8 (as_piece (decoded_by_merger v)) in
    let alike = front_alike v in
    let len : y.1 ≡ x.1 = told_len kind.Utf8 (as_piece (decoded_by_merger v)) ∙ alike.len in
    let err : is_err y.0 ≡ is_err x.0 = told_err kind.Utf8 (as_piece (decoded_by_merger v)) ∙ alike.err in
    let within = alike.within (omega arith) in
    let left = length-drop x.1 v in
    let next : wrapped (place + x.1) ≡ place + x.1 = omega arith in
    ap₂ (λ (e : Bool) ps. (place, e) ∷ ps) err
    (ap (λ k. map of_located (located_by n Utf8 (wrapped (place + k)) (drop k v))) len ∙ ap (λ k. map of_located (located_by n Utf8 k (drop x.1 v))) next ∙ bytes_marked n (place + x.1) (drop x.1 v) (omega arith))

pub marks_of_bytes : (xs : List ℕ) → length xs < 2 ^ 64 → map mark (form_pieces Utf8 xs) ≡ map mark (pieces xs)
unfolding located
marks_of_bytes xs small =
    map-map mark placed (located Utf8 0 xs) ∙ bytes_marked (length xs) 0 xs (omega arith) ∙ ap (λ ys. map mark (pieces_by decoded (length ys) 0 ys)) (sym (take_rest xs 0))

-- UTF-16: the pieces of units, each unit of two bytes.

-- a mark of units, with the offset in bytes
abbrev pub doubled : ℕ × Bool → ℕ × Bool
doubled x = (2 * x.0, x.1)

-- the mark of an odd last byte, if the first byte is at an offset
pub odd_mark : ℕ → List ℕ → List (ℕ × Bool)
odd_mark place [] = []
odd_mark place (a ∷ []) = (place, true) ∷ []
odd_mark place (a ∷ b ∷ w) = odd_mark (place + 2) w

odd_later : (k place : ℕ) (w : List ℕ) → 2 * k ≤ length w → odd_mark place w ≡ odd_mark (place + 2 * k) (drop (2 * k) w)
unfolding odd_mark
odd_later zero place w le = let none : place + 2 * 0 ≡ place = omega arith in rw none refl
odd_later (suc k) place [] le = absurd (omega arith)
odd_later (suc k) place (a ∷ []) le = absurd (omega arith)
odd_later (suc k) place (a ∷ b ∷ w) le =
    let two : 2 * suc k ≡ suc (suc (2 * k)) = omega arith in
    let at : place + suc (suc (2 * k)) ≡ place + 2 + 2 * k = omega arith in
    rw (two, at) (odd_later k (place + 2) w (omega arith))

pub odd_marks : (place : ℕ) (w : List ℕ) → length (odd_mark place w) ≡ length w % 2
unfolding odd_mark
odd_marks place [] = refl
odd_marks place (a ∷ []) = refl
odd_marks place (a ∷ b ∷ w) = let rest = odd_marks (place + 2) w in omega arith

pub odd_at : (place : ℕ) (w : List ℕ) (d : ℕ × Bool) → length w % 2 ≡ 1 → get_or (odd_mark place w) 0 d ≡ (place + length w - 1, true)
unfolding odd_mark
odd_at place [] d odd = absurd (omega arith)
odd_at place (a ∷ []) d odd = ap (λ p. (p, true)) (omega arith)
odd_at place (a ∷ b ∷ w) d odd = odd_at (place + 2) w d (omega arith) ∙ ap (λ p. (p, true)) (omega arith)

piece_within : (us : List ℕ) → IsUnits us → 0 < length us → (as_piece (decoded_pairs us)).1 ≤ length us
piece_within us units some = by_kind (unit_fault_kind us) refl
  where
    by_kind : (k : Option Utf16PairError) → unit_fault_kind us ≡ k → (as_piece (decoded_pairs us)).1 ≤ length us
    by_kind None e =
        let stands = units_where_no_kind us units e in
        let within = stands.within in
        rw (decoded_pairs_code us (unit_value us) stands) (omega arith)
    by_kind (Some k) e = rw (decoded_pairs_kind us k e) (omega arith)

module _ (high : Bool) (from : Form) (form : HasByteOrder high from) where
  abbrev unit_marks : ℕ → List ℕ → List (ℕ × Bool)
  unit_marks place us = map doubled (map mark (pieces_by decoded_pairs (length us) place us))

  one_byte : (a : ℕ) → first_told from (a ∷ []) ≡ (Err (kind.Utf16 Incomplete), 1)
  one_byte a = byte_last high from form (a ∷ []) (omega arith) ∙ lacking_units high from 1 form

  units_marked : (n place : ℕ) (w : List ℕ) → length w ≤ n → 2 * place + length w < 2 ^ 64 → IsUnits (units_of high w)
      → map of_located (located from (2 * place) w) ≡ unit_marks place (units_of high w) ++ odd_mark (2 * place) w
  unfolding pieces_by odd_mark
  units_marked n place [] le small units = ap (map of_located) (located_none from (2 * place))
  units_marked n place (a ∷ []) le small units =
      let first = one_byte a in
      ap (map of_located) (located_first from (2 * place) (a ∷ []) (omega arith))
      ∙ ap (λ (x : Told). (2 * place, is_err x.0) ∷ map of_located (located from (wrapped (2 * place + x.1)) (drop x.1 (a ∷ [])))) first
      ∙ ap (λ ps. (2 * place, true) ∷ map of_located ps) (located_none from (wrapped (2 * place + 1)))
  units_marked zero place (a ∷ b ∷ w) le small units = absurd (omega arith)
  units_marked (suc n) place (a ∷ b ∷ w) le small units =
      let v = a ∷ b ∷ w in
      let us = units_of high v in
      let x = as_piece (decoded_pairs us) in
      let y = first_told from v in
      let k = x.1 in
      let count = count_units high v in
      let some : 1 ≤ k = some_units us in
      let within : k ≤ length us = piece_within us units (omega arith) in
      let told : y ≡ in_bytes v (told_as kind.Utf16 x) = told_units high from v form in
      let of_x = told_len kind.Utf16 x in
      let len : y.1 ≡ 2 * k = ap (λ (z : Told). z.1) told ∙ omega (arith, of_x, count.0) in
      let err : is_err y.0 ≡ is_err x.0 = ap (λ (z : Told). is_err z.0) told ∙ told_err kind.Utf16 x in
      let left = length-drop (2 * k) v in
      let next : wrapped (2 * place + 2 * k) ≡ 2 * (place + k) = omega (arith, count.0) in
      let rest : units_of high (drop (2 * k) v) ≡ drop k us = (even_units high v (2 * k) k (omega (arith, count.0)) refl).1 in
      let odd : odd_mark (2 * place) v ≡ odd_mark (2 * (place + k)) (drop (2 * k) v) = odd_later k (2 * place) v (omega (arith, count.0)) ∙ ap (λ p. odd_mark p (drop (2 * k) v)) (omega arith) in
      let later = units_marked n (place + k) (drop (2 * k) v) (omega (arith, count.0)) (omega (arith, count.0)) (rw rest (All-drop (λ u. u < 0x1_0000) k us units)) in
      let of_units : pieces_by decoded_pairs (length us) place us ≡ (place, x.0, x.1) ∷ pieces_by decoded_pairs (length (drop k us)) (place + k) (drop k us) = pieces_first decoded_pairs some_units place us (omega arith) in
      ap (map of_located) (located_first from (2 * place) v (omega arith))
      ∙ ap (λ e. (2 * place, e) ∷ map of_located (located from (wrapped (2 * place + y.1)) (drop y.1 v))) err
      ∙ ap (λ m. (2 * place, is_err x.0) ∷ map of_located (located from (wrapped (2 * place + m)) (drop m v))) len
      ∙ ap (λ p. (2 * place, is_err x.0) ∷ map of_located (located from p (drop (2 * k) v))) next
      ∙ ap (λ ms. (2 * place, is_err x.0) ∷ ms) (later ∙ ap₂ (λ vs o. unit_marks (place + k) vs ++ o) rest (sym odd))
      ∙ ap (λ ps. map doubled (map mark ps) ++ odd_mark (2 * place) v) (sym of_units)

  pub marks_of_units : (xs : List ℕ) → length xs < 2 ^ 64 → IsUnits (units_of high xs) → map mark (form_pieces from xs) ≡ map doubled (map mark (unit_pieces (units_of high xs))) ++ odd_mark 0 xs
  marks_of_units xs small units =
      map-map mark placed (located from 0 xs) ∙ units_marked (length xs) 0 xs (omega arith) (omega arith) units
      ∙ ap (λ us. map doubled (map mark (pieces_by decoded_pairs (length us) 0 us)) ++ odd_mark 0 xs) (sym (take_rest (units_of high xs) 0))
