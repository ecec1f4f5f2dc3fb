-- The laws of located pieces.
use Rattle.std.proofs.Common.{◌≡◌, ℕ, zero, suc, ◌+◌, ◌<◌, ◌≤◌, ⊎_elim, List, [], ◌∷◌, ◌++◌, length, drop, map, Result, Ok, Err, arith, refl, ap, ap₂, sym, ◌∙◌, append_assoc, length-append, get_or}
use Rattle.std.proofs.lemmas.Bool.{cases_lt}
use Rattle.std.proofs.lemmas.List.{append-nil, get_or-append-add, get_or_append_left, nil_from_length}
use Rattle.std.specs.List.{concat}
use Rattle.std.specs.Result.{result_map_both}
use Rattle.encode_unicode.specs.Mergers.{decoded_by_merger, merged}
use Rattle.encode_unicode.specs.Pieces.{pieces_by}
use Rattle.encode_unicode.specs.Window.{as_piece}
use Rattle.recoding.specs.declared.faults.FaultKind.{FaultKind}
use Rattle.recoding.specs.declared.faults.FaultKind.TheVariants as kind
use Rattle.recoding.specs.declared.form.Form.TheVariants.{Utf8}
use Rattle.text_stream.specs.declared.located.LocatedPiece.{LocatedPiece}
use Rattle.text_stream.specs.Located.{at_offset, first_told, located, located_by, told_as, wrapped}
use Rattle.text_stream.specs.LocatedLaws.{LocatedAreMerged, NoPieceComesEarlier, PartsAreLocated}
use Rattle.text_stream.proofs.LocatedLemmas.{located_first, located_none}

-- A merger's results.

told_answer : {E : Type 0} (kind : E → FaultKind) (x : Result ℕ E × ℕ) → (told_as kind x).0 ≡ result_map_both (λ s. s) kind x.0
told_answer kind (Ok s, n) = refl
told_answer kind (Err e, n) = refl

pub told_len : {E : Type 0} (kind : E → FaultKind) (x : Result ℕ E × ℕ) → (told_as kind x).1 ≡ x.1
told_len kind (Ok s, n) = refl
told_len kind (Err e, n) = refl

merged_by : (n offset place : ℕ) (w : List ℕ) → map (λ p. p.answer) (located_by n Utf8 offset w) ≡ map (λ r. result_map_both (λ s. s) kind.Utf8 r) (map (λ x. x.1) (pieces_by decoded_by_merger n place w))
unfolding located_by pieces_by first_told
merged_by zero offset place w = refl
merged_by (suc n) offset place [] = refl
merged_by (suc n) offset place (b ∷ w) =
    let x = as_piece (decoded_by_merger (b ∷ w)) in
    let y = told_as kind.Utf8 x in
    let left : map (λ p. p.answer) (located_by n Utf8 (wrapped (offset + y.1)) (drop y.1 (b ∷ w))) ≡ map (λ p. p.answer) (located_by n Utf8 (wrapped (offset + y.1)) (drop x.1 (b ∷ w)))
    = ap (λ k. map (λ (p : LocatedPiece). p.answer) (located_by n Utf8 (wrapped (offset + y.1)) (drop k (b ∷ w)))) (told_len kind.Utf8 x) in
    ap₂ (λ r rs. r ∷ rs) (told_answer kind.Utf8 x) (left ∙ merged_by n (wrapped (offset + y.1)) (place + x.1) (drop x.1 (b ∷ w)))

pub located_are_merged : LocatedAreMerged
unfolding located merged
located_are_merged offset bytes = merged_by (length bytes) offset 0 bytes

-- Parts.

pub parts_are_located : PartsAreLocated
parts_are_located d [] given h = h ∙ ap (located d.form d.offset) (sym (append-nil d.held))
parts_are_located d (part ∷ parts) given (e, here, later, locates, form, rest, both) =
    let ih = parts_are_located e parts later rest in
    let same : located e.form e.offset (e.held ++ concat parts) ≡ located d.form e.offset (e.held ++ concat parts) = ap (λ f. located f e.offset (e.held ++ concat parts)) form in
    both ∙ ap (λ ps. here ++ ps) (ih ∙ same) ∙ sym (locates.same (concat parts)) ∙ ap (located d.form d.offset) (append_assoc d.held part (concat parts))

-- No piece can be given earlier.

no_more : (xs ys : List LocatedPiece) (us vs : List LocatedPiece) → xs ++ us ≡ ys ++ vs → us ≡ [] → length ys ≤ length xs
no_more xs ys us vs e none =
    omega (arith, ap length e, length-append xs us, length-append ys vs, ap length none)

same_at : (xs ys us vs : List LocatedPiece) (d : LocatedPiece) → xs ++ us ≡ ys ++ vs → length xs < length ys → get_or us 0 d ≡ get_or ys (length xs) d
same_at xs ys us vs d e lt =
    sym (get_or-append-add xs us 0 d) ∙ ap₂ (λ ps k. get_or ps k d) e (omega arith) ∙ get_or_append_left ys vs d (length xs) lt

pub no_piece_earlier : NoPieceComesEarlier
no_piece_earlier form offset next other_next bytes held left given other a waits b =
    ⊎_elim
    (λ (lt : length given < length other).
    ⊎_elim
    (λ (some : 0 < length held).
    let o = waits some in
    let d = at_offset 0 (first_told form held) in
    let at = λ (later : List ℕ). same_at given other (located form next (held ++ later)) (located form other_next (left ++ later)) d (sym (a.same later) ∙ b.same later) lt in
    let first = λ (later : List ℕ). ap (λ ps. get_or ps 0 d) (located_first form next (held ++ later) (omega (arith, length-append held later))) in
    let same : at_offset next (first_told form (held ++ o.one)) ≡ at_offset next (first_told form (held ++ o.other)) = sym (first o.one) ∙ at o.one ∙ sym (at o.other) ∙ first o.other in
    absurd (o.differ (ap (λ (p : LocatedPiece). (p.answer, p.len)) same)))
    (λ (none : length held ≤ 0).
    let empty : held ≡ [] = nil_from_length held (omega arith) in
    no_more given other (located form next (held ++ [])) (located form other_next (left ++ [])) (sym (a.same []) ∙ b.same []) (ap (λ w. located form next (w ++ [])) empty ∙ located_none form next))
    (cases_lt 0 (length held)))
    (λ (le : length other ≤ length given). le)
    (cases_lt (length given) (length other))
