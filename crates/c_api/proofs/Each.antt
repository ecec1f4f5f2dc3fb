-- Pieces that are given one after another.
use Rattle.std.proofs.Common.{◌≡◌, ℕ, ◌<◌, ◌≤◌, ⊎_elim, List, [], ◌∷◌, ◌++◌, length, length-set, length-drop, arith, refl, sym, ap, subst, ◌+◌, take, drop, set, ◌∙◌}
use Rattle.std.proofs.lemmas.List.{length-take-le, take_more_set, drop-set-lt, drop-drop}
use Rattle.std.proofs.lemmas.Slice.{take-put_mid, drop-put_mid}
use Rattle.std.proofs.lemmas.Bool.{cases_lt}
use borrow.Rule.Slice.PartMut.{put_mid, same_len_mid}
use Rattle.c_api.specs.Api.{GivesPiece, GivesEach, after}
use Rattle.c_api.specs.declared.piece.NodyPiece.{NodyPiece}

-- pieces, and then the pieces of the rest
pub each_join : (piece : List ℕ → NodyPiece) (xs ys zs : List ℕ) (ps qs : List NodyPiece) → GivesEach piece xs ps ys
    → GivesEach piece ys qs zs → GivesEach piece xs (ps ++ qs) zs
each_join piece xs ys zs [] qs e more = subst (λ b. GivesEach piece b qs zs) e more
each_join piece xs ys zs (p ∷ ps) qs (first, known, rest) more = (first, known, each_join piece (after xs p) ys zs ps qs rest more)

-- pieces, and then one more
pub each_append : (piece : List ℕ → NodyPiece) (xs ys : List ℕ) (ps : List NodyPiece) (x : NodyPiece) → GivesEach piece xs ps ys
    → 0 < length ys → x ≡ piece ys → GivesEach piece xs (ps ++ x ∷ []) (after ys x)
each_append piece xs ys ps x before some is = each_join piece xs ys (after ys x) ps (x ∷ []) before (some, is, refl)

-- a piece that has a length was left
pub some_left : (piece : List ℕ → NodyPiece) (xs ys : List ℕ) (x : NodyPiece) → GivesPiece piece after xs x ys → 0 < x.len → 0 < length xs
some_left piece xs ys x g some =
    ⊎_elim (λ (lt : 0 < length xs). lt) (λ (le : length xs ≤ 0). let n = (g.none (omega arith)).0 in omega (arith, ap (λ p. p.len) n)) (cases_lt 0 (length xs))

-- the pieces that were put into an array so far, after other pieces
abbrev pub Filled : (List ℕ → NodyPiece) → List ℕ → List ℕ → List NodyPiece → List NodyPiece → ℕ → Type 0
Filled piece xs ys first room n = record {
  within : n ≤ length first;
  len : length room ≡ length first;
  each : GivesEach piece xs (take n room) ys;
  rest : drop n room ≡ drop n first;
}

-- one more piece, at the next index of the array
pub fills_on : (piece : List ℕ → NodyPiece) (xs ys : List ℕ) {zs : List ℕ} {x : NodyPiece} (first room : List NodyPiece) (n : ℕ)
    → Filled piece xs ys first room n → n < length room → 0 < length ys → x ≡ piece ys → zs ≡ after ys x → Filled piece xs zs first (set room n x) (n + 1)
fills_on piece xs ys {x = x} first room n before lt some is leaves =
    let len = before.len in
    let more : GivesEach piece xs (take n room ++ x ∷ []) (after ys x) = each_append piece xs ys (take n room) x before.each some is in
    record {
      within = omega arith;
      len = omega (arith, length-set room n x);
      each =
          subst (λ b. GivesEach piece xs (take (n + 1) (set room n x)) b) (sym leaves)
          (subst (λ ps. GivesEach piece xs ps (after ys x)) (sym (take_more_set room n x lt)) more);
      rest = drop-set-lt (n + 1) room n x (omega arith) ∙ sym (drop-drop 1 n room) ∙ ap (drop 1) before.rest ∙ drop-drop 1 n first;
    }

-- more pieces, as many as a part of the array holds
pub fills_more : (piece : List ℕ → NodyPiece) (xs ys zs : List ℕ) (first room part : List NodyPiece) (n k : ℕ)
    → Filled piece xs ys first room n → n + k ≤ length first → length part ≡ k → GivesEach piece ys part zs
    → Filled piece xs zs first (put_mid n k room part) (n + k)
fills_more piece xs ys zs first room part n k before fits same more =
    let le : n ≤ length room = omega (arith, before.len, before.within) in
    record {
      within = fits;
      len = same_len_mid n k room part (same ∙ sym (length-take-le k (drop n room) (omega (arith, length-drop n room, before.len)))) ∙ before.len;
      each = rw (take-put_mid n k room part (n + k) (omega (arith, same)) le) (each_join piece xs ys zs (take n room) part before.each more);
      rest = drop-put_mid n k room part (n + k) (omega arith) le same ∙ sym (drop-drop k n room) ∙ ap (drop k) before.rest ∙ drop-drop k n first;
    }
