-- A list whose cut has no fault is the codes of some scalars, joined.
use Rattle.std.proofs.Common.{◌≡◌, ℕ, suc, ◌+◌, ◌-◌, ◌≤◌, List, [], ◌∷◌, ◌++◌, length, drop, take, refl, ap, sym, subst, ◌∙◌, arith, Option, Some, None, true, length-append}
use Rattle.std.proofs.lemmas.Grind.{common_steps}
use Rattle.std.proofs.lemmas.List.{take-append-drop, take_at, drop_at, drop-drop}
use Rattle.std.proofs.lemmas.List.Elements.{All-cons, All-nil}
use Rattle.std.specs.List.{flat_map}
use Rattle.std.specs.Prelude.{All, is_some}
use Rattle.utf_base.specs.Code.{IsCode}
use Rattle.utf_base.specs.CutLaws.{Follow, HaveNoFault, IsJoined, NoFaultInJoinedCodes, char_pieces}
use Rattle.utf_base.specs.Piece.{IsCut, IsCutBetween, IsPiece, IsPieceAt, Piece, Stands, end_of}
use Rattle.utf_base.specs.Scalar.{IsScalar}
use Rattle.utf_base.proofs.Cuts.{Finds, char_at, cut_append, cut_is_unique, cut_none, cut_one, cuts_follow}

length_after : (xs ys : List ℕ) (i : ℕ) → drop i xs ≡ ys → length xs - i ≡ length ys
length_after xs ys i e = rw (← e) (grind (arith, common_steps))

-- a code that begins what is after the offset i
record BeginsAt (code : ℕ → List ℕ) (xs : List ℕ) (i s : ℕ) (rest : List ℕ) : Type 0 where
  pub stands : Stands code xs i s
  pub following : drop (i + length (code s)) xs ≡ rest

begins_at : (code : ℕ → List ℕ) (xs : List ℕ) (i s : ℕ) (rest : List ℕ) → IsScalar s → i ≤ length xs → drop i xs ≡ code s ++ rest → BeginsAt code xs i s rest
begins_at code xs i s rest h le e =
    let span : i + length (code s) - i ≡ length (code s) = omega arith in
    let len : length xs - i ≡ length (code s ++ rest) = length_after xs (code s ++ rest) i e in
    record {
      stands = record {
        scalar = h;
        within = omega (arith, length-append (code s) rest);
        equal = rw (span, e) (take_at (code s) rest (length (code s)) refl);
      };
      following = sym (drop-drop (length (code s)) i xs) ∙ ap (drop (length (code s))) e ∙ drop_at (code s) rest (length (code s)) refl;
    }

joined_from : (code : ℕ → List ℕ) → IsCode code → (xs scalars : List ℕ) (i : ℕ) → All IsScalar scalars → i ≤ length xs → drop i xs ≡ flat_map code scalars
    → IsCutBetween code xs i (length xs) (char_pieces code i scalars)
joined_from code c xs [] i all le e =
    let none : length xs - i ≡ 0 = length_after xs [] i e in
    let end : i ≡ length xs = omega arith in
    rw end (cut_none code xs (length xs))
joined_from code c xs (s ∷ scalars) i all le e =
    let first = begins_at code xs i s (flat_map code scalars) (all 0 s (omega arith)) le e in
    let within = first.stands.within in
    cut_append code xs i (i + length (code s)) (length xs) (char_at code i s ∷ []) (char_pieces code (i + length (code s)) scalars) (omega arith) (omega arith)
    (cut_one code c xs (char_at code i s) (first.stands, refl))
    (joined_from code c xs scalars (i + length (code s)) (λ k d h. all (suc k) d (omega arith)) within first.following)

joined : (code : ℕ → List ℕ) → IsCode code → (xs scalars : List ℕ) (ps : List Piece) → IsJoined code xs scalars → IsCut code xs ps → ps ≡ char_pieces code 0 scalars
joined code c xs scalars ps h cut = cut_is_unique code c xs ps _ cut (joined_from code c xs scalars 0 h.0 (omega arith) h.1)

chars_have_no_fault : (code : ℕ → List ℕ) (i : ℕ) (scalars : List ℕ) → HaveNoFault (char_pieces code i scalars)
chars_have_no_fault code i [] = All-nil (λ x. is_some x.char ≡ true)
chars_have_no_fault code i (s ∷ scalars) =
    All-cons (λ x. is_some x.char ≡ true) (char_at code i s) (char_pieces code (i + length (code s)) scalars) refl (chars_have_no_fault code (i + length (code s)) scalars)

-- the scalars of pieces that follow each other to the end
record ScalarsFrom (code : ℕ → List ℕ) (xs : List ℕ) (i : ℕ) : Type 0 where
  pub scalars : List ℕ
  pub all : All IsScalar scalars
  pub codes : drop i xs ≡ flat_map code scalars

scalars_more : (code : ℕ → List ℕ) (xs : List ℕ) (i n : ℕ) (char : Option ℕ) → IsPieceAt code xs i n char → is_some char ≡ true → ScalarsFrom code xs (i + n) → ScalarsFrom code xs i
scalars_more code xs i n (Some s) h some rest =
    let span : i + length (code s) - i ≡ n = omega (arith, h.1) in
    let code_is : take n (drop i xs) ≡ code s = ap (λ k. take k (drop i xs)) (sym span) ∙ h.0.equal in
    record {
      scalars = s ∷ rest.scalars;
      all = All-cons IsScalar s rest.scalars h.0.scalar rest.all;
      codes = sym (take-append-drop n (drop i xs)) ∙ ap (λ ys. ys ++ drop n (drop i xs)) code_is ∙ ap (λ ys. code s ++ ys) (drop-drop n i xs ∙ rest.codes);
    }
scalars_more code xs i n None h some rest = absurd cc

scalars_from : (code : ℕ → List ℕ) (xs : List ℕ) (i : ℕ) (ps : List Piece) → All (IsPiece code xs) ps → HaveNoFault ps → Follow i ps (length xs) → ScalarsFrom code xs i
scalars_from code xs i [] all none f = record { scalars = []; all = All-nil IsScalar; codes = nothing xs i f }
  where
    nothing : (xs : List ℕ) (i : ℕ) → i ≡ length xs → drop i xs ≡ []
    nothing xs i e = grind (arith, common_steps)
scalars_from code xs i (x ∷ ps) all none f =
    let rest = scalars_from code xs (end_of x) ps (λ k d h. all (suc k) d (omega arith)) (λ k d h. none (suc k) d (omega arith)) f.1 in
    subst (ScalarsFrom code xs) f.0 (scalars_more code xs x.start x.len x.char (all 0 x (omega arith)) (none 0 x (omega arith)) rest)

only : (code : ℕ → List ℕ) → IsCode code → Finds code → (xs : List ℕ) (ps : List Piece) → IsCut code xs ps → HaveNoFault ps → (scalars : List ℕ) × IsJoined code xs scalars
only code c find xs ps cut none =
    let s = scalars_from code xs 0 ps (λ k d h. (cut.pieces k d h).0) none (cuts_follow code c find xs ps cut) in
    (s.scalars, (s.all, s.codes))

pub no_fault_in_joined_codes : (code : ℕ → List ℕ) → IsCode code → Finds code → NoFaultInJoinedCodes code
no_fault_in_joined_codes code c find = record {
  joined = joined code c;
  whole = λ xs scalars ps h cut. rw (joined code c xs scalars ps h cut) (chars_have_no_fault code 0 scalars);
  only = only code c find;
}
