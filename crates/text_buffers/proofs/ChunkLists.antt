-- Lists of chunks: chunks that are joined, and parts of them.
use Rattle.std.proofs.Common.{◌≡◌, ℕ, zero, suc, subst, ◌+◌, ◌-◌, ◌<◌, ◌≤◌, List, [], ◌∷◌, ◌++◌, length, get_or, take, drop, arith, refl, ap, sym, ◌∙◌, ⊎_elim, length-append}
use Rattle.std.proofs.lemmas.Bool.{cases_lt}
use Rattle.std.proofs.lemmas.List.{take_all, length-take-le, take_more, take-append-drop, take-append-le, append-nil, take_at}
use Rattle.std.proofs.lemmas.List.Edits.{split_between, length-between}
use Rattle.std.proofs.lemmas.List.Elements.{All-nil, All-push}
use Rattle.std.proofs.lemmas.List.Folds.{concat-append}
use Rattle.std.proofs.Math.Seq.{take-append-add}
use Rattle.std.specs.List.{concat}
use Rattle.std.specs.Prelude.{All, slice_range}
use Rattle.utf_base.specs.Code.{utf8}
use Rattle.utf_base.specs.Piece.{Inside}
use Rattle.utf_base.proofs.Standing.{outside_front, outside_end}
use Rattle.text_buffers.specs.Chunks.{EndOutside, IsSpot}
use Rattle.text_runs.proofs.JoinedPieces.{inside_front, inside_rest, inside_before, inside_following}

take_past : (a b : List (List ℕ)) (k : ℕ) → length a ≤ k → take k (a ++ b) ≡ a ++ take (k - length a) b
take_past a b k le =
    let place : length a + (k - length a) ≡ k = omega arith in
    rw place at (take-append-add a b (k - length a))

-- the first j elements are the first i, and those from there on
pub take_up_to : {X : Type 0} (xs : List X) (i j : ℕ) → i ≤ j → j ≤ length xs → take j xs ≡ take i xs ++ slice_range xs i j
take_up_to xs i j lo hi =
    let p = take i xs in
    let m = slice_range xs i j in
    let q = drop j xs in
    let of_p : length p ≡ i = length-take-le i xs (omega arith) in
    let of_m : length m ≡ j - i = length-between xs i j hi in
    let both : length p + length m ≡ j = omega arith in
    ap (λ n. take n xs) (sym both)
    ∙ (ap (λ ys. take (length p + length m) ys) (split_between xs i j lo) ∙ (take-append-add p (m ++ q) (length m) ∙ ap (λ ys. p ++ ys) (take_at m q (length m) refl)))

module _ (a b : List (List ℕ)) where
  -- the chunks of both lists, if no code covers the seam
  pub EndOutside-append : EndOutside a → EndOutside b → (Inside utf8 (concat a ++ concat b) (length (concat a)) → ⊥) → EndOutside (a ++ b)
  EndOutside-append of_a of_b seam = record {
    outside = λ k i.
        let whole = concat-append a b in
        ⊎_elim
        (λ (before : k < length a).
        let first : take k (a ++ b) ≡ take k a = take-append-le k a b (omega arith) in
        let parts : concat (take k a) ++ concat (drop k a) ≡ concat a = sym (concat-append (take k a) (drop k a)) ∙ ap concat (take-append-drop k a) in
        let le : length (concat (take k a)) ≤ length (concat a) = omega (arith, ap length parts, length-append (concat (take k a)) (concat (drop k a))) in
        of_a.outside k (inside_before utf8 (concat a) (concat b) seam (length (concat (take k a))) le (rw (whole, first) at i)))
        (λ (past : length a ≤ k).
        let later : concat (take k (a ++ b)) ≡ concat a ++ concat (take (k - length a) b) = ap concat (take_past a b k past) ∙ concat-append a (take (k - length a) b) in
        let len : length (concat (take k (a ++ b))) ≡ length (concat a) + length (concat (take (k - length a) b)) = ap length later ∙ length-append (concat a) (concat (take (k - length a) b)) in
        of_b.outside (k - length a) (inside_following utf8 (concat a) (concat b) seam (length (concat (take (k - length a) b))) (rw (whole, len) at i)))
        (cases_lt k (length a));
  }

  pub EndOutside-front : EndOutside (a ++ b) → EndOutside a
  EndOutside-front both = record {
    outside = λ k i.
        ⊎_elim
        (λ (before : k < length a).
        let first : take k (a ++ b) ≡ take k a = take-append-le k a b (omega arith) in
        both.outside k (rw (concat-append a b, first) (inside_front utf8 (concat a) (concat b) (length (concat (take k a))) i)))
        (λ (past : length a ≤ k). let all : take k a ≡ a = take_all k a past in outside_end utf8 (concat a) (rw all at i))
        (cases_lt k (length a));
  }

  pub EndOutside-rest : EndOutside (a ++ b) → EndOutside b
  EndOutside-rest both = record {
    outside = λ k i.
        let past : length a ≤ length a + k = omega arith in
        let count : length a + k - length a ≡ k = omega arith in
        let later : concat (take (length a + k) (a ++ b)) ≡ concat a ++ concat (take k b)
        = ap concat (rw count at (take_past a b (length a + k) past)) ∙ concat-append a (take k b) in
        let len : length (concat (take (length a + k) (a ++ b))) ≡ length (concat a) + length (concat (take k b)) = ap length later ∙ length-append (concat a) (concat (take k b)) in
        both.outside (length a + k) (rw (concat-append a b, len) (inside_rest utf8 (concat a) (concat b) (length (concat (take k b))) i));
  }

  pub EndOutside-seam : EndOutside (a ++ b) → Inside utf8 (concat a ++ concat b) (length (concat a)) → ⊥
  EndOutside-seam both i =
      let first : take (length a) (a ++ b) ≡ a = take_at a b (length a) refl in
      both.outside (length a) (rw (concat-append a b, first) i)

pub EndOutside-take : (chunks : List (List ℕ)) (k : ℕ) → EndOutside chunks → EndOutside (take k chunks)
EndOutside-take chunks k outside = EndOutside-front (take k chunks) (drop k chunks) (subst EndOutside (sym (take-append-drop k chunks)) outside)

-- The length of chunks: each front of them is no longer than all.
pub concat-take-le : (chunks : List (List ℕ)) (k : ℕ) → length (concat (take k chunks)) ≤ length (concat chunks)
concat-take-le chunks k =
    let parts : concat (take k chunks) ++ concat (drop k chunks) ≡ concat chunks = sym (concat-append (take k chunks) (drop k chunks)) ∙ ap concat (take-append-drop k chunks) in
    omega (arith, ap length parts, length-append (concat (take k chunks)) (concat (drop k chunks)))

-- one more chunk
pub concat-take-more : (chunks : List (List ℕ)) (k : ℕ) (x : List ℕ) → k < length chunks → x ≡ get_or chunks k x → concat (take (k + 1) chunks) ≡ concat (take k chunks) ++ x
concat-take-more chunks k x lt is =
    let more : take (k + 1) chunks ≡ take k chunks ++ x ∷ [] = take_more chunks k x lt ∙ ap (λ y. take k chunks ++ y ∷ []) (sym is) in
    ap concat more ∙ (concat-append (take k chunks) (x ∷ []) ∙ ap (λ ys. concat (take k chunks) ++ ys) (append-nil x))

-- the next chunk begins where this one ends
pub next_spot : (chunks : List (List ℕ)) (k p : ℕ) (x : List ℕ) → IsSpot chunks k p → k < length chunks → x ≡ get_or chunks k x → IsSpot chunks (k + 1) (p + length x)
next_spot chunks k p x spot lt is =
    let begins = spot.begins in
    record {
      within = omega arith;
      begins = omega (arith, ap length (concat-take-more chunks k x lt is), length-append (concat (take k chunks)) x);
    }

pub spot_within : (chunks : List (List ℕ)) (k p : ℕ) → IsSpot chunks k p → p ≤ length (concat chunks)
spot_within chunks k p spot = let begins = spot.begins in omega (arith, concat-take-le chunks k)

-- a single chunk
pub EndOutside-one : (x : List ℕ) → EndOutside (x ∷ [])
EndOutside-one x = record { outside = ends }
  where
    ends : (k : ℕ) → Inside utf8 (concat (x ∷ [])) (length (concat (take k (x ∷ [])))) → ⊥
    ends zero i = outside_front utf8 (concat (x ∷ [])) i
    ends (suc zero) i = outside_end utf8 (concat (x ∷ [])) i
    ends (suc (suc k)) i = outside_end utf8 (concat (x ∷ [])) i

pub EndOutside-none : EndOutside []
EndOutside-none = record { outside = λ k i. let within = i.stands.within in let begins = i.begins in let ends = i.ends in outside_none k i }
  where
    outside_none : (k : ℕ) → Inside utf8 (concat []) (length (concat (take k []))) → ⊥
    outside_none zero i = outside_front utf8 [] i
    outside_none (suc k) i = outside_front utf8 [] i

-- One more chunk of some bytes.
pub record Divided (xs : List ℕ) (chunks : List (List ℕ)) (place : ℕ) : Type 0 where
  pub bytes : concat chunks ≡ take place xs
  pub ends : EndOutside chunks
  pub few : All (λ x. length x ≤ 2048) chunks
  pub within : place ≤ length xs
  pub outside : Inside utf8 xs place → ⊥

pub divided_none : (xs : List ℕ) → Divided xs [] 0
divided_none xs = record { bytes = refl; ends = EndOutside-none; few = All-nil (λ x. length x ≤ 2048); within = omega arith; outside = outside_front utf8 xs }

pub divided_all : (xs : List ℕ) (chunks : List (List ℕ)) (place : ℕ) → Divided xs chunks place → length xs ≤ place → concat chunks ≡ xs
divided_all xs chunks place d le = d.bytes ∙ take_all place xs le

pub divided_more : (bytes : List ℕ) (chunks : List (List ℕ)) (place end : ℕ) (x : List ℕ) → Divided bytes chunks place → place < end → end ≤ length bytes → end ≤ place + 2048 → (Inside utf8 bytes end → ⊥)
    → x ≡ slice_range bytes place end → Divided bytes (chunks ++ x ∷ []) end
divided_more bytes chunks place end x d lt within low outside is =
    let one : concat (x ∷ []) ≡ x = append-nil x in
    let up_to : take end bytes ≡ take place bytes ++ slice_range bytes place end = take_up_to bytes place end (omega arith) within in
    let joined : concat chunks ++ x ≡ take end bytes = ap (λ ys. ys ++ x) d.bytes ∙ (ap (λ ys. take place bytes ++ ys) is ∙ sym up_to) in
    let long : length (concat chunks) ≡ place = ap length d.bytes ∙ length-take-le place bytes d.within in
    record {
      bytes = concat-append chunks (x ∷ []) ∙ (ap (λ ys. concat chunks ++ ys) one ∙ joined);
      ends =
          EndOutside-append chunks (x ∷ []) d.ends (EndOutside-one x) (λ i.
          let front : Inside utf8 (take end bytes) place = rw (one, joined, long) at i in
          d.outside (subst (λ ys. Inside utf8 ys place) (take-append-drop end bytes) (inside_front utf8 (take end bytes) (drop end bytes) place front)));
      few = All-push (λ y. length y ≤ 2048) chunks x d.few (omega (arith, ap length is, length-between bytes place end within));
      within = within;
      outside = outside;
    }
