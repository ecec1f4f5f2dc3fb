-- The effect of calls on a window, and the characters before an item of a run.
use Rattle.std.proofs.Common.{◌≡◌, ℕ, zero, suc, ◌+◌, ◌-◌, ◌≤◌, List, [], ◌∷◌, ◌++◌, length, take, drop, Option, Some, None, refl, ap, sym, subst, ◌∙◌, arith, true, length-append, take-append-drop}
use Rattle.std.proofs.Math.Seq.{take-append_seam}
use Rattle.std.proofs.iter.runs.Made.{took, at-is}
use Rattle.std.proofs.lemmas.Grind.{common_steps, flat_map-append}
use Rattle.std.proofs.lemmas.List.{take_all}
use Rattle.std.proofs.lemmas.Str.{chars-encodes}
use Rattle.std.specs.Iterator.Runs.{EachRunFrom}
use Rattle.std.specs.List.{flat_map}
use Rattle.std.specs.Prelude.{IfSome, slice_get}
use Rattle.std.specs.Str.{IsUtf8, all_scalars, chars}
use Rattle.utf_base.specs.Code.{utf8}
use Rattle.utf_base.proofs.StdText.{encodes_are_codes}
use Rattle.encode_unicode.specs.Pieces.{HasFirstChars, LeavesBack, LeavesFront, StandAfterChars, placed_chars, placed_chars_left}
use Rattle.encode_unicode.specs.TextWindow.{BackPlaced, NextPlaced}
use Rattle.encode_unicode.specs.Window.{Window, NextBackGives, NextBackGivesUnits, NextGives, NextGivesUnits, whole_window, without_back, without_front}
use Rattle.encode_unicode.proofs.PieceRuns.{chars_of_text, codes_of_text, placed_listed}
use Rattle.encode_unicode.proofs.SeenRuns.{length-placed, passed}

-- Windows.

module _ {A : Type 0} (steps : Window → Option A → Window → Type 0) where
  leaves_back : ((w v : Window) (x : A) → steps w (Some x) v → (n : ℕ) × (v ≡ without_front w n)) → LeavesBack steps
  leaves_back step w [] v y = let front = ap (λ (u : Window). u.front) y in (sym (ap (λ (u : Window). u.whole) y), sym (ap (λ (u : Window). u.back) y), omega arith)
  leaves_back step w (x ∷ seen) v y =
      let one = step w y.0 x y.1 in
      let front : y.0.front ≡ w.front + one.0 = ap (λ (u : Window). u.front) one.1 in
      let rest = leaves_back step y.0 seen v y.2 in
      (rest.0 ∙ ap (λ (u : Window). u.whole) one.1, rest.1 ∙ ap (λ (u : Window). u.back) one.1, omega arith)

  leaves_front : ((w v : Window) (x : A) → steps w (Some x) v → (n : ℕ) × (v ≡ without_back w n)) → LeavesFront steps
  leaves_front step w [] v y = let back = ap (λ (u : Window). u.back) y in (sym (ap (λ (u : Window). u.whole) y), sym (ap (λ (u : Window). u.front) y), omega arith)
  leaves_front step w (x ∷ seen) v y =
      let one = step w y.0 x y.1 in
      let back : y.0.back ≡ w.back - one.0 = ap (λ (u : Window). u.back) one.1 in
      let rest = leaves_front step y.0 seen v y.2 in
      (rest.0 ∙ ap (λ (u : Window). u.whole) one.1, rest.1 ∙ ap (λ (u : Window). u.front) one.1, omega arith)

pub decoder_leaves_back : LeavesBack NextGives
decoder_leaves_back = leaves_back NextGives (λ w v x g. (x.2, g.left))

pub unit_decoder_leaves_back : LeavesBack NextGivesUnits
unit_decoder_leaves_back = leaves_back NextGivesUnits (λ w v x g. (x.2, g.left))

pub decoder_leaves_front : LeavesFront NextBackGives
decoder_leaves_front = leaves_front NextBackGives (λ w v x g. (x.2, g.left))

pub unit_decoder_leaves_front : LeavesFront NextBackGivesUnits
unit_decoder_leaves_front = leaves_front NextBackGivesUnits (λ w v x g. (x.2, g.left))

pub text_leaves_back : LeavesBack NextPlaced
text_leaves_back = leaves_back NextPlaced (λ w v x g. (length (utf8 x.1), g.left))

pub text_leaves_front : LeavesFront BackPlaced
text_leaves_front = leaves_front BackPlaced (λ w v x g. (length (utf8 x.1), g.left))

-- Characters before an item.

no_items : {A : Type 0} (x : A) (xs : List A) → [] ≡ x ∷ xs → ⊥
no_items x xs e = cc

first_is : {A : Type 0} (x y : A) (xs ys : List A) → x ∷ xs ≡ y ∷ ys → (x ≡ y) × (xs ≡ ys)
first_is x y xs ys e = (cc, cc)

-- the offset of an item is the sum of the lengths of the codes before it
place_at : (place k : ℕ) (seen more : List (ℕ × ℕ)) (cs : List ℕ) → placed_chars place cs ≡ seen ++ more → IfSome (slice_get seen k) (λ x. x.0 ≡ place + length (flat_map utf8 (take k cs)))
place_at place k [] more cs e = tt
place_at place k (x ∷ seen) more [] e = absurd (no_items x (seen ++ more) e)
place_at place zero (x ∷ seen) more (c ∷ cs) e = let here = ap (λ (y : ℕ × ℕ). y.0) (first_is (place, c) x _ _ e).0 in omega arith
place_at place (suc k) (x ∷ seen) more (c ∷ cs) e =
    let sum : place + length (utf8 c) + length (flat_map utf8 (take k cs)) ≡ place + length (flat_map utf8 (take (suc k) (c ∷ cs))) = omega (arith, length-append (utf8 c) (flat_map utf8 (take k cs))) in
    subst (λ n. IfSome (slice_get seen k) (λ y. y.0 ≡ n)) sum (place_at (place + length (utf8 c)) k seen more cs (first_is (place, c) x _ _ e).1)

all_taken : (k : ℕ) (cs : List ℕ) → all_scalars cs ≡ true → all_scalars (take k cs) ≡ true
all_taken zero cs h = refl
all_taken (suc k) [] h = refl
all_taken (suc k) (c ∷ cs) h = grind (arith, common_steps, all_taken k cs)

chars_of_codes : (cs : List ℕ) → all_scalars cs ≡ true → chars (flat_map utf8 cs) ≡ cs
chars_of_codes cs h = ap chars (sym (encodes_are_codes cs)) ∙ chars-encodes cs h

-- the text up to the end of the codes of its first characters is these
first_chars : (text : List ℕ) → IsUtf8 text → (k n : ℕ) → n ≡ length (flat_map utf8 (take k (chars text))) → HasFirstChars text k (take n text)
first_chars text (cs, (all, e)) k n at =
    let same : chars text ≡ cs = ap chars (sym e) ∙ chars-encodes cs all in
    let whole : flat_map utf8 (take k cs) ++ flat_map utf8 (drop k cs) ≡ text = sym (flat_map-append utf8 (take k cs) (drop k cs)) ∙ ap (flat_map utf8) (take-append-drop k cs) ∙ sym (encodes_are_codes cs) ∙ e in
    let len : n ≡ length (flat_map utf8 (take k cs)) = at ∙ ap (λ ds. length (flat_map utf8 (take k ds))) same in
    let front : take n text ≡ flat_map utf8 (take k cs) = ap (λ m. take m text) len ∙ ap (take (length (flat_map utf8 (take k cs)))) (sym whole) ∙ take-append_seam (flat_map utf8 (take k cs)) (flat_map utf8 (drop k cs)) in
    let taken : take k cs ≡ take k (chars text) = ap (take k) (sym same) in
    (front ∙ ap (flat_map utf8) taken, ap chars front ∙ chars_of_codes (take k cs) (all_taken k cs all) ∙ taken)

all_chars : (text : List ℕ) → IsUtf8 text → (k : ℕ) → length (chars text) ≤ k → HasFirstChars text k text
all_chars text h k le =
    let all : take k (chars text) ≡ chars text = take_all k (chars text) le in
    (sym (ap (flat_map utf8) all ∙ codes_of_text text h), sym all)

pub text_stands_after : (text : List ℕ) (s : Window) → IsUtf8 text → s ≡ whole_window text → EachRunFrom NextPlaced s (StandAfterChars text)
text_stands_after text s h e p seen from =
    let left : placed_chars_left p.from ≡ placed_chars 0 (chars text) = ap placed_chars_left from ∙ (chars_of_text text s e).1 in
    let gave = took p in
    let split : placed_chars 0 (chars text) ≡ p.items ++ placed_chars_left gave.0 = sym left ∙ passed NextPlaced placed_chars_left placed_listed p.items p.from gave.0 gave.1 in
    let place : (k : ℕ) → IfSome (p.at k) (λ x. x.0 ≡ 0 + length (flat_map utf8 (take k (chars text))))
    = λ k. subst (λ o. IfSome o (λ x. x.0 ≡ 0 + length (flat_map utf8 (take k (chars text))))) (sym (at-is p k)) (place_at 0 k p.items (placed_chars_left gave.0) (chars text) split) in (
      λ k. before k (p.at k) (place k),
      λ k whole le.
          let none = gave.2 whole in
          let ended = (placed_listed gave.0 None none.0 none.1).0 in
          let count = ap length split in
          let both = length-append p.items (placed_chars_left gave.0) in
          let nothing : length (placed_chars_left gave.0) ≡ 0 = ap length ended in
          let long = p.long in
          let chars_len = length-placed 0 (chars text) in
          all_chars text h k (omega arith),
    )
  where
    before : (k : ℕ) (o : Option (ℕ × ℕ)) → IfSome o (λ x. x.0 ≡ 0 + length (flat_map utf8 (take k (chars text)))) → IfSome o (λ x. HasFirstChars text k (take x.0 text))
    before k None at = tt
    before k (Some x) at = first_chars text h k x.0 (omega arith)
