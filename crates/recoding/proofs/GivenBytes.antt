-- The units of the offsets of some text, appended to any output.
use borrow.Rule.Slice.PartMut.{put_mid}
use Rattle.std.proofs.Common.{◌≡◌, ℕ, zero, suc, ◌+◌, ◌-◌, ◌*◌, ◌≤◌, Bool, true, false, cond, List, [], ◌∷◌, ◌++◌, length, take, drop, arith, sym, ap, ◌∙◌, length-append, length-take, take-append-drop}
use Rattle.std.proofs.lemmas.List.{append-nil}
use Rattle.std.proofs.lemmas.Slice.{take-put_mid, drop-put_mid}
use Rattle.std.proofs.Math.ListN.{drop_of_length-le}
use Rattle.std.proofs.Math.Seq.{take-append-add}
use Rattle.utf_lanes.specs.Utf8ToUtf16.{concat_range, utf16_bytes, utf16_bytes_at, halves}

-- Each offset gives at most two bytes.

length_halves : (high : Bool) (low top : ℕ) → length (halves high low top) ≤ 2
length_halves true low top = omega arith
length_halves false low top = omega arith

length_chosen : (high : Bool) (low top : ℕ) (b : Bool) → length (cond b (halves high low top) []) ≤ 2
length_chosen high low top true = length_halves high low top
length_chosen high low top false = omega arith

length_here : (high : Bool) (xs : List ℕ) (k : ℕ) → length (utf16_bytes_at high xs k) ≤ 2
unfolding utf16_bytes_at
length_here high xs k = length_chosen high _ _ _

length_joined : (f : ℕ → List ℕ) (p n : ℕ) → ((k : ℕ) → length (f k) ≤ 2) → length (concat_range f p n) ≤ 2 * n
unfolding concat_range
length_joined f p zero few = omega arith
length_joined f p (suc n) few = omega (arith, length-append (f p) (concat_range f (suc p) n), few p, length_joined f (suc p) n few)

pub length_given : (high : Bool) (xs : List ℕ) (p n : ℕ) → length (utf16_bytes high xs p n) ≤ 2 * n
length_given high xs p n = length_joined (utf16_bytes_at high (0 ∷ 0 ∷ 0 ∷ xs)) p n (length_here high (0 ∷ 0 ∷ 0 ∷ xs))

pub few_given : (high : Bool) (xs ys : List ℕ) (p n : ℕ) → ys ≡ utf16_bytes high xs p n → length ys ≤ 2 * n
few_given high xs ys p n e = rw e (length_given high xs p n)

-- The rest of a buffer, from an offset on, was written.
module _ (room rest : List ℕ) (place : ℕ) (le : place ≤ length room) (same : length rest ≡ length room - place) where
  put_rest : put_mid place (length room - place) room rest ≡ take place room ++ rest
  put_rest =
      let put = put_mid place (length room - place) room rest in
      let front = take-put_mid place (length room - place) room rest (length room) (omega arith) le in
      let following = drop-put_mid place (length room - place) room rest (length room) (omega arith) le same ∙ drop_of_length-le room (omega arith) in
      sym (take-append-drop (length room) put) ∙ ap (λ z. z ++ drop (length room) put) front ∙ ap (λ z. (take place room ++ rest) ++ z) following ∙ append-nil (take place room ++ rest)

  front_len : length (take place room) ≡ place
  front_len = length-take place room ∙ omega arith

  pub length_both : length (put_mid place (length room - place) room rest) ≡ length room
  length_both = omega (arith, ap length put_rest, length-append (take place room) rest, front_len)

  pub written_both : (wrote : ℕ) → take (place + wrote) (put_mid place (length room - place) room rest) ≡ take place room ++ take wrote rest
  written_both wrote =
      ap (take (place + wrote)) put_rest ∙ ap (λ j. take (j + wrote) (take place room ++ rest)) (sym front_len) ∙ take-append-add (take place room) rest wrote
