-- The elements of an item that is a character are its code.
use Rattle.std.proofs.Common.{◌≡◌, ℕ, ◌+◌, ◌-◌, ◌<◌, ◌≤◌, List, length, take, drop, refl, ap, sym, ◌∙◌, arith, length-drop}
use Rattle.std.proofs.lemmas.Grind.{common_steps}
use Rattle.std.proofs.lemmas.List.{take_all}
use Rattle.std.specs.Prelude.{Result, Ok, Err, slice_range}
use Rattle.utf_base.specs.Front.{IsFrontLen}
use Rattle.utf_base.specs.Ends.{EndsWith}
use Rattle.utf_chars.proofs.Ranges.{range_after}
use Rattle.encode_unicode.specs.Window.{IsBackOf, GivesBackOf, as_piece}

module _ (code : ℕ → List ℕ) where
  -- the code that ends a list
  pub ends_taken : (w : List ℕ) (s n : ℕ) → EndsWith code w s n → drop (length w - n) w ≡ code s
  ends_taken w s n h =
      let within = h.0.within in
      let e : (length w - n) + length (code s) - (length w - n) ≡ length (drop (length w - n) w) = omega (arith, h.1, length-drop (length w - n) w) in
      sym (ap (λ k. take k (drop (length w - n) w)) e ∙ take_all _ (drop (length w - n) w) (omega arith)) ∙ h.0.equal

  module _ (whole : List ℕ) (i j : ℕ) where
    -- the code is at the item's offset in the whole list
    pub ends_there : (s n : ℕ) → i < j → j ≤ length whole → n ≤ length (slice_range whole i j) → EndsWith code (slice_range whole i j) s n → slice_range whole (j - n) (j - n + n) ≡ code s
    ends_there s n some fits short h =
        let len : length (slice_range whole i j) ≡ j - i = grind (arith, common_steps) in
        let from : i + (length (slice_range whole i j) - n) ≡ j - n = omega arith in
        let to : j - n + n ≡ j = omega arith in
        let after = range_after whole i j (length (slice_range whole i j) - n) (omega arith) in
        ap (λ k. slice_range whole (j - n) k) to ∙ ap (λ k. slice_range whole k j) (sym from) ∙ after ∙ ends_taken (slice_range whole i j) s n h

-- the item that a call from the end returns
pub back_item : {E : Type 0} (code : ℕ → List ℕ) (most : ℕ) (kind : ℕ → E) (answer : List ℕ → Result (ℕ × ℕ) E) {whole : List ℕ} {i j : ℕ} (r : Result ℕ E) {n : ℕ} → i < j → j ≤ length whole
    → IsBackOf code kind (slice_range whole i j) r n → (r, n) ≡ as_piece (answer (slice_range whole i j)) → IsFrontLen most (slice_range whole i j) n
    → GivesBackOf code most kind answer (record { whole = whole; front = i; back = j }) (j - n, r, n) (record { whole = whole; front = i; back = j - n })
back_item code most kind answer {whole} {i} {j} (Ok s) {n} some fits piece known len =
    let elements : length (slice_range whole i j) ≡ j - i = grind (arith, common_steps) in
    record {
      some = some;
      place = omega arith;
      piece = piece;
      known = known;
      len = len;
      left = refl;
      taken = ends_taken code (slice_range whole i j) s n piece;
      there = ends_there code whole i j s n some fits len.2 piece;
    }
back_item code most kind answer {whole} {i} {j} (Err k) some fits piece known len =
    let elements : length (slice_range whole i j) ≡ j - i = grind (arith, common_steps) in
    record { some = some; place = omega arith; piece = piece; known = known; len = len; left = refl; taken = tt; there = tt }
