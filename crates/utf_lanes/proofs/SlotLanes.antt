-- Slots of bytes in two and in three vectors, and the bytes of them that are kept.
use Rattle.std.proofs.Common.{◌≡◌, ℕ, ◌+◌, ◌*◌, ◌/◌, ◌%◌, ◌^◌, ◌<◌, Bool, true, false, cond, eqb, leb, ltb, List, [], ◌∷◌, ◌++◌, length, get_or, take, drop, bit_and, refl, sym, ap, ap₂, ◌∙◌, arith}
use Rattle.std.proofs.lemmas.Grind.{common_steps}
use Rattle.std.proofs.lemmas.List.{get_or-take, get_or-drop}
use Rattle.std.proofs.lemmas.Nat.{shr-shr}
use Rattle.std.specs.Int.{bit_at}
use Rattle.utf_lanes.specs.Lanes.{ArePairs}
use Rattle.utf_lanes.specs.UnitCodes.{nonzero_lead, lane_bytes, slot_at, slots_of, short_slots_of, marked, row_bytes, row_of, row_slots, lanes_at, lanes_of}
use Rattle.utf_lanes.proofs.BlockUnits.{low_bit, high_bit}
use Rattle.utf_lanes.proofs.Joined.{joined_halves}
use Rattle.utf_lanes.proofs.LaneLemmas.{reach_mask, reach_bits}

-- The first and the second element of each pair of a vector.
abbrev HasBoth : List ℕ → (ℕ → ℕ) → (ℕ → ℕ) → Type 0
HasBoth vs f g = ArePairs vs (λ k. f k ∷ g k ∷ [])

abbrev at_front : List ℕ → ℕ → ℕ
at_front xs k = get_or xs k 0

abbrev at_back : List ℕ → ℕ → ℕ
at_back xs k = get_or xs (8 + k) 0

-- the slot of one lane, by the first and second of each pair
abbrev lane_at : Bool → (ℕ → ℕ) → (ℕ → ℕ) → ℕ → List ℕ
lane_at true f g i = nonzero_lead (f i) ++ (g i ∷ [])
lane_at false f g i = lane_bytes (f (2 * i)) (f (2 * i + 1)) (g (2 * i))

module _ (vs : List ℕ) (f g : ℕ → ℕ) (pairs : HasBoth vs f g) where
  pair_first : (k : ℕ) → k < 8 → get_or vs (2 * k) 0 ≡ f k
  pair_first k lt = ap (λ l. get_or l 0 0) (pairs k lt)

  pair_second : (k : ℕ) → k < 8 → get_or vs (2 * k + 1) 0 ≡ g k
  pair_second k lt = ap (λ l. get_or l 1 0) (pairs k lt)

-- A mask has the bits of the bytes that are kept.

-- bits of the byte of a mask that begins at one of its bits
pub byte_bit : (m s k : ℕ) → k < 8 → bit_at (bit_and (m / 2 ^ s) 255) k ≡ bit_at m (s + k)
byte_bit m s k lt = low_bit (m / 2 ^ s) k lt ∙ ap (λ n. n % 2) (shr-shr m s k)

marked_kept : (m i b : ℕ) → bit_at m i ≡ cond (leb 0x80 b) 1 0 → marked m i b ≡ nonzero_lead b
marked_kept m i b bit = rw bit (either (leb 0x80 b) (ltb b 0x80) refl refl)
  where
    either : (s t : Bool) → leb 0x80 b ≡ s → ltb b 0x80 ≡ t → cond (eqb (cond s 1 0) 1) (b ∷ []) [] ≡ cond t [] (b ∷ [])
    either true false e f = refl
    either false true e f = refl
    either true true e f = grind (arith, common_steps)
    either false false e f = grind (arith, common_steps)

-- The slots of one vector, by a mask that says which bytes are kept.
module _ (m : ℕ) (vs : List ℕ) (f g : ℕ → ℕ) (pairs : HasBoth vs f g) (bits : (k : ℕ) → k < 8 → bit_at m k ≡ cond (leb 0x80 (f k)) 1 0) where
  row_is : (short : Bool) (i : ℕ) → i < row_slots short → row_bytes short m vs i ≡ lane_at short f g i
  row_is true i lt = rw (pair_first vs f g pairs i lt, pair_second vs f g pairs i lt) (ap (λ xs. xs ++ (g i ∷ [])) (marked_kept m i (f i) (bits i lt)))
  -- slots of four bytes are pairs of pairs
  row_is false i lt =
      let a : 4 * i ≡ 2 * (2 * i) = omega arith in
      let b : 4 * i + 2 ≡ 2 * (2 * i + 1) = omega arith in
      let c : 4 * i + 1 ≡ 2 * (2 * i) + 1 = omega arith in
      let first : get_or vs (4 * i) 0 ≡ f (2 * i) = ap (λ p. get_or vs p 0) a ∙ pair_first vs f g pairs (2 * i) (omega arith) in
      let middle : get_or vs (4 * i + 2) 0 ≡ f (2 * i + 1) = ap (λ p. get_or vs p 0) b ∙ pair_first vs f g pairs (2 * i + 1) (omega arith) in
      let last : get_or vs (4 * i + 1) 0 ≡ g (2 * i) = ap (λ p. get_or vs p 0) c ∙ pair_second vs f g pairs (2 * i) (omega arith) in
      rw (first, middle, last)
      (ap₂ (λ xs ys. xs ++ (ys ++ (g (2 * i) ∷ [])))
      (marked_kept m (2 * i) (f (2 * i)) (bits (2 * i) (omega arith)))
      (marked_kept m (2 * i + 1) (f (2 * i + 1)) (bits (2 * i + 1) (omega arith))))

-- The slots of two vectors, by the masks of each.
module _ (fronts lasts vs ws : List ℕ) (pairs : HasBoth vs (at_front fronts) (at_front lasts)) (more : HasBoth ws (at_back fronts) (at_back lasts)) (short : Bool) (m n : ℕ)
    (bits : (k : ℕ) → k < 8 → bit_at m k ≡ cond (leb 0x80 (get_or fronts k 0)) 1 0) (more_bits : (k : ℕ) → k < 8 → bit_at n k ≡ cond (leb 0x80 (get_or fronts (8 + k) 0)) 1 0) where
  front_row : (i : ℕ) → i < row_slots short → row_bytes short m vs i ≡ lanes_at short fronts lasts i
  front_row i lt = row_is m vs (at_front fronts) (at_front lasts) pairs bits short i lt ∙ here short
    where
      here : (s : Bool) → lane_at s (at_front fronts) (at_front lasts) i ≡ lanes_at s fronts lasts i
      here true = refl
      here false = refl

  back_row : (i : ℕ) → i < row_slots short → row_bytes short n ws i ≡ lanes_at short fronts lasts (row_slots short + i)
  back_row i lt = row_is n ws (at_back fronts) (at_back lasts) more more_bits short i lt ∙ there short
    where
      there : (s : Bool) → lane_at s (at_back fronts) (at_back lasts) i ≡ lanes_at s fronts lasts (row_slots s + i)
      there true = refl
      there false =
          let a : 8 + 2 * i ≡ 2 * (4 + i) = omega arith in
          let b : 8 + (2 * i + 1) ≡ 2 * (4 + i) + 1 = omega arith in
          ap₂ (λ p q. lane_bytes (get_or fronts p 0) (get_or fronts q 0) (get_or lasts p 0)) a b

  pub rows_joined : row_of short m vs ++ row_of short n ws ≡ lanes_of short fronts lasts
  rows_joined = joined_halves _ _ _ (row_slots short) front_row back_row

-- Sixteen slots in three vectors.
module _ (firsts middles lasts fronts more_fronts ends more_ends : List ℕ) (front : HasBoth fronts (at_front firsts) (at_front middles))
    (more_front : HasBoth more_fronts (at_back firsts) (at_back middles)) (end : HasBoth ends (at_front lasts) (at_front lasts)) (more_end : HasBoth more_ends (at_back lasts) (at_back lasts)) where
  slots_at : (vs zs : List ℕ) (f g h : ℕ → ℕ) → HasBoth vs f g → HasBoth zs h h → (k : ℕ) → k < 8 → lanes_at false vs zs k ≡ lane_bytes (f k) (g k) (h k)
  slots_at vs zs f g h p e k lt = rw (pair_first vs f g p k lt, pair_second vs f g p k lt, pair_first zs h h e k lt) refl

  pub sixteen_slots : lanes_of false fronts ends ++ lanes_of false more_fronts more_ends ≡ slots_of 16 firsts middles lasts
  sixteen_slots =
      joined_halves (lanes_at false fronts ends) (lanes_at false more_fronts more_ends) (slot_at firsts middles lasts) 8
      (slots_at fronts ends (at_front firsts) (at_front middles) (at_front lasts) front end)
      (slots_at more_fronts more_ends (at_back firsts) (at_back middles) (at_back lasts) more_front more_end)

-- Thirty-two slots, by the halves of the vectors.

pub short_halves : (middles lasts : List ℕ) → lanes_of true (take 16 middles) (take 16 lasts) ++ lanes_of true (drop 16 middles) (drop 16 lasts) ≡ short_slots_of 32 middles lasts
short_halves middles lasts =
    joined_halves (lanes_at true (take 16 middles) (take 16 lasts)) (lanes_at true (drop 16 middles) (drop 16 lasts)) (lanes_at true middles lasts) 16
    (λ i lt. rw (get_or-take 16 middles i 0 lt, get_or-take 16 lasts i 0 lt) refl) (λ i lt. rw (get_or-drop 16 middles i 0, get_or-drop 16 lasts i 0) refl)

pub slot_halves : (firsts middles lasts : List ℕ)
    → slots_of 16 (take 16 firsts) (take 16 middles) (take 16 lasts) ++ slots_of 16 (drop 16 firsts) (drop 16 middles) (drop 16 lasts) ≡ slots_of 32 firsts middles lasts
slot_halves firsts middles lasts =
    joined_halves (slot_at (take 16 firsts) (take 16 middles) (take 16 lasts)) (slot_at (drop 16 firsts) (drop 16 middles) (drop 16 lasts)) (slot_at firsts middles lasts) 16
    (λ i lt. rw (get_or-take 16 firsts i 0 lt, get_or-take 16 middles i 0 lt, get_or-take 16 lasts i 0 lt) refl)
    (λ i lt. rw (get_or-drop 16 firsts i 0, get_or-drop 16 middles i 0, get_or-drop 16 lasts i 0) refl)

-- The rows of sixteen lanes, and of the halves of thirty-two.

pub narrow_rows : (fronts lasts vs ws : List ℕ) → length fronts ≡ 16 → HasBoth vs (at_front fronts) (at_front lasts) → HasBoth ws (at_back fronts) (at_back lasts) → (short : Bool)
    → row_of short (bit_and (reach_mask 16 0x80 fronts) 255) vs ++ row_of short (reach_mask 16 0x80 fronts / 256) ws ≡ lanes_of short fronts lasts
narrow_rows fronts lasts vs ws long pairs more short =
    rows_joined fronts lasts vs ws pairs more short _ _ (λ k lt. low_bit (reach_mask 16 0x80 fronts) k lt ∙ reach_bits 0x80 fronts (omega arith) long k (omega arith))
    (λ k lt. high_bit (reach_mask 16 0x80 fronts) k lt ∙ reach_bits 0x80 fronts (omega arith) long (8 + k) (omega arith))

module _ (fronts lasts vs ws : List ℕ) (long : length fronts ≡ 32) (short : Bool) where
  abbrev mask : ℕ
  mask = reach_mask 32 0x80 fronts

  abbrev bit_of : ℕ → ℕ
  bit_of x = cond (leb 0x80 x) 1 0

  bit_from : (s k j : ℕ) → k < 8 → s + k ≡ j → j < 32 → bit_at (bit_and (mask / 2 ^ s) 255) k ≡ bit_of (get_or fronts j 0)
  bit_from s k j lt at less = byte_bit mask s k lt ∙ ap (bit_at mask) at ∙ reach_bits 0x80 fronts (omega arith) long j less

  pub front_rows : HasBoth (take 16 vs) (at_front (take 16 fronts)) (at_front (take 16 lasts)) → HasBoth (take 16 ws) (at_back (take 16 fronts)) (at_back (take 16 lasts))
      → row_of short (bit_and mask 255) (take 16 vs) ++ row_of short (bit_and (mask / 2 ^ 8) 255) (take 16 ws) ≡ lanes_of short (take 16 fronts) (take 16 lasts)
  front_rows pairs more =
      rows_joined (take 16 fronts) (take 16 lasts) (take 16 vs) (take 16 ws) pairs more short _ _
      (λ k lt. low_bit mask k lt ∙ reach_bits 0x80 fronts (omega arith) long k (omega arith) ∙ ap bit_of (sym (get_or-take 16 fronts k 0 (omega arith))))
      (λ k lt. bit_from 8 k (8 + k) lt refl (omega arith) ∙ ap bit_of (sym (get_or-take 16 fronts (8 + k) 0 (omega arith))))

  pub back_rows : HasBoth (drop 16 vs) (at_front (drop 16 fronts)) (at_front (drop 16 lasts)) → HasBoth (drop 16 ws) (at_back (drop 16 fronts)) (at_back (drop 16 lasts))
      → row_of short (bit_and (mask / 2 ^ 16) 255) (drop 16 vs) ++ row_of short (bit_and (mask / 2 ^ 24) 255) (drop 16 ws) ≡ lanes_of short (drop 16 fronts) (drop 16 lasts)
  back_rows pairs more =
      rows_joined (drop 16 fronts) (drop 16 lasts) (drop 16 vs) (drop 16 ws) pairs more short _ _
      (λ k lt. bit_from 16 k (16 + k) lt refl (omega arith) ∙ ap bit_of (sym (get_or-drop 16 fronts k 0)))
      (λ k lt. bit_from 24 k (16 + (8 + k)) lt (omega arith) (omega arith) ∙ ap bit_of (sym (get_or-drop 16 fronts (8 + k) 0)))
