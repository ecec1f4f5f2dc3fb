-- Windows of 64 bytes of which each is ASCII, or is invalid by itself; and their units.
use Rattle.std.proofs.Common.{◌≡◌, ℕ, ◌+◌, ◌-◌, ◌/◌, ◌<◌, ◌≤◌, Bool, true, false, cond, leb, List, length, get_or, take, drop, replicate, min, max, bit_and, bit_or, count_ones, refl, sym, ap, ap₂, ◌∙◌, inl, inr, arith, lit<, lit≤, Some, None, length-take, length-drop}
use Rattle.std.proofs.lemmas.Bool.{cases_lt}
use Rattle.std.proofs.lemmas.Grind.{common_steps}
use Rattle.std.proofs.lemmas.List.{get_or-drop, get_or-take}
use Rattle.std.proofs.lemmas.Nat.Bits.{bit_at-pow_same, bit_at-zero, bit_at_and, bit_at_or}
use Rattle.std.proofs.lemmas.Simd.{get_or-chunk, get_or-replicate, length-chunk, ones-mask_l}
use Rattle.std.proofs.Common.{le-leb, lt-ltb, le-ltb}
use Rattle.std.proofs.lemmas.Bool.{lt-leb}
use Rattle.std.specs.Int.{bit_at}
use Rattle.std.specs.Prelude.{count_by, slice_range}
use lib.Lanes.{chunk}
use Rattle.utf_base.specs.Code.{utf8}
use Rattle.utf_base.specs.Piece.{Covered, Stands}
use Rattle.utf_base.specs.Scalar.{IsScalar}
use Rattle.utf_base.specs.Subparts.{IsFrontOfCode}
use Rattle.utf_base.proofs.KindLemmas.{ascii_stands_alone}
use Rattle.utf_base.proofs.Standing.{Stands-at}
use Rattle.utf_base.proofs.Utf8Code.{utf8-1, utf8-continuation_byte}
use Rattle.utf_lanes.specs.FaultMasks.{AreSetWhere}
use Rattle.utf_lanes.specs.Mending.{IsMendedAt}
use Rattle.utf_lanes.specs.PlainWindows.{ArePlain, char_alone, plain_unit}
use Rattle.utf_lanes.specs.Utf8ToUtf16.{concat_range, halves, halves_at}
use Rattle.utf_lanes.proofs.Joined.{joined_same}
use Rattle.utf_lanes.proofs.LaneLemmas.{reach_mask, reach_mask_is}
use Rattle.utf_lanes.proofs.MaskBits.{shr_bit}
use Rattle.utf_lanes.proofs.PassedLanes.{chosen, chosen_at}

-- the code of a character that is not ASCII begins with two bytes that are not either
long_code : (s : ℕ) → IsScalar s → 0x80 ≤ s → (2 ≤ length (utf8 s)) × (0x80 ≤ get_or (utf8 s) 0 0)
unfolding utf8
long_code s h le = grind (arith, common_steps)

-- Bytes that are not ASCII, each of which ASCII follows.
module _ (xs : List ℕ) (long : 64 ≤ length xs) (apart : (k : ℕ) → k < 64 → 0x80 ≤ get_or xs k 0 → (k < 63) × (get_or xs (k + 1) 0 < 0x80)) where
  no_long_code : (p s : ℕ) → p < 64 → Stands utf8 xs p s → 0x80 ≤ s → ⊥
  no_long_code p s lt stands le =
      let code = long_code s stands.scalar le in
      let first : get_or xs p 0 ≡ get_or (utf8 s) 0 0 = Stands-at utf8 xs p s 0 p (omega arith) stands (omega (arith, code.0)) in
      let second : get_or xs (p + 1) 0 ≡ get_or (utf8 s) 1 0 = Stands-at utf8 xs p s 1 (p + 1) refl stands (omega (arith, code.0)) in
      let low = (apart p lt (omega (arith, code.1))).1 in
      let high = (utf8-continuation_byte s 1 stands.scalar (lit< tt) (omega (arith, code.0))).0 in
      omega arith

  uncovered : (k : ℕ) → k < 64 → 0x80 ≤ get_or xs k 0 → Covered utf8 xs k → ⊥
  uncovered k lt le v =
      let begins = v.begins in
      let ends = v.ends in
      elim (cases_lt v.char 0x80) [
        | inl low ↦
            let code = utf8-1 v.char low in
            let len : length (utf8 v.char) ≡ 1 = ap length code in
            let here : v.from + 0 ≡ k = omega arith in
            let byte : get_or xs k 0 ≡ get_or (utf8 v.char) 0 0 = Stands-at utf8 xs v.from v.char 0 k here v.stands (omega arith) in
            let same : get_or (utf8 v.char) 0 0 ≡ v.char = ap (λ ys. get_or ys 0 0) code in
            omega arith
        | inr high ↦ no_long_code v.from v.char (omega arith) v.stands high
      ]

  -- no two of them are the front of a code
  one_alone : (k n : ℕ) → k < 64 → 0x80 ≤ get_or xs k 0 → k + n ≤ length xs → 1 < n → IsFrontOfCode utf8 (slice_range xs k (k + n)) → ⊥
  one_alone k n lt le fits more f =
      let w = slice_range xs k (k + n) in
      let all : k + n - k ≡ n = omega arith in
      let len : length w ≡ n = omega (arith, length-take (k + n - k) (drop k xs), length-drop k xs) in
      let within = f.within in
      let high = (utf8-continuation_byte f.char 1 f.scalar (lit< tt) (omega arith)).0 in
      let front : get_or w 1 0 ≡ get_or (utf8 f.char) 1 0 = sym (ap (λ ys. get_or ys 1 0) f.front) ∙ get_or-take (length w) (utf8 f.char) 1 0 (omega arith) in
      let byte : get_or w 1 0 ≡ get_or xs (k + 1) 0 = get_or-take (k + n - k) (drop k xs) 1 0 (omega arith) ∙ get_or-drop k xs 1 0 in
      let low = (apart k lt le).1 in
      omega arith

  lone : (subparts : Bool) (k : ℕ) → k < 64 → 0x80 ≤ get_or xs k 0 → IsMendedAt subparts xs k 1 None
  lone false k lt le = (omega arith, refl, uncovered k lt le)
  lone true k lt le = record {
    offset = record {
      within = omega arith;
      none = λ s stands. elim (cases_lt s 0x80) [
        | inl low ↦
            let code = utf8-1 s low in
            let len : length (utf8 s) ≡ 1 = ap length code in
            uncovered k lt le (record { from = k; char = s; stands = stands; begins = omega arith; ends = omega arith })
        | inr high ↦ no_long_code k s lt stands high
      ];
    };
    some = omega arith;
    within = omega arith;
    front = λ more. absurd (omega arith);
    longest = λ n fits f. elim (cases_lt 1 n) [ inl more ↦ absurd (one_alone k n lt le fits more f) | inr few ↦ few ];
  }

  ascii : (subparts : Bool) (k : ℕ) → k < 64 → get_or xs k 0 < 0x80 → IsMendedAt subparts xs k 1 (Some (get_or xs k 0))
  ascii false k lt low = ascii_stands_alone xs k (omega arith) low
  ascii true k lt low = ascii_stands_alone xs k (omega arith) low

  each_alone : (subparts : Bool) (k : ℕ) → k < 64 → IsMendedAt subparts xs k 1 (char_alone (get_or xs k 0))
  each_alone subparts k lt = elim (cases_lt (get_or xs k 0) 0x80) [
    | inl low ↦ rw (lt-ltb (get_or xs k 0) 0x80 low) (ascii subparts k lt low)
    | inr high ↦ rw (le-ltb (get_or xs k 0) 0x80 high) (lone subparts k lt high)
  ]

-- the bits of a mask of which no two are side by side
pub bits_apart : (m : ℕ) → bit_and m (bit_or (m / 2) 0x8000_0000_0000_0000) ≡ 0 → (k : ℕ) → k < 64 → bit_at m k ≡ 1 → (k < 63) × (bit_at m (k + 1) ≡ 0)
bits_apart m none k lt one =
    let other = bit_or (m / 2) 0x8000_0000_0000_0000 in
    let both : min (bit_at m k) (bit_at other k) ≡ 0 = sym (bit_at_and m other k) ∙ ap (λ x. bit_at x k) none ∙ bit_at-zero k in
    let either : bit_at other k ≡ max (bit_at (m / 2) k) (bit_at 0x8000_0000_0000_0000 k) = bit_at_or (m / 2) 0x8000_0000_0000_0000 k in
    let next : bit_at (m / 2) k ≡ bit_at m (k + 1) = shr_bit m 1 k in (
      elim (cases_lt k 63) [
        | inl less ↦ less
        | inr ge ↦
            let last : k ≡ 63 = omega arith in
            let top : bit_at 0x8000_0000_0000_0000 k ≡ 1 = ap (bit_at 0x8000_0000_0000_0000) last ∙ bit_at-pow_same 63 in
            absurd (omega arith)
      ],
      omega arith,
    )

pub plain_window : (xs : List ℕ) (m : ℕ) → 64 ≤ length xs → AreSetWhere 64 m (λ k. 0x80 ≤ get_or xs k 0) → ((k : ℕ) → k < 64 → bit_at m k ≡ 1 → (k < 63) × (bit_at m (k + 1) ≡ 0)) → count_ones m ≡ count_by (leb 0x80) (take 64 xs)
    → ArePlain xs (count_ones m)
plain_window xs m long told apart count = record {
  each = each_alone xs long (λ k lt le.
      let next = apart k lt ((told k lt).1 le) in (
        next.0,
        elim (cases_lt (get_or xs (k + 1) 0) 0x80) [
          | inl low ↦ low
          | inr high ↦ (let set = (told (k + 1) (omega (arith, next.0))).1 high in let clear = next.1 in absurd (omega arith))
        ],
      ));
  count = count;
}

-- the bytes that are not ASCII, counted by their mask
pub others_counted : (xs : List ℕ) (place : ℕ) → place + 64 ≤ length xs → count_ones (reach_mask 64 0x80 (chunk place 64 xs)) ≡ count_by (leb 0x80) (chunk place 64 xs)
others_counted xs place within =
    ap count_ones (reach_mask_is 0x80 (chunk place 64 xs) (lit≤ tt) (length-chunk place 64 xs within)) ∙ ones-mask_l (leb 0x80) (chunk place 64 xs)

-- The halves of the units of bytes.
module _ (xs : List ℕ) (place : ℕ) (within : place + 64 ≤ length xs) where
  abbrev here : List ℕ
  here = chunk place 64 xs

  abbrev byte_at : ℕ → ℕ
  byte_at k = get_or (drop place xs) k 0

  here_at : (k : ℕ) → k < 64 → get_or here k 0 ≡ byte_at k
  here_at k lt = get_or-chunk place 64 xs k 0 lt ∙ sym (get_or-drop place xs k 0)

  here_len : length here ≡ 64
  here_len = length-chunk place 64 xs within

  abbrev pub lows : List ℕ
  lows = chosen leb (replicate 64 0x80) here (replicate 64 0xFD) here

  abbrev pub highs : List ℕ
  highs = chosen leb (replicate 64 0x80) here (replicate 64 0xFF) (replicate 64 0)

  low_at : (k : ℕ) → k < 64 → get_or lows k 0 ≡ cond (leb 0x80 (byte_at k)) 0xFD (byte_at k)
  low_at k lt =
      rw (
        chosen_at leb (replicate 64 0x80) here (replicate 64 0xFD) here refl here_len refl here_len k lt,
        get_or-replicate {A = ℕ} 64 k 0x80 0 lt,
        get_or-replicate {A = ℕ} 64 k 0xFD 0 lt,
        here_at k lt,
      ) refl

  high_at : (k : ℕ) → k < 64 → get_or highs k 0 ≡ cond (leb 0x80 (byte_at k)) 0xFF 0
  high_at k lt =
      rw (
        chosen_at leb (replicate 64 0x80) here (replicate 64 0xFF) (replicate 64 0) refl here_len refl refl k lt,
        get_or-replicate {A = ℕ} 64 k 0x80 0 lt,
        get_or-replicate {A = ℕ} 64 k 0xFF 0 lt,
        get_or-replicate {A = ℕ} 64 k 0 0 lt,
        here_at k lt,
      ) refl

  one_unit : (high : Bool) (byte : ℕ) → halves high (cond (leb 0x80 byte) 0xFD byte) (cond (leb 0x80 byte) 0xFF 0) ≡ plain_unit high byte
  one_unit high byte = elim (cases_lt byte 0x80) [
    | inl low ↦ rw (lt-leb 0x80 byte low, lt-ltb byte 0x80 low) refl
    | inr ge ↦ rw (le-leb 0x80 byte ge, le-ltb byte 0x80 ge) refl
  ]

  pub plain_halves : (high : Bool) (i n : ℕ) → i + n ≤ 64 → concat_range (halves_at high lows highs) i n ≡ concat_range (λ k. plain_unit high (get_or (drop place xs) k 0)) i n
  plain_halves high i n few = joined_same _ _ i n (λ k ge lt.
      ap₂ (halves high) (low_at k (omega arith)) (high_at k (omega arith)) ∙ one_unit high (byte_at k))
