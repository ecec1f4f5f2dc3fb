-- The bytes of a window that lie in no code, by its masks.
use Rattle.std.proofs.Common.{◌≡◌, ◌↔◌, ℕ, ◌+◌, ◌-◌, ◌*◌, ◌/◌, ◌%◌, ◌^◌, ◌<◌, ◌≤◌, ◌⊎◌, max, List, [], ◌∷◌, length, get_or, drop, take, refl, sym, ap, ◌∙◌, subst, inl, inr, arith, lit<, lit≤, None, length-drop}
use Rattle.std.proofs.lemmas.Bool.{cases_lt, cases_eq}
use Rattle.std.proofs.lemmas.List.{get_or-drop, get_or-take, take_all}
use Rattle.std.proofs.lemmas.Grind.{common_steps}
use Rattle.std.specs.Prelude.{slice_range}
use Rattle.std.proofs.lemmas.Nat.Bits.{bit_at-lt, bit_at_ones, bit_at_ones_above}
use Rattle.std.specs.Int.{bit_at}
use Rattle.utf_base.specs.Code.{utf8}
use Rattle.utf_base.specs.Piece.{Covered, Inside, IsPieceAt, Stands}
use Rattle.utf_base.proofs.KindLemmas.{ascii_stands_alone}
use Rattle.utf_base.proofs.Rests.{stands_in_list}
use Rattle.utf_base.proofs.Standing.{Stands-at, stands_alone}
use Rattle.utf_base.proofs.Utf8Code.{utf8-1, utf8-2, utf8-3, utf8-4, length_utf8, utf8-continuation_byte}
use Rattle.utf_base.specs.Subparts.{IsFrontOfCode}
use Rattle.utf_lanes.specs.FaultMasks.{AreSetWhere, AreTold, Continues, GoesOn}
use Rattle.utf_lanes.specs.TextBlocks.{IsContinuation, MayBegin}
use Rattle.utf_lanes.proofs.JudgedText.{Front, front-2, front-3, front-4}
use Rattle.utf_lanes.proofs.MaskBits.{broken, broken_bit, covered, covered_bit, end, end_within, fours, fours_at, fours_bit, IsEnd, later, later_bit, long, long_at, long_bit, shifted, shifted_back, third, third_bit, unset, whole, whole_bit, whole_fours, whole_long, wrong, wrong_bit}

-- What a code of two bytes or more shows at the place p.
record IsLong (xs : List ℕ) (p s : ℕ) : Type 0 where
  begins : MayBegin (get_or xs p 0) (get_or xs (p + 1) 0)
  three : 3 ≤ length (utf8 s) → (0xE0 ≤ get_or xs p 0) × IsContinuation (get_or xs (p + 1 + 1) 0)
  four : 4 ≤ length (utf8 s) → (0xF0 ≤ get_or xs p 0) × IsContinuation (get_or xs (p + 2 + 1) 0)
  not_three : length (utf8 s) < 3 → get_or xs p 0 < 0xE0
  not_four : length (utf8 s) < 4 → get_or xs p 0 < 0xF0

module _ (xs : List ℕ) (p s : ℕ) (h : Stands utf8 xs p s) where
  at : (k j : ℕ) (code : List ℕ) → utf8 s ≡ code → p + k ≡ j → k < length code → get_or xs j 0 ≡ get_or code k 0
  at k j code e place lt = Stands-at utf8 xs p s k j place h (rw e lt) ∙ ap (λ l. get_or l k 0) e

  of_two : 0x80 ≤ s → s < 0x800 → IsLong xs p s
  of_two least lt =
      let code = utf8-2 s least lt in
      let len : length (utf8 s) ≡ 2 = ap length code in
      let d : get_or xs p 0 ≡ 0xC0 + s / 64 = at 0 p _ code (omega arith) (lit< tt) in
      let e : get_or xs (p + 1) 0 ≡ 0x80 + s % 64 = at 1 (p + 1) _ code refl (lit< tt) in
      record {
        begins = record {
          least = omega arith;
          most = omega arith;
          second = (omega arith, omega arith);
          three = λ g. absurd (omega arith);
          surrogate = λ g. absurd (omega arith);
          four = λ g. absurd (omega arith);
          high = λ g. absurd (omega arith);
        };
        three = λ g. absurd (omega arith);
        four = λ g. absurd (omega arith);
        not_three = λ _. omega arith;
        not_four = λ _. omega arith;
      }

  of_three : 0x800 ≤ s → s < 0x1_0000 → IsLong xs p s
  of_three least lt =
      let code = utf8-3 s least lt in
      let len : length (utf8 s) ≡ 3 = ap length code in
      let d : get_or xs p 0 ≡ 0xE0 + s / 4096 = at 0 p _ code (omega arith) (lit< tt) in
      let e : get_or xs (p + 1) 0 ≡ 0x80 + s / 64 % 64 = at 1 (p + 1) _ code refl (lit< tt) in
      let f : get_or xs (p + 1 + 1) 0 ≡ 0x80 + s % 64 = at 2 (p + 1 + 1) _ code (omega arith) (lit< tt) in
      let scalar = h.scalar in
      record {
        begins = record {
          least = omega arith;
          most = omega arith;
          second = (omega arith, omega arith);
          three = λ g. omega arith;
          surrogate = λ g. elim (cases_lt s 0xD800) [ inl less ↦ omega arith | inr more ↦ (let n = scalar.no_surrogate more in absurd (omega arith)) ];
          four = λ g. absurd (omega arith);
          high = λ g. absurd (omega arith);
        };
        three = λ _. (omega arith, (omega arith, omega arith));
        four = λ g. absurd (omega arith);
        not_three = λ g. absurd (omega arith);
        not_four = λ _. omega arith;
      }

  of_four : 0x1_0000 ≤ s → IsLong xs p s
  of_four least =
      let code = utf8-4 s least in
      let len : length (utf8 s) ≡ 4 = ap length code in
      let d : get_or xs p 0 ≡ 0xF0 + s / 262144 = at 0 p _ code (omega arith) (lit< tt) in
      let e : get_or xs (p + 1) 0 ≡ 0x80 + s / 4096 % 64 = at 1 (p + 1) _ code refl (lit< tt) in
      let f : get_or xs (p + 1 + 1) 0 ≡ 0x80 + s / 64 % 64 = at 2 (p + 1 + 1) _ code (omega arith) (lit< tt) in
      let g : get_or xs (p + 2 + 1) 0 ≡ 0x80 + s % 64 = at 3 (p + 2 + 1) _ code (omega arith) (lit< tt) in
      let below = h.scalar.below in
      record {
        begins = record {
          least = omega arith;
          most = omega arith;
          second = (omega arith, omega arith);
          three = λ g. absurd (omega arith);
          surrogate = λ g. absurd (omega arith);
          four = λ g. omega arith;
          high = λ g. omega arith;
        };
        three = λ _. (omega arith, (omega arith, omega arith));
        four = λ _. (omega arith, (omega arith, omega arith));
        not_three = λ g. absurd (omega arith);
        not_four = λ g. absurd (omega arith);
      }

  of_one : s < 0x80 → (length (utf8 s) ≡ 1) × (get_or xs p 0 ≡ s)
  of_one lt = let code = utf8-1 s lt in (ap length code, at 0 p _ code (omega arith) (lit< tt))

  is_long : 2 ≤ length (utf8 s) → IsLong xs p s
  is_long more = elim (cases_lt s 0x80) [
    | inl one ↦ (let l = (of_one one).0 in absurd (omega arith))
    | inr a ↦ elim (cases_lt s 0x800) [
      | inl two ↦ of_two a two
      | inr b ↦ elim (cases_lt s 0x1_0000) [ inl three ↦ of_three b three | inr four ↦ of_four four ]
    ]
  ]

  is_low : length (utf8 s) < 2 → get_or xs p 0 < 0x80
  is_low few = elim (cases_lt s 0x80) [
    | inl one ↦ omega (arith, (of_one one).1)
    | inr a ↦ elim (cases_lt s 0x800) [
      | inl two ↦ (let l = ap length (utf8-2 s a two) in absurd (omega arith))
      | inr b ↦ elim (cases_lt s 0x1_0000) [ inl three ↦ (let l = ap length (utf8-3 s b three) in absurd (omega arith)) | inr four ↦ (let l = ap length (utf8-4 s four) in absurd (omega arith)) ]
    ]
  ]

-- The fronts of codes.

code_is : (v : List ℕ) (n : ℕ) → slice_range v 0 (0 + n) ≡ v → (r : Front v n) → utf8 r.0 ≡ v
code_is v n all r = sym r.1.0.equal ∙ ap (λ m. slice_range v 0 (0 + m)) (sym r.1.1) ∙ all

front_of : (v w : List ℕ) (n : ℕ) → slice_range v 0 (0 + n) ≡ v → take (length w) v ≡ w → length w ≤ n → Front v n → IsFrontOfCode utf8 w
front_of v w n all part few r = record { char = r.0; scalar = r.1.0.scalar; within = omega (arith, r.1.1); front = ap (take (length w)) (code_is v n all r) ∙ part }

any_continuation : IsContinuation 0x80
any_continuation = (lit≤ tt, lit< tt)

two_front : (c d : ℕ) → MayBegin c d → 0xE0 ≤ c → IsFrontOfCode utf8 (c ∷ d ∷ [])
two_front c d m high = elim (cases_lt c 0xF0) [
  | inl low ↦ front_of (c ∷ d ∷ 0x80 ∷ []) (c ∷ d ∷ []) 3 refl refl (lit≤ tt) (front-3 (c ∷ d ∷ 0x80 ∷ []) (lit≤ tt) m any_continuation high low)
  | inr more ↦ front_of (c ∷ d ∷ 0x80 ∷ 0x80 ∷ []) (c ∷ d ∷ []) 4 refl refl (lit≤ tt) (front-4 (c ∷ d ∷ 0x80 ∷ 0x80 ∷ []) (lit≤ tt) m any_continuation any_continuation more)
]

three_front : (c d e : ℕ) → MayBegin c d → 0xF0 ≤ c → IsContinuation e → IsFrontOfCode utf8 (c ∷ d ∷ e ∷ [])
three_front c d e m high third = front_of (c ∷ d ∷ e ∷ 0x80 ∷ []) (c ∷ d ∷ e ∷ []) 4 refl refl (lit≤ tt) (front-4 (c ∷ d ∷ e ∷ 0x80 ∷ []) (lit≤ tt) m third any_continuation high)

take_two : (w : List ℕ) → 2 ≤ length w → take 2 w ≡ get_or w 0 0 ∷ get_or w 1 0 ∷ []
take_two [] le = absurd (omega arith)
take_two (a ∷ []) le = absurd (omega arith)
take_two (a ∷ b ∷ w) le = refl

take_three : (w : List ℕ) → 3 ≤ length w → take 3 w ≡ get_or w 0 0 ∷ get_or w 1 0 ∷ get_or w 2 0 ∷ []
take_three [] le = absurd (omega arith)
take_three (a ∷ []) le = absurd (omega arith)
take_three (a ∷ b ∷ []) le = absurd (omega arith)
take_three (a ∷ b ∷ c ∷ w) le = refl

-- What a proper front of a code shows, of two bytes or three.
module _ (xs : List ℕ) (p k : ℕ) (le : k < length xs) (front : IsFrontOfCode utf8 (slice_range xs p (k + 1))) where
  abbrev pub part : List ℕ
  part = slice_range xs p (k + 1)

  pub part_len : length part ≡ k + 1 - p
  part_len = grind (arith, common_steps)

  pub of_part : (j i : ℕ) → p + j ≡ i → i ≤ k → get_or xs i 0 ≡ get_or (utf8 front.char) j 0
  of_part j i e lt =
      let less : j < k + 1 - p = omega arith in
      let here : get_or part j 0 ≡ get_or xs i 0 = get_or-take (k + 1 - p) (drop p xs) j 0 less ∙ get_or-drop p xs j 0 ∙ ap (λ n. get_or xs n 0) e in
      sym here ∙ ap (λ l. get_or l j 0) (sym front.front) ∙ get_or-take (length part) (utf8 front.char) j 0 (omega (arith, part_len))

  whole_front : p ≤ k → length (utf8 front.char) ≤ length part → Stands utf8 xs p front.char
  whole_front before all =
      let within = front.within in
      let len = part_len in
      let e : p + length (utf8 front.char) ≡ k + 1 = omega arith in
      record {
        scalar = front.scalar;
        within = omega arith;
        equal = ap (λ j. slice_range xs p j) e ∙ sym front.front ∙ take_all (length part) (utf8 front.char) all;
      }

  code_long : 2 ≤ length (utf8 front.char) → IsLong (utf8 front.char) 0 front.char
  code_long two = is_long (utf8 front.char) 0 front.char (stands_alone utf8 (utf8 front.char) (front.char, front.scalar, refl)) two

-- a code of n bytes or more stands at the place
abbrev pub Reaches : List ℕ → ℕ → ℕ → Type 0
Reaches xs p n = (s : ℕ) × Stands utf8 xs p s × (n ≤ length (utf8 s))

module _ (xs : List ℕ) (b c o t f : ℕ) (enough : 64 < length xs) (told : AreTold 64 xs b c o t f) (B : b < 2 ^ 64) (T : t < 2 ^ 64) (F : f < 2 ^ 64) where
  abbrev last : ℕ
  last = end b c o t f

  is_end : IsEnd b c o t f last
  is_end = end_within b c o t f T F

  -- Where a code that reaches out would begin.

  module _ (p : ℕ) (lt : p < last) (begins : 0xC2 ≤ get_or xs p 0) where
    low : p < 64
    low = omega (arith, is_end.most)

    before_two : p < 63
    before_two = elim (cases_lt p 63) [
      | inl less ↦ less
      | inr ge ↦
          let most = is_end.most in
          let e : p ≡ 63 = omega arith in
          let high : 0xC2 ≤ get_or xs 63 0 = subst (λ k. 0xC2 ≤ get_or xs k 0) e begins in
          let one = is_end.no_last (omega arith) ((told.others 63 (lit< tt)).1 (omega arith)) in
          let cont = ((told.next 62 (lit< tt)).0 one).1 in
          absurd (omega arith)
    ]

    before_three : 0xE0 ≤ get_or xs p 0 → p < 62
    before_three high = elim (cases_lt p 62) [
      | inl less ↦ less
      | inr ge ↦
          let e : p ≡ 62 = omega (arith, before_two) in
          let one = (told.three 62 (lit< tt)).1 (subst (λ k. 0xE0 ≤ get_or xs k 0) e high) in
          let none = is_end.no_second (omega arith) in
          absurd (omega arith)
    ]

    before_four : 0xF0 ≤ get_or xs p 0 → p < 61
    before_four high = elim (cases_lt p 61) [
      | inl less ↦ less
      | inr ge ↦
          let e : p ≡ 61 = omega (arith, before_three (omega arith)) in
          let one = (told.four 61 (lit< tt)).1 (subst (λ k. 0xF0 ≤ get_or xs k 0) e high) in
          let none = is_end.no_first (omega arith) in
          absurd (omega arith)
    ]

  -- From a standing code to bits.

  module _ (p s : ℕ) (lt : p < last) (h : Stands utf8 xs p s) (two : 2 ≤ length (utf8 s)) where
    shape : IsLong xs p s
    shape = is_long xs p s h two

    inside : p < 64
    inside = omega (arith, is_end.most)

    b_is : bit_at b p ≡ 1
    b_is = (told.begins p inside).1 shape.begins

    reach_four : 4 ≤ length (utf8 s) → bit_at (whole_fours b c o t f) p ≡ 1
    reach_four more =
        let three = shape.three (omega arith) in
        let four = shape.four more in
        let less = before_four p lt shape.begins.least four.0 in
        let tp = (told.three p inside).1 three.0 in
        let fp = (told.four p inside).1 four.0 in
        let c1 = (told.next (p + 1) (omega arith)).1 three.1 in
        let c2 = (told.next (p + 2) (omega arith)).1 four.1 in
        omega (arith, fours_bit b c o t f p inside T F, b_is, tp, fp, c1, c2)

    reach_three : 3 ≤ length (utf8 s) → bit_at (whole_long b c o t f) p ≡ 1
    reach_three more =
        let three = shape.three more in
        let less = before_three p lt shape.begins.least three.0 in
        let tp = (told.three p inside).1 three.0 in
        let c1 = (told.next (p + 1) (omega arith)).1 three.1 in
        let third_is : bit_at (third b c o t f) p ≡ 1 = omega (arith, third_bit b c o t f p inside T F, b_is, tp, c1) in
        let small = bit_at-lt (whole_long b c o t f) p in
        let joined = long_bit b c o t f p inside T F in
        elim (cases_lt (length (utf8 s)) 4) [
          | inl short ↦ (let fp = unset f p (λ one. let g = (told.four p inside).0 one in let l = shape.not_four short in omega arith) in omega arith)
          | inr long ↦ (let w = reach_four long in omega arith)
        ]

    reach_two : bit_at (whole b c o t f) p ≡ 1
    reach_two =
        let small = bit_at-lt (whole b c o t f) p in
        let joined = whole_bit b c o t f p inside T F in
        let bp = b_is in
        elim (cases_lt (length (utf8 s)) 3) [
          | inl short ↦ (let tp = unset t p (λ one. let g = (told.three p inside).0 one in let l = shape.not_three short in omega arith) in omega arith)
          | inr long ↦ (let w = reach_three long in omega arith)
        ]

  -- From bits to a standing code.

  module _ (p : ℕ) (lt : p < last) where
    within : p < 64
    within = omega (arith, is_end.most)

    here : (j m : ℕ) → p + j ≡ m → get_or (drop p xs) j 0 ≡ get_or xs m 0
    here j m e = get_or-drop p xs j 0 ∙ ap (λ n. get_or xs n 0) e

    stood : (n : ℕ) → Front (drop p xs) n → Reaches xs p n
    stood n w = (w.0, stands_in_list utf8 xs p 0 p w.0 (omega arith) (omega (arith, within)) w.1.0, omega (arith, w.1.1))

    begun : bit_at b p ≡ 1 → MayBegin (get_or (drop p xs) 0 0) (get_or (drop p xs) 1 0)
    begun one = rw (here 0 p (omega arith), here 1 (p + 1) refl) ((told.begins p within).0 one)

    fours_four : bit_at (whole_fours b c o t f) p ≡ 1 → Reaches xs p 4
    fours_four one =
        let all = fours_bit b c o t f p within T F in
        let bp : bit_at b p ≡ 1 = omega (arith, bit_at-lt b p) in
        let fp : bit_at f p ≡ 1 = omega (arith, bit_at-lt f p) in
        let c1 : bit_at c (p + 1) ≡ 1 = omega (arith, bit_at-lt c (p + 1)) in
        let c2 : bit_at c (p + 2) ≡ 1 = omega (arith, bit_at-lt c (p + 2)) in
        let high = (told.four p within).0 fp in
        let less = before_four p lt ((told.begins p within).0 bp).least high in
        let third = (told.next (p + 1) (omega arith)).0 c1 in
        let fourth = (told.next (p + 2) (omega arith)).0 c2 in
        stood 4 (front-4 (drop p xs) (omega (arith, length-drop p xs)) (begun bp) (rw (here 2 (p + 1 + 1) (omega arith)) third) (rw (here 3 (p + 2 + 1) (omega arith)) fourth) (rw (here 0 p (omega arith)) high))

    longer : (n m : ℕ) → m ≤ n → Reaches xs p n → Reaches xs p m
    longer n m le r = (r.0, r.1, omega (arith, r.2))

    long_three : bit_at (whole_long b c o t f) p ≡ 1 → Reaches xs p 3
    long_three one =
        let joined = long_bit b c o t f p within T F in
        let all = third_bit b c o t f p within T F in
        let four_low = bit_at-lt (whole_fours b c o t f) p in
        elim (cases_eq (bit_at (whole_fours b c o t f) p) 1) [
          | inl four ↦ longer 4 3 (lit≤ tt) (fours_four four)
          | inr other ↦
              let third_low = bit_at-lt (third b c o t f) p in
              let third_is : bit_at (third b c o t f) p ≡ 1 = omega arith in
              let fp : bit_at f p ≡ 0 = omega (arith, bit_at-lt f p) in
              let bp : bit_at b p ≡ 1 = omega (arith, bit_at-lt b p) in
              let tp : bit_at t p ≡ 1 = omega (arith, bit_at-lt t p) in
              let c1 : bit_at c (p + 1) ≡ 1 = omega (arith, bit_at-lt c (p + 1)) in
              let high = (told.three p within).0 tp in
              let less = before_three p lt ((told.begins p within).0 bp).least high in
              let below : get_or xs p 0 < 0xF0 = elim (cases_lt (get_or xs p 0) 0xF0) [ inl l ↦ l | inr ge ↦ (let g = (told.four p within).1 ge in absurd (omega arith)) ] in
              let third_byte = (told.next (p + 1) (omega arith)).0 c1 in
              stood 3 (front-3 (drop p xs) (omega (arith, length-drop p xs)) (begun bp) (rw (here 2 (p + 1 + 1) (omega arith)) third_byte) (rw (here 0 p (omega arith)) high) (rw (here 0 p (omega arith)) below))
        ]

    whole_two : bit_at (whole b c o t f) p ≡ 1 → Reaches xs p 2
    whole_two one =
        let joined = whole_bit b c o t f p within T F in
        let long_low = bit_at-lt (whole_long b c o t f) p in
        elim (cases_eq (bit_at (whole_long b c o t f) p) 1) [
          | inl long ↦ longer 3 2 (lit≤ tt) (long_three long)
          | inr other ↦
              let bp : bit_at b p ≡ 1 = omega (arith, bit_at-lt b p) in
              let tp : bit_at t p ≡ 0 = omega (arith, bit_at-lt t p) in
              let less = before_two p lt ((told.begins p within).0 bp).least in
              let below : get_or xs p 0 < 0xE0 = elim (cases_lt (get_or xs p 0) 0xE0) [ inl l ↦ l | inr ge ↦ (let g = (told.three p within).1 ge in absurd (omega arith)) ] in
              stood 2 (front-2 (drop p xs) (omega (arith, length-drop p xs)) (begun bp) (rw (here 0 p (omega arith)) below))
        ]

  -- The bits that lie in a code.

  covering : (p n k : ℕ) → Reaches xs p n → p ≤ k → k < p + n → Covered utf8 xs k
  covering p n k r lo hi = let more = r.2 in record { from = p; char = r.0; stands = r.1; begins = lo; ends = omega arith }

  module _ (k : ℕ) (lt : k < last) where
    few : k < 64
    few = omega (arith, is_end.most)

    -- from bits
    ascii_covered : bit_at o k ≡ 0 → Covered utf8 xs k
    ascii_covered none =
        let low : get_or xs k 0 < 0x80 = elim (cases_lt (get_or xs k 0) 0x80) [ inl l ↦ l | inr ge ↦ (let g = (told.others k few).1 ge in absurd (omega arith)) ] in
        let piece = ascii_stands_alone xs k (omega (arith, few)) low in
        covering k 1 k (get_or xs k 0, piece.0, omega (arith, piece.1)) (omega arith) (omega arith)

    by_one : bit_at (whole b c o t f * 2 ^ 1 % 2 ^ 64) k ≡ 1 → Covered utf8 xs k
    by_one one = let h = shifted (whole b c o t f) 1 k few one in covering (k - 1) 2 k (whole_two (k - 1) (omega arith) h.1) (omega arith) (omega (arith, h.0))

    by_two : bit_at (whole_long b c o t f * 2 ^ 2 % 2 ^ 64) k ≡ 1 → Covered utf8 xs k
    by_two one = let h = shifted (whole_long b c o t f) 2 k few one in covering (k - 2) 3 k (long_three (k - 2) (omega arith) h.1) (omega arith) (omega (arith, h.0))

    by_three : bit_at (whole_fours b c o t f * 2 ^ 3 % 2 ^ 64) k ≡ 1 → Covered utf8 xs k
    by_three one = let h = shifted (whole_fours b c o t f) 3 k few one in covering (k - 3) 4 k (fours_four (k - 3) (omega arith) h.1) (omega arith) (omega (arith, h.0))

    covered_where : bit_at (covered b c o t f) k ≡ 1 → Covered utf8 xs k
    covered_where one =
        let joined = covered_bit b c o t f k in
        elim (cases_eq (bit_at (whole b c o t f) k) 1) [
          | inl w ↦ covering k 2 k (whole_two k lt w) (omega arith) (omega arith)
          | inr n0 ↦ elim (cases_eq (bit_at (whole b c o t f * 2 ^ 1 % 2 ^ 64) k) 1) [
            | inl w ↦ by_one w
            | inr n1 ↦ elim (cases_eq (bit_at (whole_long b c o t f * 2 ^ 2 % 2 ^ 64) k) 1) [
              | inl w ↦ by_two w
              | inr n2 ↦
                  let z0 = unset (whole b c o t f) k n0 in
                  let z1 = unset (whole b c o t f * 2 ^ 1 % 2 ^ 64) k n1 in
                  let z2 = unset (whole_long b c o t f * 2 ^ 2 % 2 ^ 64) k n2 in
                  by_three (omega arith)
            ]
          ]
        ]

    -- to bits
    abbrev IsIn : Type 0
    IsIn = (bit_at o k ≡ 0) ⊎ (bit_at (covered b c o t f) k ≡ 1)

    joins : (m : ℕ) → bit_at m k ≡ 1 → bit_at m k ≤ bit_at (covered b c o t f) k → IsIn
    joins m one le = inr (let small = bit_at-lt (covered b c o t f) k in omega arith)

    in_code : Covered utf8 xs k → IsIn
    in_code v =
        let s = v.char in
        let from = v.from in
        let begins = v.begins in
        let ends = v.ends in
        let most = length_utf8 s in
        let joined = covered_bit b c o t f k in
        let small = bit_at-lt (covered b c o t f) k in
        elim (cases_lt (length (utf8 s)) 2) [
          | inl short ↦
              let e : from ≡ k = omega arith in
              let low : get_or xs k 0 < 0x80 = subst (λ j. get_or xs j 0 < 0x80) e (is_low xs from s v.stands short) in
              inl (unset o k (λ one. let g = (told.others k few).0 one in omega arith))
          | inr two ↦ elim (cases_eq k from) [
            | inl e ↦ (let w : bit_at (whole b c o t f) k ≡ 1 = subst (λ j. bit_at (whole b c o t f) j ≡ 1) (sym e) (reach_two from s (omega arith) v.stands two) in inr (omega arith))
            | inr n0 ↦ elim (cases_eq k (from + 1)) [
              | inl e ↦ (let w = shifted_back (whole b c o t f) 1 k from (sym e) few (reach_two from s (omega arith) v.stands two) in inr (omega arith))
              | inr n1 ↦ elim (cases_eq k (from + 2)) [
                | inl e ↦ (let w = shifted_back (whole_long b c o t f) 2 k from (sym e) few (reach_three from s (omega arith) v.stands two (omega arith)) in inr (omega arith))
                | inr n2 ↦ (let w = shifted_back (whole_fours b c o t f) 3 k from (omega arith) few (reach_four from s (omega arith) v.stands two (omega arith)) in inr (omega arith))
              ]
            ]
          ]
        ]

  -- The faults.

  pub faults_told : AreSetWhere 64 (wrong b c o t f) (λ k. (k < last) × IsPieceAt utf8 xs k 1 None)
  faults_told k lt =
      let joined = wrong_bit b c o t f k lt B is_end.most in (
        λ one.
            let less : k < last = elim (cases_lt k last) [ inl l ↦ l | inr ge ↦ (let z = bit_at_ones_above last k ge in absurd (omega arith)) ] in
            let ones = bit_at_ones last k less in
            let ok : bit_at o k ≡ 1 = omega (arith, bit_at-lt o k) in
            let none : bit_at (covered b c o t f) k ≡ 0 = omega (arith, bit_at-lt (covered b c o t f) k) in
            (less, (omega arith, refl, λ v. elim (in_code k less v) [ inl z ↦ omega arith | inr w ↦ omega arith ])),
        λ fault.
            let less = fault.0 in
            let ones = bit_at_ones last k less in
            let ok : bit_at o k ≡ 1 = elim (cases_eq (bit_at o k) 1) [ inl e ↦ e | inr n ↦ absurd (fault.1.2 (ascii_covered k less (unset o k n))) ] in
            let none = unset (covered b c o t f) k (λ w. fault.1.2 (covered_where k less w)) in
            omega arith,
      )

  -- No code lies over the end.

  no_first_inside : (s from : ℕ) → Stands utf8 xs from s → from < last → last < from + length (utf8 s) → last ≡ 64 → ⊥
  no_first_inside s from h lo hi e =
      let most = length_utf8 s in
      let l = is_long xs from s h (omega arith) in
      let b2 = before_two from lo l.begins.least in
      elim (cases_lt (length (utf8 s)) 4) [
        | inl short ↦ (let b3 = before_three from lo l.begins.least (l.three (omega arith)).0 in omega arith)
        | inr four ↦ (let b4 = before_four from lo l.begins.least (l.four four).0 in omega arith)
      ]

  last_begins : last < 64 → IsContinuation (get_or xs last 0) → ⊥
  last_begins lt cont =
      let least = is_end.least in
      let byte : (k : ℕ) → last ≡ k → IsContinuation (get_or xs k 0) = λ k e. subst (λ j. IsContinuation (get_or xs j 0)) e cont in
      elim (cases_eq last 61) [
        | inl e ↦ (let g = (told.four 61 (lit< tt)).0 (is_end.first e) in let h = byte 61 e in omega arith)
        | inr n ↦ elim (cases_eq last 62) [
          | inl e ↦ (let g = (told.three 62 (lit< tt)).0 (is_end.second e) in let h = byte 62 e in omega arith)
          | inr n2 ↦ (let e : last ≡ 63 = omega arith in let g = (told.next 62 (lit< tt)).1 (byte 63 e) in let h = is_end.last e in omega arith)
        ]
      ]

  pub ends_piece : Inside utf8 xs last → ⊥
  ends_piece v =
      let lo = v.begins in
      let hi = v.ends in
      elim (cases_lt last 64) [
        | inr ge ↦ no_first_inside v.char v.from v.stands v.begins v.ends (omega (arith, is_end.most))
        | inl lt ↦
            let byte = utf8-continuation_byte v.char (last - v.from) v.stands.scalar (omega arith) (omega arith) in
            let same = Stands-at utf8 xs v.from v.char (last - v.from) last (omega arith) v.stands (omega arith) in
            last_begins lt (omega arith, omega arith)
      ]

  -- The faults that go on.

  module _ (k : ℕ) (lt : k < 64) (fault : (k < last) × IsPieceAt utf8 xs k 1 None) where
    after_one : bit_at (long b c o t f * 2 ^ 1 % 2 ^ 64) k ≡ 1 → GoesOn xs k
    after_one one =
        let h = shifted (long b c o t f) 1 k lt one in
        let p = k - 1 in
        let le = h.0 in
        let both = long_at b c o t f p in
        let begins = (told.begins p (omega arith)).0 (omega (arith, h.1, bit_at-lt b p)) in
        let high = (told.three p (omega arith)).0 (omega (arith, h.1, bit_at-lt t p)) in
        let span : k + 1 - p ≡ 2 = omega arith in
        let bytes : slice_range xs p (k + 1) ≡ get_or xs p 0 ∷ get_or xs (p + 1) 0 ∷ []
        = ap (λ n. take n (drop p xs)) span ∙ take_two (drop p xs) (omega (arith, length-drop p xs)) ∙ rw (get_or-drop p xs 0 0, get_or-drop p xs 1 0) (let e : p + 0 ≡ p = omega arith in rw e refl) in
        record { fault = fault.1; from = p; before = omega arith; front = rw bytes (two_front (get_or xs p 0) (get_or xs (p + 1) 0) begins high) }

    after_two : bit_at (fours b c o t f * 2 ^ 2 % 2 ^ 64) k ≡ 1 → GoesOn xs k
    after_two one =
        let h = shifted (fours b c o t f) 2 k lt one in
        let p = k - 2 in
        let le = h.0 in
        let both = fours_at b c o t f p in
        let all = third_bit b c o t f p (omega arith) T F in
        let third_small = bit_at-lt (third b c o t f) p in
        let four_small = bit_at-lt f p in
        let third_is : bit_at (third b c o t f) p ≡ 1 = omega (arith, h.1) in
        let begins = (told.begins p (omega arith)).0 (omega (arith, bit_at-lt b p)) in
        let high = (told.four p (omega arith)).0 (omega (arith, h.1)) in
        let third_byte = (told.next (p + 1) (omega arith)).0 (omega (arith, bit_at-lt c (p + 1))) in
        let span : k + 1 - p ≡ 3 = omega arith in
        let e : p + 0 ≡ p = omega arith in
        let e2 : p + 2 ≡ p + 1 + 1 = omega arith in
        let bytes : slice_range xs p (k + 1) ≡ get_or xs p 0 ∷ get_or xs (p + 1) 0 ∷ get_or xs (p + 1 + 1) 0 ∷ []
        = ap (λ n. take n (drop p xs)) span ∙ take_three (drop p xs) (omega (arith, length-drop p xs)) ∙ rw (get_or-drop p xs 0 0, get_or-drop p xs 1 0, get_or-drop p xs 2 0) (rw (e, e2) refl) in
        record { fault = fault.1; from = p; before = omega arith; front = rw bytes (three_front (get_or xs p 0) (get_or xs (p + 1) 0) (get_or xs (p + 1 + 1) 0) begins high third_byte) }

    goes_on : GoesOn xs k → (bit_at (long b c o t f * 2 ^ 1 % 2 ^ 64) k ≡ 1) ⊎ (bit_at (fours b c o t f * 2 ^ 2 % 2 ^ 64) k ≡ 1)
    goes_on g =
        let p = g.from in
        let before = g.before in
        let fr = g.front in
        let len = part_len xs p k (omega arith) fr in
        let within = fr.within in
        let most = length_utf8 fr.char in
        let less = fault.0 in
        let proper : length (slice_range xs p (k + 1)) < length (utf8 fr.char)
        = elim (cases_lt (length (slice_range xs p (k + 1))) (length (utf8 fr.char))) [
          | inl l ↦ l
          | inr ge ↦ absurd (fault.1.2 (covering p (length (utf8 fr.char)) k (fr.char, whole_front xs p k (omega arith) fr (omega arith) ge, omega arith) (omega arith) (omega arith)))
        ] in
        let l = code_long xs p k (omega arith) fr (omega arith) in
        let three = l.three (omega arith) in
        let first = of_part xs p k (omega arith) fr 0 p (omega arith) (omega arith) in
        let second = of_part xs p k (omega arith) fr 1 (p + 1) refl (omega arith) in
        let begins : MayBegin (get_or xs p 0) (get_or xs (p + 1) 0) = rw (first, second) l.begins in
        let bp = (told.begins p (omega arith)).1 begins in
        let tp = (told.three p (omega arith)).1 (omega (arith, first, three.0)) in
        elim (cases_eq k (p + 1)) [
          | inl e ↦ inl (shifted_back (long b c o t f) 1 k p (sym e) lt (omega (arith, long_at b c o t f p)))
          | inr other ↦
              let e : p + 2 ≡ k = omega arith in
              let four = l.four (omega arith) in
              let third_byte = of_part xs p k (omega arith) fr 2 (p + 1 + 1) (omega arith) (omega arith) in
              let fp = (told.four p (omega arith)).1 (omega (arith, first, four.0)) in
              let c1 = (told.next (p + 1) (omega arith)).1 (omega (arith, third_byte, three.1.0), omega (arith, third_byte, three.1.1)) in
              let third_is = third_bit b c o t f p (omega arith) T F in
              inr (shifted_back (fours b c o t f) 2 k p e lt (omega (arith, fours_at b c o t f p)))
        ]

  pub later_told : AreSetWhere 64 (later b c o t f) (λ k. (k < last) × GoesOn xs k)
  later_told k lt =
      let both = later_bit b c o t f k in
      let faults = faults_told k lt in
      let s0 = bit_at-lt (wrong b c o t f) k in
      let s1 = bit_at-lt (long b c o t f * 2 ^ 1 % 2 ^ 64) k in
      let s2 = bit_at-lt (fours b c o t f * 2 ^ 2 % 2 ^ 64) k in (
        λ one.
            let fault = faults.0 (omega arith) in
            (fault.0, elim (cases_eq (bit_at (long b c o t f * 2 ^ 1 % 2 ^ 64) k) 1) [ inl e ↦ after_one k lt fault e | inr n ↦ after_two k lt fault (omega arith) ]),
        λ g.
            let fault : (k < last) × IsPieceAt utf8 xs k 1 None = (g.0, g.1.fault) in
            let one = faults.1 fault in
            elim (goes_on k lt fault g.1) [ inl e ↦ omega arith | inr e ↦ omega arith ],
      )

  -- What the bytes after a first byte show.

  pub broken_told : c < 2 ^ 64 → (k : ℕ) → k < last → 0xC2 ≤ get_or xs k 0 → bit_at (broken b c o t f) k ≡ 0 ↔ Continues xs k
  broken_told C k lt first =
      let b2 = before_two k lt first in
      let bit = broken_bit b c o t f k (omega arith) C T F in
      let s0 = bit_at-lt c k in
      let s1 = bit_at-lt c (k + 1) in
      let s2 = bit_at-lt c (k + 2) in
      let at2 : k + 1 + 1 ≡ k + 2 = omega arith in
      let at3 : k + 2 + 1 ≡ k + 3 = omega arith in (
        λ none. record {
          second = (told.next k (omega arith)).0 (omega arith);
          third = λ high.
              let b3 = before_three k lt first high in
              let tp = (told.three k (omega arith)).1 high in
              rw at2 at ((told.next (k + 1) (omega arith)).0 (omega arith));
          fourth = λ high.
              let b4 = before_four k lt first high in
              let fp = (told.four k (omega arith)).1 high in
              rw at3 at ((told.next (k + 2) (omega arith)).0 (omega arith));
        },
        λ h.
            let one = (told.next k (omega arith)).1 h.second in
            let two : max (bit_at c (k + 1)) (1 - bit_at t k) ≡ 1 = elim (cases_lt (get_or xs k 0) 0xE0) [
              | inl low ↦ (let tp = unset t k (λ g. let ge = (told.three k (omega arith)).0 g in omega arith) in omega arith)
              | inr high ↦ (let b3 = before_three k lt first high in let c1 = (told.next (k + 1) (omega arith)).1 (rw at2 (h.third high)) in let tp = (told.three k (omega arith)).1 high in omega arith)
            ] in
            let three : max (bit_at c (k + 2)) (1 - bit_at f k) ≡ 1 = elim (cases_lt (get_or xs k 0) 0xF0) [
              | inl low ↦ (let fp = unset f k (λ g. let ge = (told.four k (omega arith)).0 g in omega arith) in omega arith)
              | inr high ↦ (let b4 = before_four k lt first high in let c2 = (told.next (k + 2) (omega arith)).1 (rw at3 (h.fourth high)) in let fp = (told.four k (omega arith)).1 high in omega arith)
            ] in
            omega arith,
      )

  -- No maximal subpart lies over the end.
  pub parts_end : GoesOn xs last → ⊥
  parts_end g =
      let p = g.from in
      let before = g.before in
      let fr = g.front in
      let top = is_end.most in
      let le : last < length xs = omega arith in
      let len = part_len xs p last le fr in
      let within = fr.within in
      let most = length_utf8 fr.char in
      let l = code_long xs p last le fr (omega arith) in
      let first = of_part xs p last le fr 0 p (omega arith) (omega arith) in
      let least = l.begins.least in
      elim (cases_lt last 64) [
        | inl lt ↦
            let byte = utf8-continuation_byte fr.char (last - p) fr.scalar (omega arith) (omega arith) in
            let same = of_part xs p last le fr (last - p) last (omega arith) (omega arith) in
            last_begins lt (omega arith, omega arith)
        | inr ge ↦
            let b2 = before_two p before (omega arith) in
            let three = l.three (omega arith) in
            let b3 = before_three p before (omega arith) (omega arith) in
            let four = l.four (omega arith) in
            let b4 = before_four p before (omega arith) (omega arith) in
            omega arith
      ]
