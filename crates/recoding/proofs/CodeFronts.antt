-- Bytes that are fewer than the first asks for: the front of a code, or a fault whatever follows them.
use Rattle.std.proofs.Common.{◌≡◌, ℕ, ◌<◌, ◌≤◌, inl, inr, ⊎_elim, List, [], ◌∷◌, ◌++◌, length, get_or, take, arith, refl, Some, true, false, lit<}
use Rattle.std.proofs.lemmas.Grind.{common_steps}
use Rattle.std.proofs.lemmas.Bool.{cases_lt}
use Rattle.std.proofs.lemmas.List.{get_or_append_left}
use Rattle.utf_base.specs.declared.errors.Utf8ErrorKind.TheVariants.{TooFewBytes}
use Rattle.utf_base.specs.Code.{utf8}
use Rattle.utf_base.specs.Grammar.{IsUtf8Char}
use Rattle.utf_base.specs.Kinds.{fault_kind, asked, asked_by, value, is_continuation}
use Rattle.utf_base.specs.Piece.{Stands}
use Rattle.utf_base.specs.Shown.{IsDecided}
use Rattle.utf_base.proofs.FrontLemmas.{Decodes, asked_cases, asked_le, asked-3, asked-4, value-3, value-4, least_value-3, least_value-4, decodes_from_stands}
use Rattle.utf_base.proofs.GrammarLemmas.{char_encodes}
use Rattle.utf_base.proofs.Utf8Code.{utf8-1}
use Rattle.recoding.specs.Recoded.{IsProperFront}
use Rattle.recoding.specs.NextScalars.{MayBeSecond}

-- the empty list is the front of every code
pub front_of_nothing : IsProperFront utf8 []
front_of_nothing = record {
  char = 0;
  scalar = record { below = lit< tt; no_surrogate = λ h. absurd (omega arith) };
  longer = rw (utf8-1 0 (lit< tt)) (lit< tt);
  front = refl;
}

-- the first byte of too few asks for more than there are
pub asks_for_more : (w : List ℕ) → fault_kind w ≡ Some TooFewBytes → 0 < length w → length w < asked_by w
unfolding fault_kind
asks_for_more w e some = grind (arith, common_steps)

-- The front of a code.

-- a proper front of bytes of the grammar
proper_front : (w v : List ℕ) → IsUtf8Char v → length w < length v → take (length w) v ≡ w → IsProperFront utf8 w
proper_front w v h longer front =
    let x = char_encodes v h in
    record { char = x.scalar; scalar = x.is_scalar; longer = rw x.equal at longer; front = rw x.equal at front }

two_are_char : (a b : ℕ) → 0xC2 ≤ a → a < 0xE0 → 0x80 ≤ b → b < 0xC0 → IsUtf8Char (a ∷ b ∷ [])
two_are_char a b a1 a2 b1 b2 = inr (inl (a1, omega arith, (b1, omega arith, refl)))

pub three_are_char : (a b c : ℕ) → 0xE0 ≤ a → a < 0xF0 → MayBeSecond a b → 0x80 ≤ c → c < 0xC0 → IsUtf8Char (a ∷ b ∷ c ∷ [])
three_are_char a b c a1 a2 m c1 c2 =
    let b1 = m.low in
    let b2 = m.high in
    ⊎_elim
    (λ (h : a < 0xE1). let e = m.after_e0 (omega arith) in inr (inr (inl (inl (a1, omega arith, (e, omega arith, (c1, omega arith, refl)))))))
    (λ (h1 : 0xE1 ≤ a).
    ⊎_elim
    (λ (h : a < 0xED). inr (inr (inl (inr (inl (h1, omega arith, (b1, omega arith, (c1, omega arith, refl))))))))
    (λ (h2 : 0xED ≤ a).
    ⊎_elim
    (λ (h : a < 0xEE). let e = m.after_ed (omega arith) in inr (inr (inl (inr (inr (inl (h2, omega arith, (b1, omega arith, (c1, omega arith, refl)))))))))
    (λ (h3 : 0xEE ≤ a). inr (inr (inl (inr (inr (inr (h3, omega arith, (b1, omega arith, (c1, omega arith, refl)))))))))
    (cases_lt a 0xEE))
    (cases_lt a 0xED))
    (cases_lt a 0xE1)

four_are_char : (a b c d : ℕ) → 0xF0 ≤ a → a < 0xF5 → MayBeSecond a b → 0x80 ≤ c → c < 0xC0 → 0x80 ≤ d → d < 0xC0 → IsUtf8Char (a ∷ b ∷ c ∷ d ∷ [])
four_are_char a b c d a1 a2 m c1 c2 d1 d2 =
    let b1 = m.low in
    let b2 = m.high in
    ⊎_elim
    (λ (h : a < 0xF1). let e = m.after_f0 (omega arith) in inr (inr (inr (inl (a1, omega arith, (e, omega arith, (c1, omega arith, (d1, omega arith, refl))))))))
    (λ (h1 : 0xF1 ≤ a).
    ⊎_elim
    (λ (h : a < 0xF4). inr (inr (inr (inr (inl (h1, omega arith, (b1, omega arith, (c1, omega arith, (d1, omega arith, refl)))))))))
    (λ (h2 : 0xF4 ≤ a). let e = m.after_f4 (omega arith) in inr (inr (inr (inr (inr (h2, omega arith, (b1, omega arith, (c1, omega arith, (d1, omega arith, refl)))))))))
    (cases_lt a 0xF4))
    (cases_lt a 0xF1)

-- some byte may follow the first of three or four
some_second : (a : ℕ) → (b : ℕ) × MayBeSecond a b
some_second a =
    ⊎_elim
    (λ (h : a < 0xED). (0xA0, record { low = lit< tt; high = lit< tt; after_e0 = λ e. lit< tt; after_ed = λ e. absurd (omega arith); after_f0 = λ e. absurd (omega arith); after_f4 = λ e. absurd (omega arith) }))
    (λ (h1 : 0xED ≤ a).
    ⊎_elim
    (λ (h : a < 0xF4). (0x90, record { low = lit< tt; high = lit< tt; after_e0 = λ e. absurd (omega arith); after_ed = λ e. lit< tt; after_f0 = λ e. lit< tt; after_f4 = λ e. absurd (omega arith) }))
    (λ (h2 : 0xF4 ≤ a). (0x80, record { low = lit< tt; high = lit< tt; after_e0 = λ e. absurd (omega arith); after_ed = λ e. lit< tt; after_f0 = λ e. absurd (omega arith); after_f4 = λ e. lit< tt }))
    (cases_lt a 0xF4))
    (cases_lt a 0xED)

front_of_one : (a : ℕ) → 1 < asked a → IsProperFront utf8 (a ∷ [])
front_of_one a asks =
    let m = some_second a in
    let b = m.0 in
    ⊎_elim (λ h. absurd (omega (arith, h.1)))
    (⊎_elim (λ h. proper_front (a ∷ []) (a ∷ 0x80 ∷ []) (two_are_char a 0x80 h.0 h.1 (lit< tt) (lit< tt)) (lit< tt) refl)
    (⊎_elim (λ h. proper_front (a ∷ []) (a ∷ b ∷ 0x80 ∷ []) (three_are_char a b 0x80 h.0 h.1 m.1 (lit< tt) (lit< tt)) (lit< tt) refl)
    (λ h. proper_front (a ∷ []) (a ∷ b ∷ 0x80 ∷ 0x80 ∷ []) (four_are_char a b 0x80 0x80 h.0 h.1 m.1 (lit< tt) (lit< tt) (lit< tt) (lit< tt)) (lit< tt) refl)))
    (asked_cases a (omega arith))

pub front_of_two : (a b : ℕ) → 2 < asked a → MayBeSecond a b → IsProperFront utf8 (a ∷ b ∷ [])
front_of_two a b asks m =
    ⊎_elim (λ h. absurd (omega (arith, h.1)))
    (⊎_elim (λ h. absurd (omega (arith, h.2)))
    (⊎_elim (λ h. proper_front (a ∷ b ∷ []) (a ∷ b ∷ 0x80 ∷ []) (three_are_char a b 0x80 h.0 h.1 m (lit< tt) (lit< tt)) (lit< tt) refl)
    (λ h. proper_front (a ∷ b ∷ []) (a ∷ b ∷ 0x80 ∷ 0x80 ∷ []) (four_are_char a b 0x80 0x80 h.0 h.1 m (lit< tt) (lit< tt) (lit< tt) (lit< tt)) (lit< tt) refl)))
    (asked_cases a (omega arith))

pub front_of_three : (a b c : ℕ) → 3 < asked a → MayBeSecond a b → 0x80 ≤ c → c < 0xC0 → IsProperFront utf8 (a ∷ b ∷ c ∷ [])
front_of_three a b c asks m c1 c2 =
    ⊎_elim (λ h. absurd (omega (arith, h.1)))
    (⊎_elim (λ h. absurd (omega (arith, h.2)))
    (⊎_elim (λ h. absurd (omega (arith, h.2)))
    (λ h. proper_front (a ∷ b ∷ c ∷ []) (a ∷ b ∷ c ∷ 0x80 ∷ []) (four_are_char a b c 0x80 h.0 h.1 m c1 c2 (lit< tt) (lit< tt)) (lit< tt) refl)))
    (asked_cases a (omega arith))

-- The first byte asks for more than are there. If there are two, a code may have the second; if there are three, the
-- third continues.
pub front_of_few : (w : List ℕ) → fault_kind w ≡ Some TooFewBytes → (1 < length w → MayBeSecond (get_or w 0 0) (get_or w 1 0))
    → (2 < length w → (0x80 ≤ get_or w 2 0) × (get_or w 2 0 < 0xC0)) → IsProperFront utf8 w
front_of_few [] e second third = front_of_nothing
front_of_few (a ∷ []) e second third = front_of_one a (asks_for_more (a ∷ []) e (lit< tt))
front_of_few (a ∷ b ∷ []) e second third = front_of_two a b (asks_for_more (a ∷ b ∷ []) e (lit< tt)) (second (lit< tt))
front_of_few (a ∷ b ∷ c ∷ []) e second third =
    let t = third (lit< tt) in
    front_of_three a b c (asks_for_more (a ∷ b ∷ c ∷ []) e (lit< tt)) (second (lit< tt)) t.0 t.1
front_of_few (a ∷ b ∷ c ∷ d ∷ w) e second third =
    let more = asks_for_more (a ∷ b ∷ c ∷ d ∷ w) e (omega arith) in
    absurd (omega (arith, asked_le a))

-- Cases in which no code begins the bytes.

-- the second byte of a code of three or four, and the third
pub record Followed (w : List ℕ) : Type 0 where
  pub second : MayBeSecond (get_or w 0 0) (get_or w 1 0)
  pub low : 0x80 ≤ get_or w 2 0
  pub high : get_or w 2 0 < 0xC0

pub followed_in_three : (w : List ℕ) → Decodes w → 0xE0 ≤ get_or w 0 0 → get_or w 0 0 < 0xF0 → Followed w
followed_in_three w d a1 a2 =
    let asks = asked-3 (get_or w 0 0) a1 a2 in
    let sum = value-3 w asks in
    let b = d.follow 1 (lit< tt) (omega arith) in
    let c = d.follow 2 (lit< tt) (omega arith) in
    let b1 = b.0 in
    let b2 = b.1 in
    let c1 = c.0 in
    let c2 = c.1 in
    let least : 0x800 ≤ value w = rw (asks, least_value-3) at d.least in
    let gap = d.scalar.no_surrogate in
    record {
      second = record {
        low = b1;
        high = b2;
        after_e0 = λ e. omega arith;
        after_ed = λ e. ⊎_elim (λ (lt : get_or w 1 0 < 0xA0). lt) (λ (ge : 0xA0 ≤ get_or w 1 0). let above = gap (omega arith) in absurd (omega arith)) (cases_lt (get_or w 1 0) 0xA0);
        after_f0 = λ e. absurd (omega arith);
        after_f4 = λ e. absurd (omega arith);
      };
      low = c1;
      high = c2;
    }

pub followed_in_four : (w : List ℕ) → Decodes w → 0xF0 ≤ get_or w 0 0 → get_or w 0 0 < 0xF5 → Followed w
followed_in_four w d a1 a2 =
    let asks = asked-4 (get_or w 0 0) a1 a2 in
    let sum = value-4 w asks in
    let b = d.follow 1 (lit< tt) (omega arith) in
    let c = d.follow 2 (lit< tt) (omega arith) in
    let e = d.follow 3 (lit< tt) (omega arith) in
    let b1 = b.0 in
    let b2 = b.1 in
    let c1 = c.0 in
    let c2 = c.1 in
    let e2 = e.1 in
    let least : 0x1_0000 ≤ value w = rw (asks, least_value-4) at d.least in
    let below = d.scalar.below in
    record {
      second = record {
        low = b1;
        high = b2;
        after_e0 = λ e. absurd (omega arith);
        after_ed = λ e. absurd (omega arith);
        after_f0 = λ e. omega arith;
        after_f4 = λ e. omega arith;
      };
      low = c1;
      high = c2;
    }

-- the same holds for bytes that begin with a code, if their first asks for three or four
followed_in_code : (w later : List ℕ) (s : ℕ) → 2 < asked_by w → 1 < length w → Stands utf8 (w ++ later) 0 s → Followed (w ++ later)
followed_in_code w later s asks two h =
    let d = (decodes_from_stands (w ++ later) s h).0 in
    let first : get_or (w ++ later) 0 0 ≡ get_or w 0 0 = get_or_append_left w later 0 0 (omega arith) in
    ⊎_elim (λ k. absurd (omega (arith, k.1)))
    (⊎_elim (λ k. absurd (omega (arith, k.2)))
    (⊎_elim (λ k. followed_in_three (w ++ later) d (rw first k.0) (rw first k.1))
    (λ k. followed_in_four (w ++ later) d (rw first k.0) (rw first k.1))))
    (asked_cases (get_or w 0 0) (omega arith))

-- if a code may not have the second byte, none begins with them
pub decided_by_second : (w : List ℕ) → fault_kind w ≡ Some TooFewBytes → 1 < length w → (MayBeSecond (get_or w 0 0) (get_or w 1 0) → ⊥) → IsDecided utf8 w
decided_by_second w e two not_second =
    let more = asks_for_more w e (omega arith) in
    inr (λ later s h.
    let second = (followed_in_code w later s (omega arith) two h).second in
    not_second (rw (get_or_append_left w later 0 0 (omega arith), get_or_append_left w later 0 1 two) at second))

-- if the third byte does not continue, none begins with them
pub decided_by_third : (w : List ℕ) → fault_kind w ≡ Some TooFewBytes → 2 < length w → ((0x80 ≤ get_or w 2 0) × (get_or w 2 0 < 0xC0) → ⊥) → IsDecided utf8 w
decided_by_third w e three not_third =
    let more = asks_for_more w e (omega arith) in
    inr (λ later s h.
    let f = followed_in_code w later s (omega arith) (omega arith) h in
    let third : get_or (w ++ later) 2 0 ≡ get_or w 2 0 = get_or_append_left w later 0 2 three in
    not_third (rw third at f.low, rw third at f.high))

-- A continuation byte by its test.

pub continues_where : (b : ℕ) → is_continuation b ≡ true → (0x80 ≤ b) × (b < 0xC0)
continues_where b e = (grind (arith, common_steps), grind (arith, common_steps))

pub continues_not : (b : ℕ) → is_continuation b ≡ false → (0x80 ≤ b) × (b < 0xC0) → ⊥
continues_not b e h = let low = h.0 in let high = h.1 in grind (arith, common_steps)
