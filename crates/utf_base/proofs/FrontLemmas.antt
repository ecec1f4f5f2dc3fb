-- The code at the front of some bytes: it is there if and only if no case of a fault applies.
use Rattle.std.proofs.Common.{◌≡◌, ℕ, zero, suc, ◌+◌, ◌-◌, ◌*◌, ◌/◌, ◌%◌, ◌<◌, ◌≤◌, ◌⊎◌, inl, inr, List, [], ◌∷◌, length, get_or, take, arith, refl, ap, sym, ◌∙◌, ⊎_elim, Some, None, Option, true, false, eqb, ltb, leb, ◌&&◌, lit<}
use Rattle.std.proofs.lemmas.Grind.{common_steps}
use Rattle.std.proofs.lemmas.Bool.{cases_lt}
use Rattle.std.proofs.lemmas.List.{length-take-le}
use Rattle.utf_base.specs.declared.errors.Utf8ErrorKind.{Utf8ErrorKind}
use Rattle.utf_base.specs.Scalar.{IsScalar}
use Rattle.utf_base.specs.Code.{utf8}
use Rattle.utf_base.specs.Kinds.{fault_kind, asked, asked_by, value, payload, is_continuation, continues_at, least_value}
use Rattle.utf_base.specs.Piece.{Stands}
use Rattle.utf_base.specs.KindLaws.{CodeOrOneFault}
use Rattle.utf_base.proofs.Cuts.{Finds}
use Rattle.utf_base.proofs.Standing.{Stands-at}
use Rattle.utf_base.proofs.Utf8Code.{utf8_is_code, utf8-1, utf8-2, utf8-3, utf8-4, utf8-continuation_byte}

-- From the bytes to the code of their value.

pub code_of_2 : (v b c : ℕ) → v ≡ (b - 0xC0) * 64 + (c - 0x80) → 0xC2 ≤ b → b < 0xE0 → 0x80 ≤ c → c < 0xC0 → utf8 v ≡ b ∷ c ∷ []
code_of_2 v b c e b1 b2 c1 c2 =
    let x : 0xC0 + v / 64 ≡ b = omega arith in
    let y : 0x80 + v % 64 ≡ c = omega arith in
    utf8-2 v (omega arith) (omega arith) ∙ cc

pub code_of_3 : (v b c d : ℕ) → v ≡ (b - 0xE0) * 4096 + (c - 0x80) * 64 + (d - 0x80) → 0x800 ≤ v → 0xE0 ≤ b → b < 0xF0
    → 0x80 ≤ c → c < 0xC0 → 0x80 ≤ d → d < 0xC0 → utf8 v ≡ b ∷ c ∷ d ∷ []
code_of_3 v b c d e low b1 b2 c1 c2 d1 d2 =
    let x : 0xE0 + v / 4096 ≡ b = omega arith in
    let y : 0x80 + v / 64 % 64 ≡ c = omega arith in
    let z : 0x80 + v % 64 ≡ d = omega arith in
    utf8-3 v (omega arith) (omega arith) ∙ cc

pub code_of_4 : (v b c d f : ℕ) → v ≡ (b - 0xF0) * 262144 + (c - 0x80) * 4096 + (d - 0x80) * 64 + (f - 0x80) → 0x1_0000 ≤ v → v < 0x11_0000 → 0xF0 ≤ b → b < 0xF5
    → 0x80 ≤ c → c < 0xC0 → 0x80 ≤ d → d < 0xC0 → 0x80 ≤ f → f < 0xC0 → utf8 v ≡ b ∷ c ∷ d ∷ f ∷ []
code_of_4 v b c d f e low high b1 b2 c1 c2 d1 d2 f1 f2 =
    let x : 0xF0 + v / 262144 ≡ b = omega arith in
    let y : 0x80 + v / 4096 % 64 ≡ c = omega arith in
    let z : 0x80 + v / 64 % 64 ≡ d = omega arith in
    let t : 0x80 + v % 64 ≡ f = omega arith in
    utf8-4 v (omega arith) ∙ cc

-- The front of a list, element by element.

front_1 : (w : List ℕ) → 1 ≤ length w → take 1 w ≡ get_or w 0 0 ∷ []
front_1 w h = grind (arith, common_steps)

front_2 : (w : List ℕ) → 2 ≤ length w → take 2 w ≡ get_or w 0 0 ∷ get_or w 1 0 ∷ []
front_2 w h = grind (arith, common_steps)

front_3 : (w : List ℕ) → 3 ≤ length w → take 3 w ≡ get_or w 0 0 ∷ get_or w 1 0 ∷ get_or w 2 0 ∷ []
front_3 w h = grind (arith, common_steps)

front_4 : (w : List ℕ) → 4 ≤ length w → take 4 w ≡ get_or w 0 0 ∷ get_or w 1 0 ∷ get_or w 2 0 ∷ get_or w 3 0 ∷ []
front_4 w h = grind (arith, common_steps)

-- The number of bytes that a first byte asks for, class by class.

pub asked-1 : (b : ℕ) → b < 0x80 → asked b ≡ 1
unfolding asked
asked-1 b h = grind (arith, common_steps)

pub asked-2 : (b : ℕ) → 0xC2 ≤ b → b < 0xE0 → asked b ≡ 2
unfolding asked
asked-2 b h g = grind (arith, common_steps)

pub asked-3 : (b : ℕ) → 0xE0 ≤ b → b < 0xF0 → asked b ≡ 3
unfolding asked
asked-3 b h g = grind (arith, common_steps)

pub asked-4 : (b : ℕ) → 0xF0 ≤ b → b < 0xF5 → asked b ≡ 4
unfolding asked
asked-4 b h g = grind (arith, common_steps)

-- a continuation byte, or a byte that no code has, asks for nothing
pub asked-0 : (b : ℕ) → (0x80 ≤ b) × (b < 0xC2) ⊎ (0xF5 ≤ b) → asked b ≡ 0
unfolding asked
asked-0 b (inl h) = grind (arith, common_steps)
asked-0 b (inr h) = grind (arith, common_steps)

-- the class of a first byte, by the number of bytes that it asks for
pub asked_cases : (b : ℕ) → 0 < asked b
    → ((b < 0x80) × (asked b ≡ 1)) ⊎ (((0xC2 ≤ b) × (b < 0xE0) × (asked b ≡ 2)) ⊎ (((0xE0 ≤ b) × (b < 0xF0) × (asked b ≡ 3)) ⊎ ((0xF0 ≤ b) × (b < 0xF5) × (asked b ≡ 4))))
unfolding asked
asked_cases b h = grind (arith, common_steps)

pub asked_le : (b : ℕ) → asked b ≤ 4
unfolding asked
asked_le b = grind (arith, common_steps)

pub asked-no_continuation : (b : ℕ) → 0 < asked b → is_continuation b ≡ false
unfolding asked
asked-no_continuation b h = grind (arith, common_steps)

-- The value, length by length.

pub value-1 : (w : List ℕ) → asked_by w ≡ 1 → value w ≡ get_or w 0 0
unfolding value
value-1 w e = grind (arith, common_steps)

pub value-2 : (w : List ℕ) → asked_by w ≡ 2 → value w ≡ (get_or w 0 0 - 0xC0) * 64 + payload w 1
unfolding value
value-2 w e = grind (arith, common_steps)

pub value-3 : (w : List ℕ) → asked_by w ≡ 3 → value w ≡ (get_or w 0 0 - 0xE0) * 4096 + payload w 1 * 64 + payload w 2
unfolding value
value-3 w e = grind (arith, common_steps)

pub value-4 : (w : List ℕ) → asked_by w ≡ 4 → value w ≡ (get_or w 0 0 - 0xF0) * 262144 + payload w 1 * 4096 + payload w 2 * 64 + payload w 3
unfolding value
value-4 w e = grind (arith, common_steps)

pub least_value-below_3 : (n : ℕ) → n < 3 → least_value n ≡ 0
unfolding least_value
least_value-below_3 n h = grind (arith, common_steps)

pub least_value-3 : least_value 3 ≡ 0x800
unfolding least_value
least_value-3 = refl

pub least_value-4 : least_value 4 ≡ 0x1_0000
unfolding least_value
least_value-4 = refl

-- No case of a fault applies, stated as facts on numbers.
pub record Decodes (w : List ℕ) : Type 0 where
  pub some : 0 < length w
  pub asks : 0 < asked_by w
  pub within : asked_by w ≤ length w
  pub follow : (k : ℕ) → 0 < k → k < asked_by w → (0x80 ≤ get_or w k 0) × (get_or w k 0 < 0xC0)
  pub least : least_value (asked_by w) ≤ value w
  pub scalar : IsScalar (value w)

-- each byte that is asked for continues, if there is no fault
follows : (w : List ℕ) (k : ℕ) → fault_kind w ≡ None → 0 < k → k < asked_by w → (0x80 ≤ get_or w k 0) × (get_or w k 0 < 0xC0)
unfolding fault_kind
follows w zero h some lt = absurd (omega arith)
follows w (suc (suc (suc (suc k)))) h some lt = absurd (omega (arith, asked_le (get_or w 0 0)))
follows w _ h some lt = (grind (arith, common_steps), grind (arith, common_steps))

pub decodes_from_none : (w : List ℕ) → fault_kind w ≡ None → Decodes w
unfolding fault_kind
decodes_from_none w h = record {
  some = grind (arith, common_steps);
  asks = grind (arith, common_steps);
  within = grind (arith, common_steps);
  follow = λ k p q. follows w k h p q;
  least = grind (arith, common_steps);
  scalar = record { below = grind (arith, common_steps); no_surrogate = λ g. grind (arith, common_steps) };
}

continues : (w : List ℕ) (k : ℕ) → (k < asked_by w → (0x80 ≤ get_or w k 0) × (get_or w k 0 < 0xC0)) → continues_at w k ≡ true
continues w k h = grind (arith, common_steps)

none_from_decodes : (w : List ℕ) → Decodes w → fault_kind w ≡ None
unfolding fault_kind
none_from_decodes w h =
    let asks = h.asks in
    let not_empty : eqb (length w) 0 ≡ false = grind (arith, common_steps) in
    let first = asked-no_continuation (get_or w 0 0) h.asks in
    let occurs : eqb (asked_by w) 0 ≡ false = grind (arith, common_steps) in
    let enough : ltb (length w) (asked_by w) ≡ false = grind (arith, common_steps) in
    let one = continues w 1 (h.follow 1 (lit< tt)) in
    let two = continues w 2 (h.follow 2 (lit< tt)) in
    let three = continues w 3 (h.follow 3 (lit< tt)) in
    let long : ltb (value w) (least_value (asked_by w)) ≡ false = grind (arith, common_steps) in
    let gap : (leb 0xD800 (value w) && ltb (value w) 0xE000) ≡ false = grind (arith, common_steps) in
    let low : ltb 0x10_FFFF (value w) ≡ false = grind (arith, common_steps) in
    rw (not_empty, first, occurs, enough, one, two, three, long, gap, low) refl

-- The value's code is the front of the bytes, so it is there.

code_from_decodes : (w : List ℕ) → Decodes w → utf8 (value w) ≡ take (asked_by w) w
code_from_decodes w h =
    ⊎_elim (λ a. rw (a.1, value-1 w a.1, utf8-1 (get_or w 0 0) a.0, front_1 w (omega arith)) refl)
    (⊎_elim
    (λ a.
    let c1 = h.follow 1 (lit< tt) (omega arith) in
    rw (a.2, front_2 w (omega arith)) (code_of_2 (value w) (get_or w 0 0) (get_or w 1 0) (value-2 w a.2) a.0 a.1 c1.0 c1.1))
    (⊎_elim
    (λ a.
    let least_is = ap least_value a.2 ∙ least_value-3 in
    let c1 = h.follow 1 (lit< tt) (omega arith) in
    let c2 = h.follow 2 (lit< tt) (omega arith) in
    rw (a.2, front_3 w (omega arith))
    (code_of_3 (value w) (get_or w 0 0) (get_or w 1 0) (get_or w 2 0) (value-3 w a.2) (omega arith) a.0 a.1 c1.0 c1.1 c2.0 c2.1))
    (λ a.
    let least_is = ap least_value a.2 ∙ least_value-4 in
    let c1 = h.follow 1 (lit< tt) (omega arith) in
    let c2 = h.follow 2 (lit< tt) (omega arith) in
    let c3 = h.follow 3 (lit< tt) (omega arith) in
    rw (a.2, front_4 w (omega arith))
    (code_of_4 (value w) (get_or w 0 0) (get_or w 1 0) (get_or w 2 0) (get_or w 3 0) (value-4 w a.2) (omega arith) (omega arith) a.0 a.1 c1.0 c1.1 c2.0 c2.1 c3.0 c3.1))))
    (asked_cases (get_or w 0 0) h.asks)

stands_from_decodes : (w : List ℕ) → Decodes w → Stands utf8 w 0 (value w) × (asked_by w ≡ length (utf8 (value w)))
stands_from_decodes w h =
    let within = h.within in
    let code = code_from_decodes w h in
    let len : length (utf8 (value w)) ≡ asked_by w = ap length code ∙ length-take-le (asked_by w) w within in
    let span : 0 + asked_by w - 0 ≡ asked_by w = omega arith in
    (record { scalar = h.scalar; within = omega arith; equal = rw (len, span) (sym code) }, sym len)

-- From a standing code to the facts on numbers.

at_front : (w : List ℕ) (s k : ℕ) → Stands utf8 w 0 s → k < length (utf8 s) → get_or w k 0 ≡ get_or (utf8 s) k 0
at_front w s k h lt = Stands-at utf8 w 0 s k k (omega arith) h lt

asked_of_code : (s : ℕ) → IsScalar s → asked (get_or (utf8 s) 0 0) ≡ length (utf8 s)
unfolding asked utf8
asked_of_code s h = grind (arith, common_steps)

least_of_code : (s : ℕ) → least_value (length (utf8 s)) ≤ s
unfolding least_value utf8
least_of_code s = grind (arith, common_steps)

value_of_code : (w : List ℕ) (s : ℕ) → Stands utf8 w 0 s → asked_by w ≡ length (utf8 s) → value w ≡ s
value_of_code w s h asks =
    ⊎_elim (λ (a : s < 0x80). let c = utf8-1 s a in value-1 w (asks ∙ ap length c) ∙ at w (s ∷ []) s 0 h c (lit< tt))
    (λ (a : 0x80 ≤ s).
    ⊎_elim
    (λ (b : s < 0x800).
    let c = utf8-2 s a b in
    let e0 : get_or w 0 0 ≡ 0xC0 + s / 64 = at w _ s 0 h c (lit< tt) in
    let e1 : get_or w 1 0 ≡ 0x80 + s % 64 = at w _ s 1 h c (lit< tt) in
    let sum = value-2 w (asks ∙ ap length c) in
    omega arith)
    (λ (b : 0x800 ≤ s).
    ⊎_elim
    (λ (d : s < 0x1_0000).
    let c = utf8-3 s b d in
    let e0 : get_or w 0 0 ≡ 0xE0 + s / 4096 = at w _ s 0 h c (lit< tt) in
    let e1 : get_or w 1 0 ≡ 0x80 + s / 64 % 64 = at w _ s 1 h c (lit< tt) in
    let e2 : get_or w 2 0 ≡ 0x80 + s % 64 = at w _ s 2 h c (lit< tt) in
    let sum = value-3 w (asks ∙ ap length c) in
    omega arith)
    (λ (d : 0x1_0000 ≤ s).
    let c = utf8-4 s d in
    let e0 : get_or w 0 0 ≡ 0xF0 + s / 262144 = at w _ s 0 h c (lit< tt) in
    let e1 : get_or w 1 0 ≡ 0x80 + s / 4096 % 64 = at w _ s 1 h c (lit< tt) in
    let e2 : get_or w 2 0 ≡ 0x80 + s / 64 % 64 = at w _ s 2 h c (lit< tt) in
    let e3 : get_or w 3 0 ≡ 0x80 + s % 64 = at w _ s 3 h c (lit< tt) in
    let sum = value-4 w (asks ∙ ap length c) in
    omega arith)
    (cases_lt s 0x1_0000)) (cases_lt s 0x800)) (cases_lt s 0x80)
  where
    at : (w code : List ℕ) (s k : ℕ) → Stands utf8 w 0 s → utf8 s ≡ code → k < length code → get_or w k 0 ≡ get_or code k 0
    at w code s k h e lt = at_front w s k h (rw e lt) ∙ ap (λ x. get_or x k 0) e

pub decodes_from_stands : (w : List ℕ) (s : ℕ) → Stands utf8 w 0 s → Decodes w × (value w ≡ s)
decodes_from_stands w s h =
    let some = utf8_is_code.some s h.scalar in
    let asks : asked_by w ≡ length (utf8 s) = ap asked (at_front w s 0 h some) ∙ asked_of_code s h.scalar in
    let sum = value_of_code w s h asks in
    let within = h.within in (
      record {
        some = omega arith;
        asks = omega arith;
        within = omega arith;
        follow = λ k p q. rw (at_front w s k h (omega arith)) (utf8-continuation_byte s k h.scalar p (omega arith));
        least = rw (asks, sum) (least_of_code s);
        scalar = rw sum h.scalar;
      },
      sum,
    )

-- Both directions: no fault if and only if a code begins the bytes.

pub code_where_no_fault : (w : List ℕ) → fault_kind w ≡ None → Stands utf8 w 0 (value w) × (asked_by w ≡ length (utf8 (value w)))
code_where_no_fault w h = stands_from_decodes w (decodes_from_none w h)

pub no_fault_where_code : (w : List ℕ) (s : ℕ) → Stands utf8 w 0 s → fault_kind w ≡ None
no_fault_where_code w s h = none_from_decodes w (decodes_from_stands w s h).0

-- a fault of the front: no code begins there
pub no_code_where_fault : (w : List ℕ) (k : Utf8ErrorKind) (s : ℕ) → fault_kind w ≡ Some k → Stands utf8 w 0 s → ⊥
no_code_where_fault w k s e h = let none = no_fault_where_code w s h in cc

pub code_or_one_fault : CodeOrOneFault
code_or_one_fault = record { code = λ w e. (code_where_no_fault w e).0; fault = no_fault_where_code }

pub utf8_finds : Finds utf8
utf8_finds w = by_kind w (fault_kind w) refl
  where
    by_kind : (w : List ℕ) (k : Option Utf8ErrorKind) → fault_kind w ≡ k → ((s : ℕ) × Stands utf8 w 0 s) ⊎ ((s : ℕ) → Stands utf8 w 0 s → ⊥)
    by_kind w None e = inl (value w, (code_where_no_fault w e).0)
    by_kind w (Some k) e = inr (λ s h. no_code_where_fault w k s e h)
