-- Three tables that validate a byte after the one before it, computed at each byte and each upper half of the
-- next.
use Rattle.std.proofs.Common.{◌≡◌, ℕ, zero, suc, ◌-◌, ◌/◌, ◌<◌, Bool, true, false, not, if◌then◌else◌, ◌&&◌, ◌||◌, eqb, ltb, leb, List, get_or, bit_and, bit_xor, arith, refl, sym, ◌∙◌, subst, inl, inr, eq-zero-or-pos, ltb-true, leb-true, eqb-true, eq-eqb, ne_eqb, le-leb, lt-ltb}
use Rattle.std.proofs.lemmas.Bool.{and_from, and_parts, cases_eq, cases_lt, or_cases, or_left, or_right}
use Rattle.utf_lanes.specs.TextBlocks.{IsContinuation, MayBegin, MayFollow, IsPair}

abbrev pub each_below : (ℕ → Bool) → ℕ → Bool
each_below p zero = true
each_below p (suc n) = p n && each_below p n

pub at_each : (p : ℕ → Bool) (n : ℕ) → each_below p n ≡ true → (i : ℕ) → i < n → p i ≡ true
at_each p zero all i lt = absurd (omega arith)
at_each p (suc n) all i lt =
    let parts = and_parts (p n) (each_below p n) all in
    elim (eq-zero-or-pos (n - i)) [
      | inl z ↦ let e : n ≡ i = omega arith in subst (λ x. p x ≡ true) e parts.0
      | inr g ↦ at_each p n parts.1 i (omega arith)
    ]

-- a byte whose upper half is h may be the second after c
abbrev second_half : ℕ → ℕ → Bool
second_half c h =
    (leb 0xC2 c && ltb c 0xF5) && ((leb 8 h && ltb h 12)
    && (((not (eqb c 0xE0) || leb 10 h) && (not (eqb c 0xED) || ltb h 10)) && ((not (eqb c 0xF0) || leb 9 h) && (not (eqb c 0xF4) || ltb h 9))))

-- a byte whose upper half is h may follow c
abbrev early_half : ℕ → ℕ → Bool
early_half c h = (ltb c 0xC0 && (ltb h 8 || leb 12 h)) || (leb 0xC0 c && second_half c h)

-- c and the byte after it are both continuation bytes
abbrev late_half : ℕ → ℕ → Bool
late_half c h = (leb 0x80 c && ltb c 0xC0) && (leb 8 h && ltb h 12)

-- the bits that the tables leave, by the byte c and the upper half of the next
abbrev left_of : List ℕ → List ℕ → List ℕ → ℕ → ℕ → ℕ
left_of high low here c h = bit_and (bit_and (get_or high (c / 16) 0) (get_or low (bit_and c 15) 0)) (get_or here h 0)

abbrev agrees : Bool → Bool → Bool
agrees a b = if a then b else not b

abbrev is_right : List ℕ → List ℕ → List ℕ → ℕ → ℕ → Bool
is_right high low here c h =
    agrees (eqb (bit_xor 0 (left_of high low here c h)) 0) (early_half c h) && agrees (eqb (bit_xor 0x80 (left_of high low here c h)) 0) (late_half c h)

-- the tables are correct at each byte and each upper half
abbrev pub AreRight : List ℕ → List ℕ → List ℕ → Type 0
AreRight high low here = each_below (λ c. each_below (is_right high low here c) 16) 256 ≡ true

the_same : (a b : Bool) → agrees a b ≡ true → a ≡ b
the_same true true e = refl
the_same true false e = sym e
the_same false true e = e
the_same false false e = refl

implied_at : (c n : ℕ) (b : Bool) → (not (eqb c n) || b) ≡ true → c ≡ n → b ≡ true
implied_at c n b h e = rw (eq-eqb c n e) at h

holds_at : (c n : ℕ) (b : Bool) → (c ≡ n → b ≡ true) → (not (eqb c n) || b) ≡ true
holds_at c n b f = elim (cases_eq c n) [ inl e ↦ rw (eq-eqb c n e) (f e) | inr other ↦ rw (ne_eqb c n other) refl ]

module _ (c d : ℕ) where
  from_second : second_half c (d / 16) ≡ true → MayBegin c d
  from_second e =
      let p = and_parts (leb 0xC2 c && ltb c 0xF5) _ e in
      let q = and_parts (leb 0xC2 c) _ p.0 in
      let r = and_parts (leb 8 (d / 16) && ltb (d / 16) 12) _ p.1 in
      let s = and_parts (leb 8 (d / 16)) _ r.0 in
      let t = and_parts ((not (eqb c 0xE0) || leb 10 (d / 16)) && (not (eqb c 0xED) || ltb (d / 16) 10)) _ r.1 in
      let u = and_parts (not (eqb c 0xE0) || leb 10 (d / 16)) _ t.0 in
      let v = and_parts (not (eqb c 0xF0) || leb 9 (d / 16)) _ t.1 in
      let low = leb-true 8 (d / 16) s.0 in
      let high = ltb-true (d / 16) 12 s.1 in
      record {
        least = leb-true _ _ q.0;
        most = ltb-true _ _ q.1;
        second = (omega arith, omega arith);
        three = λ at. let g = leb-true 10 (d / 16) (implied_at c 0xE0 _ u.0 at) in omega arith;
        surrogate = λ at. let g = ltb-true (d / 16) 10 (implied_at c 0xED _ u.1 at) in omega arith;
        four = λ at. let g = leb-true 9 (d / 16) (implied_at c 0xF0 _ v.0 at) in omega arith;
        high = λ at. let g = ltb-true (d / 16) 9 (implied_at c 0xF4 _ v.1 at) in omega arith;
      }

  from_early : early_half c (d / 16) ≡ true → MayFollow c d
  from_early e =
      elim (or_cases (ltb c 0xC0 && (ltb (d / 16) 8 || leb 12 (d / 16))) _ e) [
        | inl p ↦
            let q = and_parts (ltb c 0xC0) _ p in
            let low = ltb-true c 0xC0 q.0 in
            record {
              first = λ _ high. elim (or_cases (ltb (d / 16) 8) _ q.1) [ inl r ↦ (let g = ltb-true (d / 16) 8 r in absurd (omega arith)) | inr r ↦ (let g = leb-true 12 (d / 16) r in omega arith) ];
              second = λ high. absurd (omega arith);
            }
        | inr p ↦
            let q = and_parts (leb 0xC0 c) _ p in
            let high = leb-true 0xC0 c q.0 in
            record { first = λ low _. absurd (omega arith); second = λ _. from_second q.1 }
      ]

  from_late : late_half c (d / 16) ≡ true → IsContinuation c × IsContinuation d
  from_late e =
      let p = and_parts (leb 0x80 c && ltb c 0xC0) _ e in
      let q = and_parts (leb 0x80 c) _ p.0 in
      let r = and_parts (leb 8 (d / 16)) _ p.1 in
      let low = leb-true 8 (d / 16) r.0 in
      let high = ltb-true (d / 16) 12 r.1 in
      ((leb-true 0x80 c q.0, ltb-true c 0xC0 q.1), (omega arith, omega arith))

  to_second : MayBegin c d → second_half c (d / 16) ≡ true
  to_second m =
      let second = m.second in
      and_from _ _ (and_from _ _ (le-leb 0xC2 c m.least) (lt-ltb c 0xF5 m.most))
      (and_from _ _ (and_from _ _ (le-leb 8 (d / 16) (omega arith)) (lt-ltb (d / 16) 12 (omega arith)))
      (and_from _ _
      (and_from _ _ (holds_at c 0xE0 _ (λ at. let g = m.three at in le-leb 10 (d / 16) (omega arith))) (holds_at c 0xED _ (λ at. let g = m.surrogate at in lt-ltb (d / 16) 10 (omega arith))))
      (and_from _ _ (holds_at c 0xF0 _ (λ at. let g = m.four at in le-leb 9 (d / 16) (omega arith))) (holds_at c 0xF4 _ (λ at. let g = m.high at in lt-ltb (d / 16) 9 (omega arith))))))

  to_early : MayFollow c d → early_half c (d / 16) ≡ true
  to_early m = elim (cases_lt c 0xC0) [
    | inl low ↦ or_left _ _ (and_from _ _ (lt-ltb c 0xC0 low) (elim (cases_lt d 0x80) [
      | inl ascii ↦ or_left _ _ (lt-ltb (d / 16) 8 (omega arith))
      | inr high ↦ (let g = m.first low high in or_right _ _ (le-leb 12 (d / 16) (omega arith)))
    ]))
    | inr high ↦ or_right _ _ (and_from _ _ (le-leb 0xC0 c high) (to_second (m.second high)))
  ]

  to_late : IsContinuation c × IsContinuation d → late_half c (d / 16) ≡ true
  to_late m =
      let first = m.0 in
      let second = m.1 in
      and_from _ _ (and_from _ _ (le-leb 0x80 c first.0) (lt-ltb c 0xC0 first.1)) (and_from _ _ (le-leb 8 (d / 16) (omega arith)) (lt-ltb (d / 16) 12 (omega arith)))

-- correct tables validate each pair of bytes
pub tables_judge : (high low here : List ℕ) → AreRight high low here → (c d : ℕ) → c < 256 → d < 256 → IsPair c d (left_of high low here c (d / 16))
tables_judge high low here right c d C D =
    let e = at_each (is_right high low here c) 16 (at_each (λ x. each_below (is_right high low here x) 16) 256 right c C) (d / 16) (omega arith) in
    let none = bit_xor 0 (left_of high low here c (d / 16)) in
    let last = bit_xor 0x80 (left_of high low here c (d / 16)) in
    let p = and_parts (agrees (eqb none 0) (early_half c (d / 16))) _ e in
    let early = the_same (eqb none 0) (early_half c (d / 16)) p.0 in
    let late = the_same (eqb last 0) (late_half c (d / 16)) p.1 in
    record {
      early = (λ z. from_early c d (sym early ∙ eq-eqb none 0 z), λ m. eqb-true none 0 (early ∙ to_early c d m));
      late = (λ z. from_late c d (sym late ∙ eq-eqb last 0 z), λ m. eqb-true last 0 (late ∙ to_late c d m));
    }
