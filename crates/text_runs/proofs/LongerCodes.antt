-- Codes of two bytes or more, recognised by their first four bytes.
use Rattle.std.proofs.Common.{◌≡◌, ℕ, ◌+◌, ◌-◌, ◌*◌, ◌<◌, ◌≤◌, Bool, true, false, ◌&&◌, List, length, get_or, arith, refl, ⊎_elim, Some, None, Option, lit<, inl, inr}
use Rattle.std.proofs.lemmas.Bool.{cases_lt}
use Rattle.std.proofs.lemmas.Grind.{common_steps}
use Rattle.utf_base.specs.Kinds.{fault_kind, is_continuation, payload, value}
use Rattle.utf_base.specs.declared.errors.Utf8ErrorKind.{Utf8ErrorKind}
use Rattle.utf_base.proofs.FrontLemmas.{asked-0, asked-1, asked-2, asked-3, asked-4, decodes_from_none, least_value-below_3, least_value-3, least_value-4, value-3, value-4}
use Rattle.utf_base.proofs.KindCases.{Asks-2, Asks-3, Asks-4, Sums-2, Sums-3, Sums-4, kind-none}
use Rattle.text_runs.specs.InnerBytes.{inner_after, is_longer}
use Rattle.text_runs.proofs.InnerLemmas.{inner_code, inner_fault, inner_none}

module _ (w : List ℕ) (enough : 4 ≤ length w) where
  -- If the test passes, there is no fault.
  module _ (h : is_longer (get_or w 0 0) (get_or w 1 0) (get_or w 2 0) (get_or w 3 0) ≡ true) where
    pub low : 0xC2 ≤ get_or w 0 0
    low = grind (arith, common_steps)

    pub high : get_or w 0 0 < 0xF5
    high = grind (arith, common_steps)

    second : is_continuation (get_or w 1 0) ≡ true
    second = grind (arith, common_steps)

    second_low : 0x80 ≤ get_or w 1 0
    second_low = grind (arith, common_steps)

    second_high : get_or w 1 0 < 0xC0
    second_high = grind (arith, common_steps)

    third : 0xE0 ≤ get_or w 0 0 → is_continuation (get_or w 2 0) ≡ true
    third long = grind (arith, common_steps)

    fourth : 0xF0 ≤ get_or w 0 0 → is_continuation (get_or w 3 0) ≡ true
    fourth long = grind (arith, common_steps)

    after_e0 : get_or w 0 0 ≡ 0xE0 → 0xA0 ≤ get_or w 1 0
    after_e0 e = grind (arith, common_steps)

    after_ed : get_or w 0 0 ≡ 0xED → get_or w 1 0 < 0xA0
    after_ed e = grind (arith, common_steps)

    after_f0 : get_or w 0 0 ≡ 0xF0 → 0x90 ≤ get_or w 1 0
    after_f0 e = grind (arith, common_steps)

    after_f4 : get_or w 0 0 ≡ 0xF4 → get_or w 1 0 < 0x90
    after_f4 e = grind (arith, common_steps)

    bounds : (n : ℕ) → is_continuation n ≡ true → (0x80 ≤ n) × (n < 0xC0)
    bounds n e = (grind (arith, common_steps), grind (arith, common_steps))

    none_two : get_or w 0 0 < 0xE0 → fault_kind w ≡ None
    none_two lt =
        let v = (get_or w 0 0 - 0xC0) * 64 + payload w 1 in
        let lo = low in
        let blo = second_low in
        let bhi = second_high in
        let sums = Sums-2 w v (Asks-2 w (omega arith) low lt) (omega arith) second refl in
        let least = least_value-below_3 2 (lit< tt) in
        kind-none w 2 v sums (omega arith) (record { below = omega arith; no_surrogate = λ g. absurd (omega arith) })

    none_three : 0xE0 ≤ get_or w 0 0 → get_or w 0 0 < 0xF0 → fault_kind w ≡ None
    none_three ge lt =
        let v = (get_or w 0 0 - 0xE0) * 4096 + payload w 1 * 64 + payload w 2 in
        let blo = second_low in
        let bhi = second_high in
        let third_is = third ge in
        let (clo, chi) = bounds (get_or w 2 0) third_is in
        let both : (is_continuation (get_or w 1 0) && is_continuation (get_or w 2 0)) ≡ true = rw (second, third_is) refl in
        let sums = Sums-3 w v (Asks-3 w (omega arith) ge lt) (omega arith) both refl in
        let enough_value : 0x800 ≤ v = ⊎_elim (λ (more : 0xE0 < get_or w 0 0). omega arith) (λ (le : get_or w 0 0 ≤ 0xE0). let from = after_e0 (omega arith) in omega arith) (cases_lt 0xE0 (get_or w 0 0)) in
        let gap : 0xD800 ≤ v → 0xE000 ≤ v
        = λ g.
        ⊎_elim
        (λ (more : 0xED < get_or w 0 0). omega arith)
        (λ (le : get_or w 0 0 ≤ 0xED).
        ⊎_elim (λ (less : get_or w 0 0 < 0xED). absurd (omega arith)) (λ (ge : 0xED ≤ get_or w 0 0). let to = after_ed (omega arith) in absurd (omega arith)) (cases_lt (get_or w 0 0) 0xED))
        (cases_lt 0xED (get_or w 0 0)) in
        kind-none w 3 v sums (rw least_value-3 enough_value) (record { below = omega arith; no_surrogate = gap })

    none_four : 0xF0 ≤ get_or w 0 0 → fault_kind w ≡ None
    none_four ge =
        let v = (get_or w 0 0 - 0xF0) * 262144 + payload w 1 * 4096 + payload w 2 * 64 + payload w 3 in
        let lt = high in
        let blo = second_low in
        let bhi = second_high in
        let third_is = third (omega arith) in
        let fourth_is = fourth ge in
        let (clo, chi) = bounds (get_or w 2 0) third_is in
        let (dlo, dhi) = bounds (get_or w 3 0) fourth_is in
        let all : (is_continuation (get_or w 1 0) && is_continuation (get_or w 2 0) && is_continuation (get_or w 3 0)) ≡ true = rw (second, third_is, fourth_is) refl in
        let sums = Sums-4 w v (Asks-4 w (omega arith) ge lt) (omega arith) all refl in
        let enough_value : 0x1_0000 ≤ v = ⊎_elim (λ (more : 0xF0 < get_or w 0 0). omega arith) (λ (le : get_or w 0 0 ≤ 0xF0). let from = after_f0 (omega arith) in omega arith) (cases_lt 0xF0 (get_or w 0 0)) in
        let below_value : v < 0x11_0000 = ⊎_elim (λ (less : get_or w 0 0 < 0xF4). omega arith) (λ (ge : 0xF4 ≤ get_or w 0 0). let to = after_f4 (omega arith) in omega arith) (cases_lt (get_or w 0 0) 0xF4) in
        kind-none w 4 v sums (rw least_value-4 enough_value) (record { below = below_value; no_surrogate = λ g. omega arith })

    -- the code has as many bytes as its first asks for
    pub inner_two : get_or w 0 0 < 0xE0 → inner_after w ≡ 1
    inner_two lt = let asks = asked-2 (get_or w 0 0) low lt in omega (arith, inner_code w (none_two lt))

    pub inner_three : 0xE0 ≤ get_or w 0 0 → get_or w 0 0 < 0xF0 → inner_after w ≡ 2
    inner_three ge lt = let asks = asked-3 (get_or w 0 0) ge lt in omega (arith, inner_code w (none_three ge lt))

    pub inner_four : 0xF0 ≤ get_or w 0 0 → inner_after w ≡ 3
    inner_four ge = let asks = asked-4 (get_or w 0 0) ge high in omega (arith, inner_code w (none_four ge))

  -- If there is no fault, and the first byte asks for more, the test passes.
  module _ (e : fault_kind w ≡ None) where
    longer_two : 0xC2 ≤ get_or w 0 0 → get_or w 0 0 < 0xE0 → is_longer (get_or w 0 0) (get_or w 1 0) (get_or w 2 0) (get_or w 3 0) ≡ true
    longer_two ge lt =
        let told = decodes_from_none w e in
        let asks = asked-2 (get_or w 0 0) ge lt in
        let (blo, bhi) = told.follow 1 (lit< tt) (omega arith) in
        grind (arith, common_steps)

    longer_three : 0xE0 ≤ get_or w 0 0 → get_or w 0 0 < 0xF0 → is_longer (get_or w 0 0) (get_or w 1 0) (get_or w 2 0) (get_or w 3 0) ≡ true
    longer_three ge lt =
        let told = decodes_from_none w e in
        let asks = asked-3 (get_or w 0 0) ge lt in
        let (blo, bhi) = told.follow 1 (lit< tt) (omega arith) in
        let (clo, chi) = told.follow 2 (lit< tt) (omega arith) in
        let sum = value-3 w asks in
        let least : 0x800 ≤ value w = rw (asks, least_value-3) at told.least in
        let scalar = told.scalar in
        ⊎_elim
        (λ (more : 0xE0 < get_or w 0 0).
        ⊎_elim
        (λ (less : get_or w 0 0 < 0xED). grind (arith, common_steps))
        (λ (from : 0xED ≤ get_or w 0 0).
        ⊎_elim
        (λ (past : 0xED < get_or w 0 0). grind (arith, common_steps))
        (λ (to : get_or w 0 0 ≤ 0xED).
        ⊎_elim
        (λ (few : get_or w 1 0 < 0xA0). grind (arith, common_steps))
        (λ (many : 0xA0 ≤ get_or w 1 0). let up = scalar.no_surrogate (omega arith) in absurd (omega arith))
        (cases_lt (get_or w 1 0) 0xA0))
        (cases_lt 0xED (get_or w 0 0)))
        (cases_lt (get_or w 0 0) 0xED))
        (λ (le : get_or w 0 0 ≤ 0xE0).
        let from : 0xA0 ≤ get_or w 1 0 = omega arith in
        grind (arith, common_steps))
        (cases_lt 0xE0 (get_or w 0 0))

    longer_four : 0xF0 ≤ get_or w 0 0 → get_or w 0 0 < 0xF5 → is_longer (get_or w 0 0) (get_or w 1 0) (get_or w 2 0) (get_or w 3 0) ≡ true
    longer_four ge lt =
        let told = decodes_from_none w e in
        let asks = asked-4 (get_or w 0 0) ge lt in
        let (blo, bhi) = told.follow 1 (lit< tt) (omega arith) in
        let (clo, chi) = told.follow 2 (lit< tt) (omega arith) in
        let (dlo, dhi) = told.follow 3 (lit< tt) (omega arith) in
        let sum = value-4 w asks in
        let least : 0x1_0000 ≤ value w = rw (asks, least_value-4) at told.least in
        let below = told.scalar.below in
        ⊎_elim
        (λ (more : 0xF0 < get_or w 0 0).
        ⊎_elim
        (λ (less : get_or w 0 0 < 0xF4). grind (arith, common_steps))
        (λ (from : 0xF4 ≤ get_or w 0 0).
        let to : get_or w 1 0 < 0x90 = omega arith in
        grind (arith, common_steps))
        (cases_lt (get_or w 0 0) 0xF4))
        (λ (le : get_or w 0 0 ≤ 0xF0).
        let from : 0x90 ≤ get_or w 1 0 = omega arith in
        grind (arith, common_steps))
        (cases_lt 0xF0 (get_or w 0 0))

  -- If the test fails, no code of two bytes or more begins the bytes.
  pub inner_not_longer : is_longer (get_or w 0 0) (get_or w 1 0) (get_or w 2 0) (get_or w 3 0) ≡ false → inner_after w ≡ 0
  inner_not_longer h = by_kind (fault_kind w) refl
    where
      no_both : (t : Bool) → t ≡ true → t ≡ false → ⊥
      no_both t e f = cc

      by_kind : (o : Option Utf8ErrorKind) → fault_kind w ≡ o → inner_after w ≡ 0
      by_kind (Some k) e = inner_fault w k e
      by_kind None e =
          ⊎_elim
          (λ (ascii : get_or w 0 0 < 0x80). let asks = asked-1 (get_or w 0 0) ascii in inner_none w (omega arith))
          (λ (above : 0x80 ≤ get_or w 0 0).
          ⊎_elim
          (λ (never : get_or w 0 0 < 0xC2). let asks = asked-0 (get_or w 0 0) (inl (above, never)) in inner_none w (omega arith))
          (λ (from : 0xC2 ≤ get_or w 0 0).
          ⊎_elim
          (λ (two : get_or w 0 0 < 0xE0). absurd (no_both _ (longer_two e from two) h))
          (λ (more : 0xE0 ≤ get_or w 0 0).
          ⊎_elim
          (λ (three : get_or w 0 0 < 0xF0). absurd (no_both _ (longer_three e more three) h))
          (λ (most : 0xF0 ≤ get_or w 0 0).
          ⊎_elim
          (λ (four : get_or w 0 0 < 0xF5). absurd (no_both _ (longer_four e most four) h))
          (λ (past : 0xF5 ≤ get_or w 0 0). let asks = asked-0 (get_or w 0 0) (inr past) in inner_none w (omega arith))
          (cases_lt (get_or w 0 0) 0xF5))
          (cases_lt (get_or w 0 0) 0xF0))
          (cases_lt (get_or w 0 0) 0xE0))
          (cases_lt (get_or w 0 0) 0xC2))
          (cases_lt (get_or w 0 0) 0x80)
