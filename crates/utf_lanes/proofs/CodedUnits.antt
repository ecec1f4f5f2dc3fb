-- Units that pair, each with the one before it, are the codes of scalars, and such codes pair.
use Rattle.std.proofs.Common.{◌≡◌, ℕ, zero, suc, ◌+◌, ◌-◌, ◌/◌, ◌%◌, ◌<◌, ◌≤◌, true, false, List, [], ◌∷◌, ◌++◌, length, get_or, take, arith, refl, sym, subst, ◌∙◌, inl, inr, length-take, ◌*◌, Bool, ap, ap₂, w8, Fits}
use Rattle.std.proofs.lemmas.Bool.{cases_lt}
use Rattle.std.proofs.lemmas.Grind.{common_steps}
use Rattle.std.proofs.lemmas.List.{get_or-take}
use Rattle.std.specs.Prelude.{All, flat_map}
use Rattle.utf_base.specs.Code.{utf16}
use Rattle.utf_base.specs.Scalar.{IsScalar}
use Rattle.utf_base.specs.Units.{is_leading_surrogate, is_trailing_surrogate, is_surrogate}
use Rattle.utf_base.proofs.Utf16Code.{utf16-1, utf16-2, pair_is_code, unit_is_code}
use Rattle.utf_lanes.specs.UnitBlocks.{AreCodes, AreFirstPaired, AllPaired}
use Rattle.utf_lanes.specs.BytePairs.{unit_of, units_of}
use Rattle.utf_lanes.proofs.UnitPairs.{unit_at}

-- each of some units pairs with the one before it, if u precedes the first, and the last begins no pair
ArePairedAfter : ℕ → List ℕ → Type 0
ArePairedAfter u [] = is_leading_surrogate u ≡ false
ArePairedAfter u (v ∷ vs) = (is_leading_surrogate u ≡ is_trailing_surrogate v) × ArePairedAfter v vs

module _ (u s : ℕ) (rest : List ℕ) (none : is_leading_surrogate u ≡ false) (others : (v : ℕ) → is_leading_surrogate v ≡ false → ArePairedAfter v rest) (scalar : IsScalar s) where
  of_one : s < 0x1_0000 → ArePairedAfter u (utf16 s ++ rest)
  unfolding ArePairedAfter
  of_one lt =
      let gap = scalar.no_surrogate in
      let leads : is_leading_surrogate s ≡ false = grind (arith, common_steps) in
      let trails : is_trailing_surrogate s ≡ false = grind (arith, common_steps) in
      rw (utf16-1 s lt) (none ∙ sym trails, others s leads)

  of_pair : 0x1_0000 ≤ s → ArePairedAfter u (utf16 s ++ rest)
  unfolding ArePairedAfter
  of_pair ge =
      let below = scalar.below in
      let v = 0xD800 + (s - 0x1_0000) / 1024 in
      let w = 0xDC00 + (s - 0x1_0000) % 1024 in
      let first : is_leading_surrogate v ≡ true = grind (arith, common_steps) in
      let none_first : is_trailing_surrogate v ≡ false = grind (arith, common_steps) in
      let second : is_trailing_surrogate w ≡ true = grind (arith, common_steps) in
      let none_second : is_leading_surrogate w ≡ false = grind (arith, common_steps) in
      rw (utf16-2 s ge) (none ∙ sym none_first, (first ∙ sym second, others w none_second))

codes_after : (ss : List ℕ) → All IsScalar ss → (u : ℕ) → is_leading_surrogate u ≡ false → ArePairedAfter u (flat_map utf16 ss)
unfolding ArePairedAfter
codes_after [] all u none = none
codes_after (s ∷ ss) all u none =
    let scalar : IsScalar s = all 0 0 (omega arith) in
    let others = codes_after ss (λ k d lt. all (suc k) d (omega arith)) in
    elim (cases_lt s 0x1_0000) [
      | inl lt ↦ of_one u s (flat_map utf16 ss) none others scalar lt
      | inr ge ↦ of_pair u s (flat_map utf16 ss) none others scalar ge
    ]

paired_at : (u : ℕ) (us : List ℕ) → ArePairedAfter u us → (k : ℕ) → k < length us → is_leading_surrogate (get_or (u ∷ us) k 0) ≡ is_trailing_surrogate (get_or us k 0)
unfolding ArePairedAfter
paired_at u [] after k lt = absurd (omega arith)
paired_at u (v ∷ vs) after zero lt = after.0
paired_at u (v ∷ vs) after (suc k) lt = paired_at v vs after.1 k (omega arith)

last_after : (u : ℕ) (us : List ℕ) → ArePairedAfter u us → is_leading_surrogate (get_or (u ∷ us) (length us) 0) ≡ false
unfolding ArePairedAfter
last_after u [] after = after
last_after u (v ∷ vs) after = last_after v vs after.1

of_codes : (us : List ℕ) → AreCodes us → ArePairedAfter 0 us
of_codes us codes = subst (ArePairedAfter 0) (sym codes.codes) (codes_after codes.scalars codes.all 0 refl)

module _ (us : List ℕ) (n : ℕ) (within : n ≤ length us) (codes : AreCodes (take n us)) where
  len : length (take n us) ≡ n
  len = omega (arith, length-take n us)

  pub codes_first_paired : AreFirstPaired us n
  codes_first_paired = record {
    first = λ some. rw (← get_or-take n us 0 0 some) (sym (paired_at 0 (take n us) (of_codes (take n us) codes) 0 (omega (arith, len))));
    paired = λ k least most.
        let next : k + 1 ≡ suc k = omega arith in
        rw (← get_or-take n us k 0 (omega arith), ← get_or-take n us (k + 1) 0 most, next) (paired_at 0 (take n us) (of_codes (take n us) codes) (suc k) (omega (arith, len)));
  }

  pub codes_last : 0 < n → is_leading_surrogate (get_or us (n - 1) 0) ≡ false
  codes_last some =
      let at : n ≡ suc (n - 1) = omega arith in
      let last : is_leading_surrogate (get_or (0 ∷ take n us) (suc (n - 1)) 0) ≡ false
      = subst (λ m. is_leading_surrogate (get_or (0 ∷ take n us) m 0) ≡ false) (len ∙ at) (last_after 0 (take n us) (of_codes (take n us) codes)) in
      rw (← get_or-take n us (n - 1) 0 (omega arith)) last

-- one more code
one_more : (us code rest : List ℕ) (s : ℕ) → IsScalar s → code ≡ utf16 s → us ≡ code ++ rest → AreCodes rest → AreCodes us
one_more us code rest s scalar e f more = record {
  scalars = s ∷ more.scalars;
  all = all_more s more.scalars scalar more.all;
  codes = f ∙ ap₂ (λ xs ys. xs ++ ys) e more.codes;
}
  where
    all_more : (x : ℕ) (xs : List ℕ) → IsScalar x → All IsScalar xs → All IsScalar (x ∷ xs)
    all_more x xs h r zero d lt = h
    all_more x xs h r (suc k) d lt = r k d (omega arith)

-- Properties of units that pair: the first ends no pair, each ends one if and only if the one before it
-- begins one, and the last begins none.
record IsPaired (us : List ℕ) : Type 0 where
  fits : (k : ℕ) → get_or us k 0 < 0x1_0000
  first : is_trailing_surrogate (get_or us 0 0) ≡ false
  each : (k j : ℕ) → j ≡ k + 1 → j < length us → is_leading_surrogate (get_or us k 0) ≡ is_trailing_surrogate (get_or us j 0)
  last : (k : ℕ) → length us ≡ k + 1 → is_leading_surrogate (get_or us k 0) ≡ false

plain : (u : ℕ) → is_leading_surrogate u ≡ false → is_trailing_surrogate u ≡ false → is_surrogate u ≡ false
plain u a b = grind (arith, common_steps)

leads_none : (u : ℕ) → is_trailing_surrogate u ≡ true → is_leading_surrogate u ≡ false
leads_none u h = grind (arith, common_steps)

trails_none : (u : ℕ) → is_leading_surrogate u ≡ true → is_trailing_surrogate u ≡ false
trails_none u h = grind (arith, common_steps)

none_ends : (us : List ℕ) (k : ℕ) → length us ≤ k → is_trailing_surrogate (get_or us k 0) ≡ false
none_ends [] k le = refl
none_ends (u ∷ us) zero le = absurd (omega arith)
none_ends (u ∷ us) (suc k) le = none_ends us k (omega arith)

-- the units after the first, if that begins no pair
rest_paired : (u : ℕ) (us : List ℕ) → IsPaired (u ∷ us) → is_leading_surrogate u ≡ false → IsPaired us
rest_paired u us p none = record {
  fits = λ k. p.fits (suc k);
  first = elim (cases_lt 0 (length us)) [ inl lt ↦ sym (p.each 0 1 refl (omega arith)) ∙ none | inr ge ↦ none_ends us 0 ge ];
  each = λ k j e lt. p.each (suc k) (suc j) (omega arith) (omega arith);
  last = λ k e. p.last (suc k) (omega arith);
}

second_ends : (u v : ℕ) (us : List ℕ) → IsPaired (u ∷ v ∷ us) → is_leading_surrogate u ≡ true → is_trailing_surrogate v ≡ true
second_ends u v us p leading = sym (p.each 0 1 refl (omega arith)) ∙ leading

after_pair : (u v : ℕ) (us : List ℕ) → IsPaired (u ∷ v ∷ us) → is_leading_surrogate u ≡ true → IsPaired us
after_pair u v us p leading =
    let begins_none = leads_none v (second_ends u v us p leading) in
    record {
      fits = λ k. p.fits (suc (suc k));
      first = elim (cases_lt 0 (length us)) [ inl lt ↦ sym (p.each 1 2 refl (omega arith)) ∙ begins_none | inr ge ↦ none_ends us 0 ge ];
      each = λ k j e lt. p.each (suc (suc k)) (suc (suc j)) (omega arith) (omega arith);
      last = λ k e. p.last (suc (suc k)) (omega arith);
    }

-- by the first unit: a code of one or of two, and the properties of the rest
by_first : (u : ℕ) (us : List ℕ) → IsPaired (u ∷ us) → ((ws : List ℕ) → length ws ≤ length us → IsPaired ws → AreCodes ws) → (t : Bool) → is_leading_surrogate u ≡ t → AreCodes (u ∷ us)
by_first u us p others false e =
    let code = unit_is_code u (p.fits 0) (plain u e p.first) in
    one_more (u ∷ us) (u ∷ []) us u code.0 code.1 refl (others us (omega arith) (rest_paired u us p e))
by_first u [] p others true e = let none = p.last 0 (omega arith) in cc
by_first u (v ∷ ws) p others true e =
    let code = pair_is_code u v e (second_ends u v ws p e) in
    one_more (u ∷ v ∷ ws) (u ∷ v ∷ []) ws _ code.0 code.1 refl (others ws (omega arith) (after_pair u v ws p e))

paired_codes : (n : ℕ) (us : List ℕ) → length us ≤ n → IsPaired us → AreCodes us
paired_codes n [] le p = record { scalars = []; all = λ k d lt. absurd (omega arith); codes = refl }
paired_codes zero (u ∷ us) le p = absurd (omega arith)
paired_codes (suc n) (u ∷ us) le p = by_first u us p (λ ws few q. paired_codes n ws (omega arith) q) (is_leading_surrogate u) refl

module _ (us : List ℕ) (fits : (k : ℕ) → get_or us k 0 < 0x1_0000) (first : is_trailing_surrogate (get_or us 0 0) ≡ false) where
  front : (e k : ℕ) → k < e → get_or (take e us) k 0 ≡ get_or us k 0
  front e k lt = get_or-take e us k 0 lt

  front_fits : (e k : ℕ) → get_or (take e us) k 0 < 0x1_0000
  front_fits e k = elim (cases_lt k e) [ inl lt ↦ rw (front e k lt) (fits k) | inr ge ↦ rw (get_or-none (take e us) k (omega (arith, length-take e us))) (omega arith) ]
    where
      get_or-none : (xs : List ℕ) (k : ℕ) → length xs ≤ k → get_or xs k 0 ≡ 0
      get_or-none [] k le = refl
      get_or-none (x ∷ xs) zero le = absurd (omega arith)
      get_or-none (x ∷ xs) (suc k) le = get_or-none xs k (omega arith)

  pub front_codes : (e : ℕ) → 0 < e → e ≤ length us → AllPaired us 1 e → is_leading_surrogate (get_or us (e - 1) 0) ≡ false → AreCodes (take e us)
  front_codes e some le pairs last =
      paired_codes e (take e us) (omega (arith, length-take e us)) (record {
        fits = front_fits e;
        first = rw (front e 0 some) first;
        each = λ k j at lt.
            let inside : j < e = omega (arith, length-take e us) in
            rw (front e k (omega arith), front e j inside, at) (pairs k (omega arith) (omega arith));
        last = λ k at.
            let here : k ≡ e - 1 = omega (arith, length-take e us) in
            rw (here, front e (e - 1) (omega arith)) last;
      })

  -- if the last begins a pair, all units before it are codes
  pub front_codes_less : (e : ℕ) → 0 < e → e ≤ length us → AllPaired us 1 e → is_leading_surrogate (get_or us (e - 1) 0) ≡ true → AreCodes (take (e - 1) us)
  front_codes_less e some le pairs last =
      elim (cases_lt 1 e) [
        | inl lt ↦
            let at : e - 2 + 1 ≡ e - 1 = omega arith in
            let same : e - 1 - 1 ≡ e - 2 = omega arith in
            let before : is_leading_surrogate (get_or us (e - 2) 0) ≡ is_trailing_surrogate (get_or us (e - 1) 0) = rw at at (pairs (e - 2) (omega arith) (omega arith)) in
            front_codes (e - 1) (omega arith) (omega arith) (λ k ge lt. pairs k ge (omega arith)) (rw same (before ∙ trails_none (get_or us (e - 1) 0) last))
        | inr ge ↦ (let one : e - 1 ≡ 0 = omega arith in rw one (record { scalars = []; all = λ k d lt. absurd (omega arith); codes = refl }))
      ]

-- The units of a front of the bytes.

pub units_length : (high : Bool) (bytes : List ℕ) (n : ℕ) → 2 * n ≤ length bytes → n ≤ length (units_of high bytes)
units_length high bytes zero le = omega arith
units_length high [] (suc n) le = absurd (omega arith)
units_length high (a ∷ []) (suc n) le = absurd (omega arith)
units_length high (a ∷ b ∷ bytes) (suc n) le = let more = units_length high bytes n (omega arith) in omega arith

pub units_front : (high : Bool) (bytes : List ℕ) (n : ℕ) → take n (units_of high bytes) ≡ units_of high (take (2 * n) bytes)
units_front high bytes zero = refl
units_front high [] (suc n) = let two : 2 * suc n ≡ suc (suc (2 * n)) = omega arith in rw two refl
units_front high (a ∷ []) (suc n) = let two : 2 * suc n ≡ suc (suc (2 * n)) = omega arith in rw two refl
units_front high (a ∷ b ∷ bytes) (suc n) = let two : 2 * suc n ≡ suc (suc (2 * n)) = omega arith in rw two (ap (λ us. unit_of high a b ∷ us) (units_front high bytes n))

unit_below : (high : Bool) (a b : ℕ) → a < 256 → b < 256 → unit_of high a b < 0x1_0000
unit_below true a b A B = omega arith
unit_below false a b A B = omega arith

pub units_fit : (high : Bool) (bytes : List ℕ) → ((k : ℕ) → Fits w8 (get_or bytes k 0)) → (k : ℕ) → get_or (units_of high bytes) k 0 < 0x1_0000
units_fit high [] fits k = omega arith
units_fit high (a ∷ []) fits k = omega arith
units_fit high (a ∷ b ∷ bytes) fits zero = unit_below high a b (fits 0).fits (fits 1).fits
units_fit high (a ∷ b ∷ bytes) fits (suc k) = units_fit high bytes (λ j. fits (suc (suc j))) k

-- the last unit before an offset, as the code makes it
pub before_end : (high : Bool) (bytes : List ℕ) (e : ℕ) → 1 ≤ e → 2 * e ≤ length bytes
    → get_or (units_of high bytes) (e - 1) 0 ≡ unit_of high (get_or bytes (2 * e - 2) 0) (get_or bytes (2 * e - 1) 0)
before_end high bytes e some le =
    let first : 2 * (e - 1) ≡ 2 * e - 2 = omega arith in
    let second : 2 * e - 2 + 1 ≡ 2 * e - 1 = omega arith in
    rw (first, second) at (unit_at high bytes (e - 1) (omega arith))

-- A front of units that pair, validated by its last unit in the way of the code.
module _ (high : Bool) (bytes : List ℕ) (fits : (k : ℕ) → Fits w8 (get_or bytes k 0)) (e : ℕ) (some : 0 < e) (within : 2 * e ≤ length bytes)
    (first : 0 < e → is_trailing_surrogate (get_or (units_of high bytes) 0 0) ≡ false) (pairs : AllPaired (units_of high bytes) 1 e)
    (last : ℕ) (made : last ≡ unit_of high (get_or bytes (2 * e - 2) 0) (get_or bytes (2 * e - 1) 0)) where
  last_is : is_leading_surrogate (get_or (units_of high bytes) (e - 1) 0) ≡ is_leading_surrogate last
  last_is = ap is_leading_surrogate (before_end high bytes e some within ∙ sym made)

  pub units_codes : is_leading_surrogate last ≡ false → AreCodes (units_of high (take (2 * e) bytes))
  units_codes none = rw (units_front high bytes e) at (front_codes (units_of high bytes) (units_fit high bytes fits) (first some) e some (units_length high bytes e within) pairs (last_is ∙ none))

  pub units_codes_less : is_leading_surrogate last ≡ true → AreCodes (units_of high (take (2 * (e - 1)) bytes))
  units_codes_less leads = rw (units_front high bytes (e - 1)) at (front_codes_less (units_of high bytes) (units_fit high bytes fits) (first some) e some (units_length high bytes e within) pairs (last_is ∙ leads))

-- The first eight units, validated after a NUL: the first ends no pair, and the others pair as they are.

after_a_nul : (high : Bool) (v : List ℕ) → units_of high (0 ∷ 0 ∷ v) ≡ 0 ∷ units_of high v
after_a_nul true v = refl
after_a_nul false v = refl

module _ (high : Bool) (bytes front : List ℕ) (count : ℕ) (few : count ≤ 8) (is : front ≡ 0 ∷ 0 ∷ take 16 bytes) (pairs : AllPaired (units_of high front) 1 (1 + count)) where
  shifted : AllPaired (0 ∷ units_of high (take 16 bytes)) 1 (1 + count)
  shifted = subst (λ us. AllPaired us 1 (1 + count)) (ap (units_of high) is ∙ after_a_nul high (take 16 bytes)) pairs

  same : (k : ℕ) → k < 8 → get_or (units_of high (take 16 bytes)) k 0 ≡ get_or (units_of high bytes) k 0
  same k lt = ap (λ us. get_or us k 0) (sym (units_front high bytes 8)) ∙ get_or-take 8 (units_of high bytes) k 0 lt

  pub first_after_a_nul : 0 < count → is_trailing_surrogate (get_or (units_of high bytes) 0 0) ≡ false
  first_after_a_nul some = ap is_trailing_surrogate (sym (same 0 (omega arith))) ∙ sym (shifted 0 (omega arith) (omega arith))

  pub pairs_after_a_nul : AllPaired (units_of high bytes) 1 count
  pairs_after_a_nul k least most =
      let next : suc k + 1 ≡ suc (k + 1) = omega arith in
      let pair : is_leading_surrogate (get_or (units_of high (take 16 bytes)) k 0) ≡ is_trailing_surrogate (get_or (units_of high (take 16 bytes)) (k + 1) 0)
      = subst (λ j. is_leading_surrogate (get_or (units_of high (take 16 bytes)) k 0) ≡ is_trailing_surrogate (get_or (0 ∷ units_of high (take 16 bytes)) j 0)) next (shifted (suc k) (omega arith) (omega arith)) in
      rw (same k (omega arith), same (k + 1) (omega arith)) at pair

-- the first eight units pass the validation after a NUL if they pair
pub after_a_nul_pairs : (high : Bool) (bytes front : List ℕ) (count : ℕ) → count ≤ 8 → front ≡ 0 ∷ 0 ∷ take 16 bytes → AreFirstPaired (units_of high bytes) count → AllPaired (units_of high front) 1 (1 + count)
after_a_nul_pairs high bytes front count few is pairs =
    subst (λ us. AllPaired us 1 (1 + count)) (sym (ap (units_of high) is ∙ after_a_nul high (take 16 bytes))) shifted_back
  where
    at : (k : ℕ) → k < 8 → get_or (units_of high (take 16 bytes)) k 0 ≡ get_or (units_of high bytes) k 0
    at k lt = ap (λ us. get_or us k 0) (sym (units_front high bytes 8)) ∙ get_or-take 8 (units_of high bytes) k 0 lt

    shifted_back : AllPaired (0 ∷ units_of high (take 16 bytes)) 1 (1 + count)
    shifted_back zero least most = rw (at 0 (omega arith)) (sym (pairs.first (omega arith)))
    shifted_back (suc k) least most =
        let next : suc k + 1 ≡ suc (k + 1) = omega arith in
        rw (next, at k (omega arith), at (k + 1) (omega arith)) (pairs.paired k (omega arith) (omega arith))
