-- Units that were mended, as transcoded bytes: each character, and U+FFFD for each lone surrogate, whatever follows.
use Rattle.std.proofs.Common.{◌≡◌, ℕ, zero, suc, ◌+◌, ◌-◌, ◌*◌, ◌/◌, ◌%◌, ◌<◌, ◌≤◌, Bool, true, false, not, cond, ltb, ltb-true, List, [], ◌∷◌, ◌++◌, length, get_or, take, drop, Some, arith, refl, lit<, sym, ap, ap₂, ◌∙◌, subst, inl, inr, length-append, length-drop, length-take, w8, Fits}
use Rattle.std.proofs.lemmas.Bool.{cases_lt}
use Rattle.std.proofs.lemmas.Grind.{common_steps}
use Rattle.std.proofs.lemmas.List.{drop-drop, get_or-drop, get_or-take, take_at}
use Rattle.std.specs.Prelude.{All, flat_map, ◌&&◌, ◌||◌}
use Rattle.utf_base.specs.Code.{utf16}
use Rattle.utf_base.specs.Scalar.{IsScalar}
use Rattle.utf_base.specs.Units.{is_leading_surrogate, is_trailing_surrogate}
use Rattle.utf_base.proofs.Utf16Code.{utf16-1, utf16-2}
use Rattle.utf_lanes.specs.BytePairs.{bytes_of, unit_of, unit_number}
use Rattle.utf_lanes.specs.UnitCodes.{AreText, code_at, lane_unit}
use Rattle.utf_lanes.specs.UnitMending.{count_from, holds_before, is_lone, mended_unit}
use Rattle.utf_lanes.specs.Utf8ToUtf16.{concat_range, halves, halves_at}
use Rattle.utf_lanes.proofs.Joined.{joined_add}
use Rattle.utf_lanes.proofs.UnitBytes.{not_true}
use Rattle.recoding.specs.NextScalars.{HasByteOrder, utf16_form}
use Rattle.recoding.specs.Recoded.{written}
use Rattle.recoding.specs.Recodes.{PutsLanes}
use Rattle.recoding.specs.Replacing.{Becomes, BeginsBy, Recodes, ReplacesUnits, replaced_by}
use Rattle.recoding.specs.Strict.{BeginsFault}
use Rattle.recoding.specs.declared.faults.FaultKind.{FaultKind}
use Rattle.recoding.specs.declared.form.Form.{Form}
use Rattle.recoding.specs.declared.form.Form.TheVariants.{Utf8}
use Rattle.recoding.specs.declared.way.Way.{Way}
use Rattle.recoding.proofs.Becoming.{Becomes-none, Becomes-where, begins_short, next_piece, run_after}
use Rattle.recoding.proofs.CopiedUnits.{all_written, front_fits, rest_fits}
use Rattle.recoding.proofs.FirstPieces.{BeginsChar-pair, BeginsChar-unit, BeginsFault-trailing, BeginsFault-unmatched}
use Rattle.recoding.proofs.Forms.{is_utf16, parts_of_utf16}
use Rattle.recoding.proofs.FrontBytes.{first_unit, second_unit}
use Rattle.recoding.proofs.NextPieces.{Begins-char, Begins-unit}
use Rattle.recoding.proofs.Utf16ToUtf8.{all_shown}

-- no more are counted than there are
pub counted_most : (holds : ℕ → Bool) (k n : ℕ) → count_from holds k n ≤ n
unfolding count_from
counted_most holds k zero = omega arith
counted_most holds k (suc n) = let rest = counted_most holds (suc k) n in let one = at_most (holds k) in omega arith
  where
    at_most : (b : Bool) → cond {A = ℕ} b 1 0 ≤ 1
    at_most true = omega arith
    at_most false = omega arith

-- What a lone surrogate is, by its two tests.

lone_leads : (l t inside n b : Bool) → (l && (inside && not n)) || (t && not b) ≡ true → t ≡ false → (inside ≡ true) × (n ≡ false)
lone_leads true false true false b e p = (refl, refl)
lone_leads true false true true b e p = absurd cc
lone_leads true false false n b e p = absurd cc
lone_leads false false inside n b e p = absurd cc
lone_leads l true inside n b e p = absurd cc

-- The output for the n units from the number i on, whatever follows them.
record Ran (way : Way) (from to : Form) (bytes grown : List ℕ) (n faults : ℕ) : Type 0 where
  becomes : Becomes way from to (take (2 * n + 3) bytes) grown faults (take 3 (drop (2 * n) bytes))
  short : length grown ≤ 3 * (2 * n)

module _ (way : Way) (shows : ReplacesUnits way) (high : Bool) (to : Form) (bytes : List ℕ) (fits : (k : ℕ) → Fits w8 (get_or bytes k 0)) (enough : 64 ≤ length bytes) (u v : ℕ → ℕ)
    (same : (k : ℕ) → k < 32 → u k ≡ unit_number high bytes k) (made : (k : ℕ) → k < 32 → v k ≡ mended_unit 32 u k) where
  abbrev from : Form
  from = utf16_form high

  abbrev lone : ℕ → Bool
  lone = is_lone 32 u

  abbrev w : ℕ → List ℕ
  w i = take 4 (drop (2 * i) bytes)

  len_w : (i : ℕ) → i < 32 → 2 ≤ length (w i)
  len_w i lt = omega (arith, enough, length-take 4 (drop (2 * i) bytes), length-drop (2 * i) bytes)

  len_four : (i : ℕ) → i < 31 → 4 ≤ length (w i)
  len_four i lt = omega (arith, enough, length-take 4 (drop (2 * i) bytes), length-drop (2 * i) bytes)

  byte_at : (i j : ℕ) → j < 4 → get_or (w i) j 0 ≡ get_or bytes (2 * i + j) 0
  byte_at i j lt = get_or-take 4 (drop (2 * i) bytes) j 0 lt ∙ get_or-drop (2 * i) bytes j 0

  first_is : (i : ℕ) → i < 32 → first_unit high (w i) ≡ u i
  first_is i lt =
      let z : 2 * i + 0 ≡ 2 * i = omega arith in
      ap₂ (unit_of high) (byte_at i 0 (lit< tt) ∙ ap (λ k. get_or bytes k 0) z) (byte_at i 1 (lit< tt)) ∙ sym (same i lt)

  second_is : (i : ℕ) → i < 31 → second_unit high (w i) ≡ u (i + 1)
  second_is i lt =
      let a : 2 * i + 2 ≡ 2 * (i + 1) = omega arith in
      let b : 2 * i + 3 ≡ 2 * (i + 1) + 1 = omega arith in
      ap₂ (unit_of high) (byte_at i 2 (lit< tt) ∙ ap (λ k. get_or bytes k 0) a) (byte_at i 3 (lit< tt) ∙ ap (λ k. get_or bytes k 0) b) ∙ sym (same (i + 1) (omega arith))

  w_fits : (i j : ℕ) → Fits w8 (get_or (w i) j 0)
  w_fits i = front_fits (drop (2 * i) bytes) 4 (rest_fits bytes (2 * i) fits)

  -- a lone surrogate is replaced
  lone_begins : (i : ℕ) → i < 32 → lone i ≡ true → BeginsBy way from (w i) (Some 0xFFFD) 2 1
  lone_begins i lt e = by (is_trailing_surrogate (u i)) refl
    where
      leads_where : (l t inside n b : Bool) → (l && (inside && not n)) || (t && not b) ≡ true → t ≡ false → l ≡ true
      leads_where true t inside n b e p = refl
      leads_where false false inside n b e p = absurd cc
      leads_where false true inside n b e p = absurd cc

      one : {k : FaultKind} → BeginsFault from (w i) k 2 → BeginsBy way from (w i) (Some 0xFFFD) 2 1
      one f = subst (λ c. BeginsBy way from (w i) c 2 1) (shows high (w i)) (subst (λ n. BeginsBy way from (w i) (replaced_by way from (w i)) 2 n) (parts_of_utf16 high 2) (Begins-unit way high f))

      by : (t : Bool) → is_trailing_surrogate (u i) ≡ t → BeginsBy way from (w i) (Some 0xFFFD) 2 1
      by true t =
          let first : is_trailing_surrogate (first_unit high (w i)) ≡ true = ap is_trailing_surrogate (first_is i lt) ∙ t in
          one (BeginsFault-trailing high from (w i) (is_utf16 high) (len_w i lt) first)
      by false t =
          let next = lone_leads (is_leading_surrogate (u i)) (is_trailing_surrogate (u i)) (ltb (i + 1) 32) (is_trailing_surrogate (u (i + 1))) (holds_before (λ k. is_leading_surrogate (u k)) i) e t in
          let inside = ltb-true (i + 1) 32 next.0 in
          let lead = leads_where (is_leading_surrogate (u i)) (is_trailing_surrogate (u i)) (ltb (i + 1) 32) (is_trailing_surrogate (u (i + 1))) (holds_before (λ k. is_leading_surrogate (u k)) i) e t in
          let first : is_leading_surrogate (first_unit high (w i)) ≡ true = ap is_leading_surrogate (first_is i lt) ∙ lead in
          let second : is_trailing_surrogate (second_unit high (w i)) ≡ false = ap is_trailing_surrogate (second_is i (omega arith)) ∙ next.1 in
          one (BeginsFault-unmatched high from (w i) (is_utf16 high) (len_four i (omega arith)) first second)

  unit_begins : (i s : ℕ) → i < 32 → IsScalar s → s < 0x1_0000 → u i ≡ s → BeginsBy way from (w i) (Some s) 2 0
  unit_begins i s lt scalar below e =
      Begins-char way (BeginsChar-unit high from (w i) (is_utf16 high) s (len_w i lt) (w_fits i) scalar (ap (λ x. x ∷ []) (first_is i lt ∙ e) ∙ sym (utf16-1 s below)))

  pair_begins : (i s d e : ℕ) → i < 31 → IsScalar s → utf16 s ≡ d ∷ e ∷ [] → u i ≡ d → u (i + 1) ≡ e → BeginsBy way from (w i) (Some s) 4 0
  pair_begins i s d e lt scalar code f g =
      Begins-char way (BeginsChar-pair high from (w i) (is_utf16 high) s (len_four i lt) (w_fits i) scalar (ap₂ (λ x y. x ∷ y ∷ []) (first_is i (omega arith) ∙ f) (second_is i lt ∙ g) ∙ sym code))

  -- a unit is as before, or U+FFFD
  kept : (k : ℕ) → k < 32 → lone k ≡ false → u k ≡ v k
  kept k lt e = sym (made k lt ∙ rw e refl)

  replaced : (k : ℕ) → k < 32 → lone k ≡ true → v k ≡ 0xFFFD
  replaced k lt e = made k lt ∙ rw e refl

  surrogate_kept : (test : ℕ → Bool) → test 0xFFFD ≡ false → (k : ℕ) → k < 32 → test (v k) ≡ true → lone k ≡ false
  surrogate_kept test other k lt is = not_true (lone k) (λ e. let f : test 0xFFFD ≡ true = rw (replaced k lt e) at is in absurd cc)

  abbrev units : ℕ → ℕ → List ℕ
  units i n = concat_range (λ k. v k ∷ []) i n

  -- one piece of m units, and then the others
  then_rest : (i m n p : ℕ) (ss : List ℕ) {s k j : ℕ} → i + m ≡ p → BeginsBy way from (w i) (Some s) (2 * m) k → Ran way from to (drop (2 * p) bytes) (flat_map (written to) ss) n j
      → Ran way from to (drop (2 * i) bytes) (flat_map (written to) (s ∷ ss)) (m + n) (k + j)
  then_rest i m n p ss {s} {k} {j} at begins rest =
      let xs = drop (2 * i) bytes in
      let there : drop (2 * p) bytes ≡ drop (2 * m) xs = let e : 2 * i + 2 * m ≡ 2 * p = omega arith in sym (drop-drop (2 * m) (2 * i) bytes ∙ ap (λ q. drop q bytes) e) in
      let moved = Becomes-where (take (2 * n + 3) (drop (2 * m) xs)) (take 3 (drop (2 * n) (drop (2 * m) xs))) (ap (take (2 * n + 3)) there) (ap (λ ys. take 3 (drop (2 * n) ys)) there) rest.becomes in
      let both = run_after xs (2 * m) (2 * n) (next_piece xs (Some s) (2 * m) begins) moved in
      let all : 2 * m + 2 * n ≡ 2 * (m + n) = omega arith in
      let one = begins_short to begins in
      record {
        becomes = Becomes-where (take (2 * (m + n) + 3) xs) (take 3 (drop (2 * (m + n)) xs)) (ap (λ q. take (q + 3) xs) all) (ap (λ q. take 3 (drop q xs)) all) both;
        short = omega (arith, one, rest.short, length-append (written to s) (flat_map (written to) ss));
      }

  head_is : {a b : ℕ} {xs ys : List ℕ} → a ∷ xs ≡ b ∷ ys → (a ≡ b) × (xs ≡ ys)
  head_is {a} {b} e = (ap (λ zs. get_or zs 0 0) e, ap (drop 1) e)

  -- the output for these scalars, from any unit on
  abbrev Runs : List ℕ → Type 0
  Runs ss = (i n : ℕ) → i + n ≤ 32 → units i n ≡ flat_map utf16 ss → Ran way from to (drop (2 * i) bytes) (flat_map (written to) ss) n (count_from lone i n)

  step : (s : ℕ) (ss : List ℕ) → IsScalar s → Runs ss → Runs (s ∷ ss)
  unfolding concat_range count_from
  step s ss scalar others i n le e = elim (cases_lt s 0x1_0000) [ inl lt ↦ one n lt le e | inr ge ↦ two n ge le e ]
    where
      lead_is : (s : ℕ) → s < 0x11_0000 → 0x1_0000 ≤ s → is_leading_surrogate (0xD800 + (s - 0x1_0000) / 1024) ≡ true
      lead_is s below ge = grind (arith, common_steps)

      trail_is : (s : ℕ) → s < 0x11_0000 → 0x1_0000 ≤ s → is_trailing_surrogate (0xDC00 + (s - 0x1_0000) % 1024) ≡ true
      trail_is s below ge = grind (arith, common_steps)

      next : i + 1 ≡ suc i
      next = omega arith

      one : (n : ℕ) → s < 0x1_0000 → i + n ≤ 32 → units i n ≡ flat_map utf16 (s ∷ ss) → Ran way from to (drop (2 * i) bytes) (flat_map (written to) (s ∷ ss)) n (count_from lone i n)
      one zero lt le e = absurd (let f : 0 ≡ length (utf16 s ++ flat_map utf16 ss) = ap length e in let g = ap length (utf16-1 s lt) in omega (arith, length-append (utf16 s) (flat_map utf16 ss)))
      one (suc n) lt le e =
          let parts = head_is (e ∙ ap (λ xs. xs ++ flat_map utf16 ss) (utf16-1 s lt)) in
          let rest = others (suc i) n (omega arith) parts.1 in
          by (lone i) refl parts.0 rest
        where
          by : (b : Bool) → lone i ≡ b → v i ≡ s → Ran way from to (drop (2 * suc i) bytes) (flat_map (written to) ss) n (count_from lone (suc i) n)
              → Ran way from to (drop (2 * i) bytes) (flat_map (written to) (s ∷ ss)) (suc n) (cond {A = ℕ} (lone i) 1 0 + count_from lone (suc i) n)
          by true b is rest =
              let at : 0xFFFD ≡ s = sym (replaced i (omega arith) b) ∙ is in
              let begins : BeginsBy way from (w i) (Some s) 2 1 = subst (λ c. BeginsBy way from (w i) (Some c) 2 1) at (lone_begins i (omega arith) b) in
              let sum : 1 + n ≡ suc n = omega arith in
              rw (b, ← sum) (then_rest i 1 n (suc i) ss next begins rest)
          by false b is rest =
              let sum : 1 + n ≡ suc n = omega arith in
              rw (b, ← sum) (then_rest i 1 n (suc i) ss next (unit_begins i s (omega arith) scalar lt (kept i (omega arith) b ∙ is)) rest)

      two : (n : ℕ) → 0x1_0000 ≤ s → i + n ≤ 32 → units i n ≡ flat_map utf16 (s ∷ ss) → Ran way from to (drop (2 * i) bytes) (flat_map (written to) (s ∷ ss)) n (count_from lone i n)
      two zero ge le e = absurd (let f : 0 ≡ length (utf16 s ++ flat_map utf16 ss) = ap length e in let g = ap length (utf16-2 s ge) in omega (arith, length-append (utf16 s) (flat_map utf16 ss)))
      two (suc zero) ge le e = absurd (let f : 1 ≡ length (utf16 s ++ flat_map utf16 ss) = ap length e in let g = ap length (utf16-2 s ge) in omega (arith, length-append (utf16 s) (flat_map utf16 ss)))
      two (suc (suc n)) ge le e =
          let below = scalar.below in
          let d = 0xD800 + (s - 0x1_0000) / 1024 in
          let f = 0xDC00 + (s - 0x1_0000) % 1024 in
          let parts = head_is (e ∙ ap (λ xs. xs ++ flat_map utf16 ss) (utf16-2 s ge)) in
          let more = head_is parts.1 in
          let second : v (i + 1) ≡ f = ap v next ∙ more.0 in
          let leads : is_leading_surrogate (v i) ≡ true = ap is_leading_surrogate parts.0 ∙ lead_is s below ge in
          let trails : is_trailing_surrogate (v (i + 1)) ≡ true = ap is_trailing_surrogate second ∙ trail_is s below ge in
          let none : lone i ≡ false = surrogate_kept is_leading_surrogate refl i (omega arith) leads in
          let other : lone (i + 1) ≡ false = surrogate_kept is_trailing_surrogate refl (i + 1) (omega arith) trails in
          let none_next : lone (suc i) ≡ false = rw next at other in
          let begins : BeginsBy way from (w i) (Some s) (2 * 2) 0
          = pair_begins i s d f (omega arith) scalar (utf16-2 s ge) (kept i (omega arith) none ∙ parts.0) (kept (i + 1) (omega arith) other ∙ second) in
          let after : i + 2 ≡ suc (suc i) = omega arith in
          let rest = others (suc (suc i)) n (omega arith) more.1 in
          let sum : 2 + n ≡ suc (suc n) = omega arith in
          let first : cond {A = ℕ} (lone i) 1 0 ≡ 0 = ap (λ (b : Bool). cond {A = ℕ} b 1 0) none in
          let both : cond {A = ℕ} (lone (suc i)) 1 0 ≡ 0 = ap (λ (b : Bool). cond {A = ℕ} b 1 0) none_next in
          let total : 0 + count_from lone (suc (suc i)) n ≡ cond {A = ℕ} (lone i) 1 0 + (cond {A = ℕ} (lone (suc i)) 1 0 + count_from lone (suc (suc i)) n) = omega (arith, first, both) in
          subst (λ m. Ran way from to (drop (2 * i) bytes) (flat_map (written to) (s ∷ ss)) m (cond {A = ℕ} (lone i) 1 0 + (cond {A = ℕ} (lone (suc i)) 1 0 + count_from lone (suc (suc i)) n))) sum
          (subst (λ f. Ran way from to (drop (2 * i) bytes) (flat_map (written to) (s ∷ ss)) (2 + n) f) total (then_rest i 2 n (suc (suc i)) ss after begins rest))

  runs : (ss : List ℕ) → All IsScalar ss → Runs ss
  unfolding concat_range count_from
  runs [] all i zero le e = record { becomes = Becomes-none way from to (take 3 (drop (2 * i) bytes)); short = omega arith }
  runs [] all i (suc n) le e = absurd (let f = ap length e in omega arith)
  runs (s ∷ ss) all i n le e = step s ss (all 0 0 (omega arith)) (runs ss (λ k d lt. all (suc k) d (omega arith))) i n le e

  pub Recodes-lanes : {O : Type 0} {appends : O → List ℕ → O → Type 0} {old new : O} {n faults : ℕ} → n ≤ 32 → faults ≡ count_from lone 0 n → PutsLanes appends to v old new n
      → Recodes appends way from to bytes old new (2 * n) faults
  Recodes-lanes {n = n} {faults} le count put =
      let ran : Ran way from to bytes (flat_map (written to) put.scalars) n (count_from lone 0 n) = runs put.scalars put.all 0 n (omega arith) put.codes in
      let most = counted_most lone 0 n in
      record {
        grown = flat_map (written to) put.scalars;
        appended = put.appended;
        within = omega (arith, enough);
        short = ran.short;
        few = omega (arith, count);
        becomes = rw count ran.becomes;
      }

-- Units of text that were appended.

-- as UTF-8
pub PutsLanes-utf8 : {O : Type 0} {appends : O → List ℕ → O → Type 0} {old new : O} (u : ℕ → ℕ) (n : ℕ) → ((k : ℕ) → k < n → u k < 0x1_0000) → AreText u n → appends old (concat_range (code_at u) 0 n) new
    → PutsLanes appends Utf8 u old new n
PutsLanes-utf8 {appends = appends} {old} {new} u n fits text put =
    let s = all_shown u n fits text in
    record { scalars = s.ts; all = s.all; codes = s.made; appended = subst (λ xs. appends old xs new) s.codes put }

pair_is : (high : Bool) (l h : ℕ) → l < 256 → halves high l h ≡ bytes_of high (h * 256 + l)
pair_is true l h L = let first : (h * 256 + l) / 256 ≡ h = omega arith in let second : (h * 256 + l) % 256 ≡ l = omega arith in ap₂ (λ x y. x ∷ y ∷ []) (sym first) (sym second)
pair_is false l h L = let first : (h * 256 + l) / 256 ≡ h = omega arith in let second : (h * 256 + l) % 256 ≡ l = omega arith in ap₂ (λ x y. x ∷ y ∷ []) (sym second) (sym first)

halves_are : (high : Bool) (low upper : List ℕ) (i m : ℕ) → ((k : ℕ) → k < i + m → get_or low k 0 < 256)
    → concat_range (halves_at high low upper) i m ≡ flat_map (bytes_of high) (concat_range (λ k. lane_unit low upper k ∷ []) i m)
unfolding concat_range
halves_are high low upper i zero p = refl
halves_are high low upper i (suc m) p =
    ap₂ (λ xs ys. xs ++ ys) (pair_is high (get_or low i 0) (get_or upper i 0) (p i (omega arith))) (halves_are high low upper (suc i) m (λ k lt. p k (omega arith)))

-- as units in some byte order
pub PutsLanes-units : {O : Type 0} {appends : O → List ℕ → O → Type 0} {old new : O} (high : Bool) (to : Form) (low upper : List ℕ) (n : ℕ) → HasByteOrder high to
    → ((k : ℕ) → k < n → get_or low k 0 < 256) → ((k : ℕ) → k < n → get_or upper k 0 < 256) → AreText (lane_unit low upper) n → appends old (concat_range (halves_at high low upper) 0 n) new
    → PutsLanes appends to (lane_unit low upper) old new n
PutsLanes-units {appends = appends} {old} {new} high to low upper n form p q text put =
    let s = all_shown (lane_unit low upper) n (λ k lt. let l = p k lt in let h = q k lt in omega arith) text in
    record {
      scalars = s.ts;
      all = s.all;
      codes = s.made;
      appended =
          subst (λ xs. appends old xs new)
          (halves_are high low upper 0 n (λ k lt. p k (omega arith)) ∙ ap (flat_map (bytes_of high)) s.made ∙ sym (all_written high to s.ts form)) put;
    }

-- the bytes of a front of 32 units, of which two vectors have sixteen each
pub front_of_halves : (high : Bool) (low upper first second : List ℕ) (n : ℕ) → 16 ≤ n → n ≤ 32 → first ≡ concat_range (halves_at high low upper) 0 16 → second ≡ concat_range (halves_at high low upper) 16 16
    → first ++ take (2 * n - 32) second ≡ concat_range (halves_at high low upper) 0 n
unfolding concat_range
front_of_halves high low upper first second n least most e f =
    let m = n - 16 in
    let rest = 32 - n in
    let sum : 16 ≡ m + rest = omega arith in
    let all : 16 + m ≡ n = omega arith in
    let two : 2 * n - 32 ≡ 2 * m = omega arith in
    let g = halves_at high low upper in
    let split : second ≡ concat_range g 16 m ++ concat_range g (16 + m) rest = f ∙ ap (concat_range g 16) sum ∙ joined_add g 16 m rest in
    let len : length (concat_range g 16 m) ≡ 2 * m = halves_len high low upper 16 m in
    let front : take (2 * n - 32) second ≡ concat_range g 16 m = ap₂ take two split ∙ take_at (concat_range g 16 m) (concat_range g (16 + m) rest) (2 * m) len in
    ap₂ (λ xs ys. xs ++ ys) e front ∙ sym (ap (concat_range g 0) (sym all) ∙ joined_add g 0 16 m)
  where
    pair_len : (high : Bool) (a b : ℕ) → length (halves high a b) ≡ 2
    pair_len true a b = refl
    pair_len false a b = refl

    halves_len : (high : Bool) (low upper : List ℕ) (i m : ℕ) → length (concat_range (halves_at high low upper) i m) ≡ 2 * m
    halves_len high low upper i zero = refl
    halves_len high low upper i (suc m) =
        let one = pair_len high (get_or low i 0) (get_or upper i 0) in
        let rest = halves_len high low upper (suc i) m in
        omega (arith, one, rest, length-append (halves high (get_or low i 0) (get_or upper i 0)) (concat_range (halves_at high low upper) (suc i) m))
