-- A list in parts: characters and maximal subparts, of which there is one list. All of it is generic in the code.
use Rattle.std.proofs.Common.{◌≡◌, ◌⊎◌, ℕ, zero, suc, ◌+◌, ◌-◌, ◌<◌, ◌≤◌, inl, inr, ⊎_elim, List, [], ◌∷◌, length, take, drop, map, arith, refl, ap, ap₂, sym, ◌∙◌, subst, Some, None, Option, length-drop}
use Rattle.std.specs.Prelude.{All, slice_range, unwrap_or}
use Rattle.std.proofs.lemmas.Bool.{cases_lt}
use Rattle.std.proofs.lemmas.List.{drop-drop}
use Rattle.std.proofs.lemmas.List.Elements.{All-nil, All-cons}
use Rattle.utf_base.specs.Code.{IsCode}
use Rattle.utf_base.specs.CutLaws.{Follow}
use Rattle.utf_base.specs.Piece.{Piece, Stands, end_of}
use Rattle.utf_base.specs.Scalar.{IsScalar}
use Rattle.utf_base.specs.Shown.{shown}
use Rattle.utf_base.specs.Subparts.{IsFrontOfCode, IsInParts, IsMaximalSubpart, IsPart, IsUnconvertible, ShowsParts}
use Rattle.utf_base.proofs.CutChanges.{moved}
use Rattle.utf_base.proofs.Cuts.{Finds}
use Rattle.utf_base.proofs.Rests.{shown_of_moved, stands_in_list, stands_in_rest}
use Rattle.utf_base.proofs.Standing.{same_char}

-- A part of the rest of a list is a part of the list.

same_range : (xs : List ℕ) (n p m : ℕ) → slice_range (drop n xs) p (p + m) ≡ slice_range xs (n + p) (n + p + m)
same_range xs n p m =
    let here : p + m - p ≡ m = omega arith in
    let there : n + p + m - (n + p) ≡ m = omega arith in
    rw (here, there) (ap (take m) (drop-drop p n xs))

subpart_in_list : (code : ℕ → List ℕ) (xs : List ℕ) (n p m : ℕ) → n ≤ length xs → IsMaximalSubpart code (drop n xs) p m → IsMaximalSubpart code xs (n + p) m
subpart_in_list code xs n p m le h =
    let inside = h.offset.within in
    let within = h.within in
    record {
      offset = record { within = omega (arith, length-drop n xs); none = λ s stands. h.offset.none s (stands_in_rest code xs n p (n + p) s refl stands) };
      some = h.some;
      within = omega (arith, length-drop n xs);
      front = λ more. subst (λ w. IsFrontOfCode code w) (same_range xs n p m) (h.front more);
      longest = λ k fits f. h.longest k (omega (arith, length-drop n xs)) (subst (λ w. IsFrontOfCode code w) (sym (same_range xs n p k)) f);
    }

pub part_in_list : (code : ℕ → List ℕ) (xs : List ℕ) (n p m : ℕ) (a : Option ℕ) → n ≤ length xs → IsPart code (drop n xs) p m a → IsPart code xs (n + p) m a
part_in_list code xs n p m (Some s) le h = (stands_in_list code xs n p (n + p) s refl le h.0, h.1)
part_in_list code xs n p m None le h = subpart_in_list code xs n p m le h

parts_in_list : (code : ℕ → List ℕ) (xs : List ℕ) (n : ℕ) (parts : List Piece) → n ≤ length xs → All (λ x. IsPart code (drop n xs) x.start x.len x.char) parts
    → All (λ x. IsPart code xs x.start x.len x.char) (map (moved 0 n) parts)
parts_in_list code xs n [] le each = All-nil (λ x. IsPart code xs x.start x.len x.char)
parts_in_list code xs n (x ∷ parts) le each =
    let place : n + (x.start - 0) ≡ n + x.start = omega arith in
    All-cons (λ y. IsPart code xs y.start y.len y.char) (moved 0 n x) (map (moved 0 n) parts) (rw place (part_in_list code xs n x.start x.len x.char le (each 0 x (omega arith))))
    (parts_in_list code xs n parts le (λ k d lt. each (suc k) d (omega arith)))

moved_follow : (n i j : ℕ) (parts : List Piece) → Follow i parts j → Follow (n + i) (map (moved 0 n) parts) (n + j)
moved_follow n i j [] e = ap (λ k. n + k) e
moved_follow n i j (x ∷ parts) f =
    let start : n + (x.start - 0) ≡ n + i = omega (arith, f.0) in
    let end : n + (x.start - 0) + x.len ≡ n + (x.start + x.len) = omega arith in
    (start, rw end (moved_follow n (end_of x) j parts f.1))

-- A part at the front, and the scalars of the rest.
pub part_shows_first : (code : ℕ → List ℕ) (xs : List ℕ) (n : ℕ) (a : Option ℕ) (ss : List ℕ) → n ≤ length xs → IsPart code xs 0 n a → ShowsParts code (drop n xs) ss
    → ShowsParts code xs (unwrap_or a 0xFFFD ∷ ss)
part_shows_first code xs n a ss le h (parts, inside, e) =
    let x : Piece = record { start = 0; len = n; char = a } in
    let none : n + 0 ≡ n = omega arith in
    let len : n + length (drop n xs) ≡ length xs = omega (arith, length-drop n xs) in
    let first : 0 + n ≡ n = omega arith in
    let follow : Follow n (map (moved 0 n) parts) (length xs) = rw (none, len) at (moved_follow n 0 (length (drop n xs)) parts inside.follow) in (
      x ∷ map (moved 0 n) parts,
      record {
        each = All-cons (λ y. IsPart code xs y.start y.len y.char) x (map (moved 0 n) parts) h (parts_in_list code xs n parts le inside.each);
        follow = (refl, subst (λ i. Follow i (map (moved 0 n) parts) (length xs)) (sym first) follow);
      },
      ap (λ ts. unwrap_or a 0xFFFD ∷ ts) (e ∙ sym (shown_of_moved n parts)),
    )

pub parts_show_none : (code : ℕ → List ℕ) → ShowsParts code [] []
parts_show_none code = ([], record { each = All-nil (λ y. IsPart code [] y.start y.len y.char); follow = refl }, refl)

-- There is one list of parts.

one_subpart : (code : ℕ → List ℕ) (xs : List ℕ) (p m n : ℕ) → IsMaximalSubpart code xs p m → IsMaximalSubpart code xs p n → m ≤ n
one_subpart code xs p m n h i =
    let some = i.some in
    ⊎_elim (λ (more : 1 < m). i.longest m h.within (h.front more)) (λ (one : m ≤ 1). omega arith) (cases_lt 1 m)

pub one_part : (code : ℕ → List ℕ) → IsCode code → (xs : List ℕ) (p m n : ℕ) (a b : Option ℕ) → IsPart code xs p m a → IsPart code xs p n b → (m ≡ n) × (a ≡ b)
one_part code c xs p m n (Some s) (Some t) h i =
    let same : s ≡ t = same_char code c xs p s t h.0 i.0 in
    (h.1 ∙ ap (λ u. length (code u)) same ∙ sym i.1, ap Some same)
one_part code c xs p m n (Some s) None h i = absurd (i.offset.none s h.0)
one_part code c xs p m n None (Some t) h i = absurd (h.offset.none t i.0)
one_part code c xs p m n None None h i = let le = one_subpart code xs p m n h i in let ge = one_subpart code xs p n m i h in (omega arith, refl)

pub some_part : (code : ℕ → List ℕ) → IsCode code → (xs : List ℕ) (p n : ℕ) (a : Option ℕ) → IsPart code xs p n a → (0 < n) × (p + n ≤ length xs)
some_part code c xs p n (Some s) h = let some = c.some s h.0.scalar in let within = h.0.within in (omega (arith, h.1), omega (arith, h.1))
some_part code c xs p n None h = (h.some, h.within)

abbrev piece_at : ℕ → ℕ → Option ℕ → Piece
piece_at p n a = record { start = p; len = n; char = a }

pub one_list : (code : ℕ → List ℕ) → IsCode code → (xs : List ℕ) (i : ℕ) (ps qs : List Piece) → All (λ x. IsPart code xs x.start x.len x.char) ps → Follow i ps (length xs)
    → All (λ x. IsPart code xs x.start x.len x.char) qs → Follow i qs (length xs) → ps ≡ qs
one_list code c xs i [] [] a f b g = refl
one_list code c xs i [] (y ∷ qs) a f b g =
    let h = some_part code c xs y.start y.len y.char (b 0 y (omega arith)) in
    let some = h.0 in
    let within = h.1 in
    absurd (omega (arith, g.0, f))
one_list code c xs i (x ∷ ps) [] a f b g =
    let h = some_part code c xs x.start x.len x.char (a 0 x (omega arith)) in
    let some = h.0 in
    let within = h.1 in
    absurd (omega (arith, f.0, g))
one_list code c xs i (x ∷ ps) (y ∷ qs) a f b g =
    let start : x.start ≡ y.start = f.0 ∙ sym g.0 in
    let same = one_part code c xs y.start x.len y.len x.char y.char (rw start at (a 0 x (omega arith))) (b 0 y (omega arith)) in
    let piece : x ≡ y = ap (λ p. piece_at p x.len x.char) start ∙ ap₂ (piece_at y.start) same.0 same.1 in
    let end : end_of x ≡ end_of y = ap end_of piece in
    ap₂ (λ z zs. z ∷ zs) piece
    (one_list code c xs (end_of y) ps qs (λ k d lt. a (suc k) d (omega arith)) (rw end at f.1) (λ k d lt. b (suc k) d (omega arith)) g.1)

pub parts_show_one : (code : ℕ → List ℕ) → IsCode code → (xs ss ts : List ℕ) → ShowsParts code xs ss → ShowsParts code xs ts → ss ≡ ts
parts_show_one code c xs ss ts (ps, a, e) (qs, b, f) = e ∙ ap (map shown) (one_list code c xs 0 ps qs a.each a.follow b.each b.follow) ∙ sym f

-- Whether some elements are the front of a code, which is tested for each scalar.

below : (P : ℕ → Type 0) → ((k : ℕ) → P k ⊎ (P k → ⊥)) → (n : ℕ) → ((k : ℕ) × P k) ⊎ ((k : ℕ) → k < n → P k → ⊥)
below P decide zero = inr (λ k lt h. absurd (omega arith))
below P decide (suc n) =
    ⊎_elim (λ (h : P n). inl (n, h))
    (λ (none : P n → ⊥).
    ⊎_elim (λ (h : (k : ℕ) × P k). inl h)
    (λ (fewer : (k : ℕ) → k < n → P k → ⊥). inr (λ k lt h. ⊎_elim (λ (less : k < n). fewer k less h) (λ (last : n ≤ k). let e : k ≡ n = omega arith in none (subst P e h)) (cases_lt k n)))
    (below P decide n))
    (decide n)

same_number : (x y : ℕ) → (x ≡ y) ⊎ (x ≡ y → ⊥)
same_number x y =
    ⊎_elim (λ (lt : x < y). inr (λ e. omega arith))
    (λ (ge : y ≤ x). ⊎_elim (λ (gt : y < x). inr (λ e. omega arith)) (λ (le : x ≤ y). inl (omega arith)) (cases_lt y x)) (cases_lt x y)

same_elements : (xs ys : List ℕ) → (xs ≡ ys) ⊎ (xs ≡ ys → ⊥)
same_elements [] [] = inl refl
same_elements [] (y ∷ ys) = inr (λ e. cc)
same_elements (x ∷ xs) [] = inr (λ e. cc)
same_elements (x ∷ xs) (y ∷ ys) =
    ⊎_elim
    (λ (e : x ≡ y). ⊎_elim (λ (f : xs ≡ ys). inl (ap₂ (λ z zs. z ∷ zs) e f)) (λ (f : xs ≡ ys → ⊥). inr (λ g. f (ap (drop 1) g))) (same_elements xs ys))
    (λ (e : x ≡ y → ⊥). inr (λ g. e (cc)))
    (same_number x y)

is_scalar : (s : ℕ) → IsScalar s ⊎ (IsScalar s → ⊥)
is_scalar s =
    ⊎_elim
    (λ (below : s < 0x11_0000).
    ⊎_elim (λ (low : s < 0xD800). inl (record { below = below; no_surrogate = λ h. absurd (omega arith) }))
    (λ (from : 0xD800 ≤ s).
    ⊎_elim (λ (gap : s < 0xE000). inr (λ h. let high = h.no_surrogate from in omega arith)) (λ (high : 0xE000 ≤ s). inl (record { below = below; no_surrogate = λ h. high })) (cases_lt s 0xE000))
    (cases_lt s 0xD800))
    (λ (above : 0x11_0000 ≤ s). inr (λ h. let lt = h.below in omega arith))
    (cases_lt s 0x11_0000)

-- the code of this scalar begins with these elements
record Fronts (code : ℕ → List ℕ) (w : List ℕ) (s : ℕ) : Type 0 where
  pub scalar : IsScalar s
  pub within : length w ≤ length (code s)
  pub front : take (length w) (code s) ≡ w

fronts : (code : ℕ → List ℕ) (w : List ℕ) (s : ℕ) → Fronts code w s ⊎ (Fronts code w s → ⊥)
fronts code w s =
    ⊎_elim
    (λ (scalar : IsScalar s).
    ⊎_elim (λ (longer : length (code s) < length w). inr (λ h. let le = h.within in omega arith))
    (λ (le : length w ≤ length (code s)).
    ⊎_elim (λ (e : take (length w) (code s) ≡ w). inl (record { scalar = scalar; within = le; front = e })) (λ (e : take (length w) (code s) ≡ w → ⊥). inr (λ h. e h.front))
    (same_elements (take (length w) (code s)) w))
    (cases_lt (length (code s)) (length w)))
    (λ (none : IsScalar s → ⊥). inr (λ h. none h.scalar))
    (is_scalar s)

is_front : (code : ℕ → List ℕ) (w : List ℕ) → IsFrontOfCode code w ⊎ (IsFrontOfCode code w → ⊥)
is_front code w =
    ⊎_elim
    (λ (h : (s : ℕ) × Fronts code w s). inl (record { char = h.0; scalar = h.1.scalar; within = h.1.within; front = h.1.front }))
    (λ (none : (s : ℕ) → s < 0x11_0000 → Fronts code w s → ⊥). inr (λ f. none f.char f.scalar.below (record { scalar = f.scalar; within = f.within; front = f.front })))
    (below (Fronts code w) (fronts code w) 0x11_0000)

-- There is a maximal subpart if no code begins.

-- the largest number up to n that has the property, or 1
record Largest (P : ℕ → Type 0) (n m : ℕ) : Type 0 where
  pub some : 0 < m
  pub within : m ≤ n
  pub has : 1 < m → P m
  pub most : (k : ℕ) → k ≤ n → P k → k ≤ m

largest : (P : ℕ → Type 0) → ((k : ℕ) → P k ⊎ (P k → ⊥)) → (n : ℕ) → (m : ℕ) × Largest P (suc n) m
largest P decide zero = (1, record { some = omega arith; within = omega arith; has = λ lt. absurd (omega arith); most = λ k le h. omega arith })
largest P decide (suc n) =
    ⊎_elim (λ (h : P (suc (suc n))). (suc (suc n), record { some = omega arith; within = omega arith; has = λ lt. h; most = λ k le g. omega arith }))
    (λ (none : P (suc (suc n)) → ⊥).
    let rest = largest P decide n in
    let l = rest.1 in
    let within = l.within in (
      rest.0,
      record {
        some = l.some;
        within = omega arith;
        has = l.has;
        most = λ k le g. ⊎_elim (λ (less : k < suc (suc n)). l.most k (omega arith) g) (λ (last : suc (suc n) ≤ k). let e : k ≡ suc (suc n) = omega arith in absurd (none (subst P e g))) (cases_lt k (suc (suc n)));
      },
    ))
    (decide (suc (suc n)))

some_subpart : (code : ℕ → List ℕ) (xs : List ℕ) (p : ℕ) → IsUnconvertible code xs p → (m : ℕ) × IsMaximalSubpart code xs p m
some_subpart code xs p h =
    let lt = h.within in
    let n = length xs - p - 1 in
    let l = largest (λ k. IsFrontOfCode code (slice_range xs p (p + k))) (λ k. is_front code (slice_range xs p (p + k))) n in
    let within = l.1.within in
    (l.0, record { offset = h; some = l.1.some; within = omega arith; front = l.1.has; longest = λ k fits f. l.1.most k (omega arith) f })

-- Each list has a list of parts.

record PartsFrom (code : ℕ → List ℕ) (xs : List ℕ) (i : ℕ) : Type 0 where
  pub parts : List Piece
  pub each : All (λ x. IsPart code xs x.start x.len x.char) parts
  pub follow : Follow i parts (length xs)

part_begins : (code : ℕ → List ℕ) → Finds code → (xs : List ℕ) (i : ℕ) → i < length xs → (n : ℕ) × (a : Option ℕ) × IsPart code xs i n a
part_begins code find xs i lt =
    let none : i + 0 ≡ i = omega arith in
    ⊎_elim
    (λ (h : (s : ℕ) × Stands code (drop i xs) 0 s). (length (code h.0), Some h.0, (rw none at (stands_in_list code xs i 0 (i + 0) h.0 refl (omega arith) h.1), refl)))
    (λ (h : (s : ℕ) → Stands code (drop i xs) 0 s → ⊥).
    let m = some_subpart code xs i (record { within = lt; none = λ s stands. h s (stands_in_rest code xs i 0 (i + 0) s refl (rw none stands)) }) in
    (m.0, None, m.1))
    (find (drop i xs))

parts_from : (code : ℕ → List ℕ) → IsCode code → Finds code → (fuel : ℕ) (xs : List ℕ) (i : ℕ) → i ≤ length xs → length xs ≤ i + fuel → PartsFrom code xs i
parts_from code c find zero xs i le f = record { parts = []; each = All-nil (λ y. IsPart code xs y.start y.len y.char); follow = omega arith }
parts_from code c find (suc fuel) xs i le f =
    ⊎_elim
    (λ (lt : i < length xs).
    let first = part_begins code find xs i lt in
    let h = some_part code c xs i first.0 first.1 first.2 in
    let some = h.0 in
    let within = h.1 in
    let rest = parts_from code c find fuel xs (i + first.0) (omega arith) (omega arith) in
    record {
      parts = record { start = i; len = first.0; char = first.1 } ∷ rest.parts;
      each = All-cons (λ y. IsPart code xs y.start y.len y.char) (record { start = i; len = first.0; char = first.1 }) rest.parts first.2 rest.each;
      follow = (refl, rest.follow);
    })
    (λ (ge : length xs ≤ i). record { parts = []; each = All-nil (λ y. IsPart code xs y.start y.len y.char); follow = omega arith })
    (cases_lt i (length xs))

pub parts_exist : (code : ℕ → List ℕ) → IsCode code → Finds code → (xs : List ℕ) → (parts : List Piece) × IsInParts code xs parts
parts_exist code c find xs = let w = parts_from code c find (length xs) xs 0 (omega arith) (omega arith) in (w.parts, record { each = w.each; follow = w.follow })

pub parts_show_some : (code : ℕ → List ℕ) → IsCode code → Finds code → (xs : List ℕ) → (ss : List ℕ) × ShowsParts code xs ss
parts_show_some code c find xs = let w = parts_exist code c find xs in (map shown w.0, (w.0, w.1, refl))
