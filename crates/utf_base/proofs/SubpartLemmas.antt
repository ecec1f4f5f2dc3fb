-- Maximal subparts are runs of single faults.
use Rattle.std.proofs.Common.{◌≡◌, ℕ, zero, suc, ◌+◌, ◌-◌, ◌<◌, ◌≤◌, ⊎_elim, List, [], ◌∷◌, length, get_or, take, arith, refl, ap, sym, ◌∙◌, subst, Some, None, Option, flat_map}
use Rattle.std.proofs.lemmas.Grind.{common_steps}
use Rattle.std.proofs.lemmas.Bool.{cases_lt}
use Rattle.std.specs.Prelude.{All, slice_range}
use Rattle.utf_base.specs.Code.{IsCode}
use Rattle.utf_base.specs.CutLaws.{Follow}
use Rattle.utf_base.specs.Piece.{Covered, Inside, IsCutBetween, IsPiece, IsPieceAt, Piece, Stands, end_of}
use Rattle.utf_base.specs.Subparts.{IsMaximalSubpart, IsPart, PartsBecomeTheCut, SubpartsAreFaults, faults_from, pieces_of}
use Rattle.utf_base.proofs.Cuts.{cut_append, cut_none, cut_one, fault_at, front_fault}
use Rattle.utf_base.proofs.Standing.{Stands-at, outside_after, outside_end, outside_front, stands_in_whole}

-- No code begins within a maximal subpart.

-- an element of the front of a code is that element of the code
pub element_of_front : (w ys : List ℕ) (k : ℕ) → k < length w → take (length w) ys ≡ w → get_or w k 0 ≡ get_or ys k 0
element_of_front w ys k lt e = grind (arith, common_steps)

pub element_of_range : (xs : List ℕ) (p m k : ℕ) → k < m → p + m ≤ length xs → get_or (slice_range xs p (p + m)) k 0 ≡ get_or xs (p + k) 0
element_of_range xs p m k lt le = grind (arith, common_steps)

pub length_of_range : (xs : List ℕ) (p m : ℕ) → p + m ≤ length xs → length (slice_range xs p (p + m)) ≡ m
length_of_range xs p m le = grind (arith, common_steps)

none_within : (code : ℕ → List ℕ) → IsCode code → (xs : List ℕ) (p m k s : ℕ) → IsMaximalSubpart code xs p m → k < m → Stands code xs (p + k) s → ⊥
none_within code c xs p m zero s h lt stands = let e : p + 0 ≡ p = omega arith in h.offset.none s (rw e at stands)
none_within code c xs p m (suc k) s h lt stands =
    let f = h.front (omega arith) in
    let range = slice_range xs p (p + m) in
    let len : length range ≡ m = length_of_range xs p m h.within in
    let within = f.within in
    let of_code = element_of_front range (code f.char) (suc k) (omega arith) f.front in
    let of_list = element_of_range xs p m (suc k) lt h.within in
    let first_is = Stands-at code xs (p + suc k) s 0 (p + suc k) (omega arith) stands (c.some s stands.scalar) in
    c.apart f.char s (suc k) f.scalar stands.scalar (omega arith) (omega arith) (sym of_code ∙ of_list ∙ first_is)

-- An offset at which no code begins, and that none covers, is a fault.

fault_here : (code : ℕ → List ℕ) (xs : List ℕ) (i : ℕ) → (Inside code xs i → ⊥) → i < length xs → ((s : ℕ) → Stands code xs i s → ⊥)
    → IsPiece code xs (fault_at i) × (Inside code xs (i + 1) → ⊥)
fault_here code xs i outside lt none =
    front_fault code xs i (length xs) outside (outside_end code xs) lt (omega arith)
    (λ s h. none s (stands_in_whole code xs i (length xs) 0 i s (omega arith) (omega arith) (omega arith) h).0)

-- a part of the list has its cut, and no code covers its end
record Cuts (code : ℕ → List ℕ) (xs : List ℕ) (i j : ℕ) (ps : List Piece) : Type 0 where
  pub cut : IsCutBetween code xs i j ps
  pub outside : Inside code xs j → ⊥

faults_cut : (code : ℕ → List ℕ) → IsCode code → (xs : List ℕ) (i n : ℕ) → (Inside code xs i → ⊥) → i + n ≤ length xs
    → ((k s : ℕ) → k < n → Stands code xs (i + k) s → ⊥) → Cuts code xs i (i + n) (faults_from i n)
faults_cut code c xs i zero outside le none =
    let e : i ≡ i + 0 = omega arith in
    record { cut = subst (λ j. IsCutBetween code xs i j []) e (cut_none code xs i); outside = subst (λ j. Inside code xs j → ⊥) e outside }
faults_cut code c xs i (suc n) outside le none =
    let zeroth : i + 0 ≡ i = omega arith in
    let first = fault_here code xs i outside (omega arith) (λ s h. none 0 s (omega arith) (rw zeroth h)) in
    let next : (k s : ℕ) → k < n → Stands code xs (i + 1 + k) s → ⊥ = λ k s lt h. let e : i + suc k ≡ i + 1 + k = omega arith in none (suc k) s (omega arith) (rw e h) in
    let rest = faults_cut code c xs (i + 1) n first.1 (omega arith) next in
    let e : i + 1 + n ≡ i + suc n = omega arith in
    record {
      cut = subst (λ j. IsCutBetween code xs i j (faults_from i (suc n))) e (cut_append code xs i (i + 1) (i + 1 + n) (fault_at i ∷ []) (faults_from (i + 1) n) (omega arith) (omega arith) (cut_one code c xs (fault_at i) first.0) rest.cut);
      outside = subst (λ j. Inside code xs j → ⊥) e rest.outside;
    }

subpart_cut : (code : ℕ → List ℕ) → IsCode code → (xs : List ℕ) (p m : ℕ) → (Inside code xs p → ⊥) → IsMaximalSubpart code xs p m → Cuts code xs p (p + m) (faults_from p m)
subpart_cut code c xs p m outside h = faults_cut code c xs p m outside h.within (λ k s lt stands. none_within code c xs p m k s h lt stands)

-- Each of its elements is a fault.

outside_of_fault : (code : ℕ → List ℕ) (xs : List ℕ) (p : ℕ) → IsPieceAt code xs p 1 None → Inside code xs p → ⊥
outside_of_fault code xs p h i = h.2 (record { from = i.from; char = i.char; stands = i.stands; begins = omega (arith, i.begins); ends = i.ends })

pub subparts_are_faults : (code : ℕ → List ℕ) → IsCode code → SubpartsAreFaults code
subparts_are_faults code c xs p m q fault h lo hi =
    let within = h.within in
    let outside = outside_of_fault code xs p fault in
    let uncovered : Covered code xs q → ⊥ = λ v.
    ⊎_elim
    (λ (before : v.from < p). outside (record { from = v.from; char = v.char; stands = v.stands; begins = before; ends = omega (arith, v.ends) }))
    (λ (from : p ≤ v.from).
    let e : v.from ≡ p + (v.from - p) = omega arith in
    none_within code c xs p m (v.from - p) v.char h (omega (arith, v.begins)) (rw e at v.stands))
    (cases_lt v.from p) in
    (omega arith, refl, uncovered)

-- A list in parts.

part_cut : (code : ℕ → List ℕ) → IsCode code → (xs : List ℕ) (p n : ℕ) (a : Option ℕ) → (Inside code xs p → ⊥) → IsPart code xs p n a → Cuts code xs p (p + n) (pieces_of p n a)
part_cut code c xs p n (Some s) outside h =
    let e : p + length (code s) ≡ p + n = ap (λ k. p + k) (sym h.1) in
    record {
      cut = cut_one code c xs (record { start = p; len = n; char = Some s }) h;
      outside = subst (λ j. Inside code xs j → ⊥) e (outside_after code c xs p s h.0);
    }
part_cut code c xs p n None outside h = subpart_cut code c xs p n outside h

parts_cut : (code : ℕ → List ℕ) → IsCode code → (xs : List ℕ) (i j : ℕ) (parts : List Piece) → (Inside code xs i → ⊥) → i ≤ j → All (λ x. IsPart code xs x.start x.len x.char) parts
    → Follow i parts j → IsCutBetween code xs i j (flat_map (λ x. pieces_of x.start x.len x.char) parts)
parts_cut code c xs i j [] outside le each follow = subst (λ k. IsCutBetween code xs i k []) follow (cut_none code xs i)
parts_cut code c xs i j (x ∷ parts) outside le each follow =
    let start : x.start ≡ i = follow.0 in
    let first = part_cut code c xs x.start x.len x.char (rw start outside) (each 0 x (omega arith)) in
    let one : IsCutBetween code xs i (end_of x) (pieces_of x.start x.len x.char) = subst (λ p. IsCutBetween code xs p (end_of x) (pieces_of x.start x.len x.char)) start first.cut in
    let within = follows_on (end_of x) parts j follow.1 in
    let rest = parts_cut code c xs (end_of x) j parts first.outside within (λ k d h. each (suc k) d (omega arith)) follow.1 in
    cut_append code xs i (end_of x) j (pieces_of x.start x.len x.char) (flat_map (λ y. pieces_of y.start y.len y.char) parts) (omega arith) within one rest
  where
    follows_on : (i : ℕ) (parts : List Piece) (j : ℕ) → Follow i parts j → i ≤ j
    follows_on i [] j e = omega arith
    follows_on i (x ∷ parts) j f = let le = follows_on (end_of x) parts j f.1 in let start = f.0 in omega arith

pub parts_become_the_cut : (code : ℕ → List ℕ) → IsCode code → PartsBecomeTheCut code
parts_become_the_cut code c xs parts h = parts_cut code c xs 0 (length xs) parts (outside_front code xs) (omega arith) h.each h.follow
