-- The run over bytes of which a part was replaced: old pieces before it, new ones, and old ones after it. They meet
-- at fixed offsets.
use Rattle.std.proofs.Common.{◌≡◌, ℕ, suc, ◌+◌, ◌-◌, ◌<◌, ◌≤◌, List, [], ◌∷◌, ◌++◌, length, get_or, take, drop, map, arith, refl, ap, ap₂, sym, ◌∙◌, ⊎_elim, append_assoc, length-take, length-drop, Ok, Err, Result, Some, true, false, true≢false, ltb, ltb-true, ltb-false}
use Rattle.std.proofs.lemmas.Bool.{cases_lt}
use Rattle.std.proofs.lemmas.Grind.{common_steps}
use Rattle.std.proofs.lemmas.List.{map-append, take-append-drop, take-map, drop-map, get_or-map, get_or-take, get_or-drop, length-map, length-take-le}
use Rattle.std.proofs.lemmas.List.Edits.{split_between, length-between}
use Rattle.std.proofs.lemmas.List.Elements.{All-append, All-take, All-drop, All-map, Contains-append_left, Contains-append_right, Contains-append_cases, Contains-get_or}
use Rattle.std.specs.List.{splice, AllWithin}
use Rattle.std.specs.List.Sorted.{IsNonDecreasingBy, IsPartitionPoint}
use Rattle.std.specs.Prelude.{All, Contains, IfErr, IsOk, OnOk, slice_range}
use Rattle.utf_base.specs.declared.errors.Utf8ErrorKind.{Utf8ErrorKind}
use Rattle.utf_base.specs.Code.{utf8}
use Rattle.utf_base.specs.Kinds.{fault_kind}
use Rattle.utf_base.specs.LocalLaws.{SameAt}
use Rattle.utf_base.specs.Piece.{Inside, Piece, IsPiece}
use Rattle.utf_base.proofs.CutChanges.{IsParted, piece_ends_outside, cut_before, cut_from_place, cut_from_before, cut_to_end, cut_stays, cut_moves, moved}
use Rattle.utf_base.proofs.Cuts.{cut_append, cut_unique, piece_begins, piece_some, pieces_never_overlap}
use Rattle.utf_base.proofs.FrontLemmas.{utf8_finds}
use Rattle.utf_base.proofs.LocalDamage.{utf8_damage_is_local}
use Rattle.utf_base.proofs.Standing.{outside_front}
use Rattle.utf_base.proofs.Utf8Code.{utf8_is_code}
use Rattle.encode_unicode.specs.Window.{Item}
use Rattle.text_runs.specs.Items.{piece_of, HasKind}
use Rattle.text_runs.specs.ForwardRuns.{IsForwardRun, IsForwardRunBetween}
use Rattle.text_runs.specs.Tables.{StayAround, IsSplitAt, IsSplice, IsRenewed, EndsAt, StepForEach, WereReplaced, moved_item}

-- Properties of the items of a run.

-- some item, as the default for an index that a list does not have
some_item : Item
some_item = (0, Ok 0, 0)

-- an item of a run is a piece
item_of_run : (xs : List ℕ) (i j : ℕ) (items : List Item) (n : ℕ) (d : Item) → IsForwardRunBetween xs i j items → n < length items
    → let x = get_or items n d in IsPiece utf8 xs (piece_of x) × (i ≤ x.0) × (x.0 < j)
item_of_run xs i j items n d run lt =
    let len = length-map items piece_of in
    rw (get_or-map piece_of items n d (piece_of d) lt) at (run.cut.pieces n (piece_of d) (omega arith))

pub run_in_order : (xs : List ℕ) (items : List Item) → IsForwardRun xs items → IsNonDecreasingBy (λ (x : Item). x.0) items
run_in_order xs items run i j d le lt =
    let len = length-map items piece_of in
    ⊎_elim
    (λ (before : i < j).
    let order = run.cut.in_order i j (piece_of d) before (omega arith) in
    let of_i = ap (λ y. y.start) (get_or-map piece_of items i d (piece_of d) (omega arith)) in
    let of_j = ap (λ y. y.start) (get_or-map piece_of items j d (piece_of d) lt) in
    omega arith)
    (λ (same : j ≤ i). let e : i ≡ j = omega arith in rw e (omega arith))
    (cases_lt i j)

pub run_within : (xs : List ℕ) (items : List Item) → IsForwardRun xs items → All (λ (x : Item). x.0 + x.2 ≤ length xs) items
run_within xs items run n d lt =
    let x = get_or items n d in
    (piece_some utf8 utf8_is_code xs x.0 x.2 (piece_of x).char (item_of_run xs 0 (length xs) items n d run lt).0).1

pieces_within : (P : Piece → Type 0) (items : List Item) (i j : ℕ) → j ≤ length items → AllWithin (λ x. P (piece_of x)) items i j → AllWithin P (map piece_of items) i j
pieces_within P items i j le h k d lo hi = rw (get_or-map piece_of items k some_item d (omega arith)) (h k some_item lo hi)

pieces_moved : (a b : ℕ) (items : List Item) → map piece_of (map (moved_item a b) items) ≡ map (moved a b) (map piece_of items)
pieces_moved a b [] = refl
pieces_moved a b (x ∷ items) = ap (λ ps. moved a b (piece_of x) ∷ ps) (pieces_moved a b items)

-- Parts of a run, and the same parts in other bytes.

parted : (m k : ℕ) (items : List Item) → IsSplitAt items m k → IsParted m k (map piece_of items)
parted m k items split =
    let len = length-map items piece_of in
    let within = split.within in
    record {
      within = omega arith;
      before = pieces_within (λ x. x.start < m) items 0 k within split.before;
      following = rw len (pieces_within (λ x. m ≤ x.start) items k (length items) (omega arith) split.following);
    }

pub run_before : (xs : List ℕ) (m k : ℕ) (items : List Item) → m ≤ length xs → IsForwardRun xs items → IsSplitAt items m k → IsForwardRunBetween xs 0 m (take k items)
run_before xs m k items le run split = record {
  cut = rw (← take-map piece_of k items) (cut_before utf8 xs 0 m (length xs) k (map piece_of items) le (parted m k items split) run.cut);
  kinds = All-take (HasKind fault_kind xs) k items run.kinds;
}

pub run_from_place : (xs : List ℕ) (m k : ℕ) (items : List Item) → IsForwardRun xs items → IsSplitAt items m k → IsForwardRunBetween xs m (length xs) (drop k items)
run_from_place xs m k items run split = record {
  cut = rw (← drop-map piece_of k items) (cut_from_place utf8 xs 0 m (length xs) k (map piece_of items) (omega arith) (parted m k items split) run.cut);
  kinds = All-drop (HasKind fault_kind xs) k items run.kinds;
}

-- a fault keeps its kind if the bytes from it on are the same
kind_stays : (xs ys : List ℕ) (p q : ℕ) (r : Result ℕ Utf8ErrorKind) → fault_kind (drop p xs) ≡ fault_kind (drop q ys)
    → IfErr r (λ k. fault_kind (drop p xs) ≡ Some k) → IfErr r (λ k. fault_kind (drop q ys) ≡ Some k)
kind_stays xs ys p q (Ok s) e h = tt
kind_stays xs ys p q (Err k) e h = sym e ∙ h

pub run_stays : (xs ys : List ℕ) (j : ℕ) (items : List Item) → ((p : ℕ) → p < j → SameAt utf8 fault_kind xs p ys p) → IsForwardRunBetween xs 0 j items
    → IsForwardRunBetween ys 0 j items
run_stays xs ys j items same run = record {
  cut = cut_stays utf8 xs ys 0 j (map piece_of items) (λ p lt. (same p lt).pieces) run.cut;
  kinds = λ n d lt.
      let x = get_or items n d in
      kind_stays xs ys x.0 x.0 x.1 (same x.0 (item_of_run xs 0 j items n d run lt).2).kinds (run.kinds n d lt);
}

pub run_moves : (xs ys : List ℕ) (a b i j : ℕ) (items : List Item) → ((p : ℕ) → i ≤ p → SameAt utf8 fault_kind xs (a + p) ys (b + p)) → length ys ≤ j
    → IsForwardRunBetween xs (a + i) (length xs) items → IsForwardRunBetween ys (b + i) j (map (moved_item a b) items)
run_moves xs ys a b i j items same le run = record {
  cut = rw (pieces_moved a b items) (cut_moves utf8 utf8_is_code xs ys a b i j (map piece_of items) (λ p lo. (same p lo).pieces) le run.cut);
  kinds =
      All-map (HasKind fault_kind ys) (moved_item a b) items (λ n d lt.
      let x = get_or items n d in
      let lo = (item_of_run xs (a + i) (length xs) items n d run lt).1 in
      let place : a + (x.0 - a) ≡ x.0 = omega arith in
      kind_stays xs ys x.0 (b + (x.0 - a)) x.1 (rw place at ((same (x.0 - a) (omega arith)).kinds)) (run.kinds n d lt));
}

run_append : (xs : List ℕ) (i j k : ℕ) (a b : List Item) → i ≤ j → j ≤ k → IsForwardRunBetween xs i j a → IsForwardRunBetween xs j k b → IsForwardRunBetween xs i k (a ++ b)
run_append xs i j k a b lo hi f g = record {
  cut = rw map-append (cut_append utf8 xs i j k (map piece_of a) (map piece_of b) lo hi f.cut g.cut);
  kinds = All-append (HasKind fault_kind xs) a b f.kinds g.kinds;
}

-- Bytes of which a part was replaced.

length-splice : (xs new : List ℕ) (s e : ℕ) → s ≤ e → e ≤ length xs → length (splice xs s e new) ≡ s + length new + (length xs - e)
length-splice xs new s e lo hi = grind (arith, common_steps)

-- what the law of local damage implies for them
pub record StaysAround (xs ys : List ℕ) (s e t : ℕ) : Type 0 where
  pub before : (p : ℕ) → p < s - 3 → SameAt utf8 fault_kind xs p ys p
  pub following : (p : ℕ) → 3 ≤ p → SameAt utf8 fault_kind xs (e + p) ys (t + p)

pub stays_around : (xs new : List ℕ) (s e : ℕ) → s ≤ e → e ≤ length xs → StaysAround xs (splice xs s e new) s e (s + length new)
stays_around xs new s e lo hi =
    let whole : take s xs ++ slice_range xs s e ++ drop e xs ≡ xs = append_assoc (take s xs) (slice_range xs s e) (drop e xs) ∙ sym (split_between xs s e lo) in
    let other : take s xs ++ new ++ drop e xs ≡ splice xs s e new = append_assoc (take s xs) new (drop e xs) in
    let front : length (take s xs) ≡ s = length-take-le s xs (omega arith) in
    let old : s + length (slice_range xs s e) ≡ e = omega (arith, length-between xs s e hi) in
    record {
      before = λ p lt. rw (whole, other) at (utf8_damage_is_local.front (take s xs) (slice_range xs s e) new (drop e xs) p (omega arith));
      following = λ p ge. rw (whole, other, front, old) at (utf8_damage_is_local.rest (take s xs) (slice_range xs s e) new (drop e xs) p (omega arith));
    }

-- The offset from which the new pieces are decoded.

module _ (ys : List ℕ) (s from k : ℕ) (items : List Item) (run : IsForwardRunBetween ys 0 (s - 3) (take k items)) (enough : k ≤ length items) (ends : EndsAt items k from) where
  -- if there is a last item, it ends there
  last_item : 0 < k → let x = get_or items (k - 1) some_item in IsPiece utf8 ys (piece_of x) × (x.0 < s - 3) × (from ≡ x.0 + x.2)
  last_item some =
      let taken = length-take k items in
      let w = rw (get_or-take k items (k - 1) some_item (omega arith)) at (item_of_run ys 0 (s - 3) (take k items) (k - 1) some_item run (omega arith)) in
      (w.0, w.2, ends.1 some some_item)

  -- each of the items begins before
  begins_before : (z : Piece) → Contains (map piece_of (take k items)) z → z.start < from
  begins_before z w =
      let taken = length-take k items in
      let len = length-map (take k items) piece_of in
      let some : 0 < k = omega arith in
      let x = get_or items (k - 1) some_item in
      let last = last_item some in
      let fits = piece_some utf8 utf8_is_code ys x.0 x.2 (piece_of x).char last.0 in
      let is : get_or (map piece_of (take k items)) (k - 1) z ≡ piece_of x
      = get_or-map piece_of (take k items) (k - 1) some_item z (omega arith) ∙ ap piece_of (get_or-take k items (k - 1) some_item (omega arith)) in
      let starts = ap (λ y. y.start) is in
      let z_starts = ap (λ y. y.start) w.2 in
      ⊎_elim
      (λ (first : w.0 < k - 1). let order = run.cut.in_order w.0 (k - 1) z first (omega arith) in omega (arith, last.2))
      (λ (later : k - 1 ≤ w.0). let same : w.0 ≡ k - 1 = omega arith in let at_last = rw same at z_starts in omega (arith, last.2))
      (cases_lt w.0 (k - 1))

  resumes_outside : Inside utf8 ys from → ⊥
  resumes_outside i =
      ⊎_elim
      (λ (some : 0 < k).
      let x = get_or items (k - 1) some_item in
      let last = last_item some in
      let end : from ≡ x.0 + x.2 = omega (arith, last.2) in
      piece_ends_outside utf8 utf8_is_code ys x.0 x.2 (piece_of x).char last.0 (rw end at i))
      (λ (none : k ≤ 0). outside_front utf8 ys (rw (ends.0 (omega arith)) at i))
      (cases_lt 0 k)

  resumes_within : from ≤ length ys
  resumes_within =
      ⊎_elim
      (λ (some : 0 < k).
      let x = get_or items (k - 1) some_item in
      let last = last_item some in
      let fits = piece_some utf8 utf8_is_code ys x.0 x.2 (piece_of x).char last.0 in
      omega (arith, last.2))
      (λ (none : k ≤ 0). omega (arith, ends.0 (omega arith)))
      (cases_lt 0 k)

  none_between : (z : Piece) → IsPiece utf8 ys z → s - 3 ≤ z.start → z.start < from → ⊥
  none_between z g lo hi =
      ⊎_elim
      (λ (some : 0 < k).
      let x = get_or items (k - 1) some_item in
      let last = last_item some in
      let apart = (pieces_never_overlap utf8 utf8_is_code ys (piece_of x) z last.0 g).1 (omega (arith, last.2)) in
      omega (arith, last.2))
      (λ (none : k ≤ 0). omega (arith, ends.0 (omega arith)))
      (cases_lt 0 k)

  -- a piece that began there would be one of the items
  resumes_late : s - 3 ≤ length ys → s - 3 ≤ from
  resumes_late within =
      ⊎_elim
      (λ (short : from < s - 3).
      let b = piece_begins utf8 utf8_is_code utf8_finds ys from resumes_outside (omega arith) in
      let before = begins_before b.first (run.cut.all b.first b.is_piece (omega arith) (omega arith)) in
      absurd (omega arith))
      (λ (le : s - 3 ≤ from). le)
      (cases_lt from (s - 3))

-- the cut between two offsets has one length
StepForEach-run : (xs : List ℕ) (i j before after : ℕ) (items : List Item) → IsForwardRunBetween xs i j items → after ≡ before + length items → StepForEach xs i j before after
StepForEach-run xs i j before after items run e ps cut =
    let len = ap length (cut_unique utf8 utf8_is_code xs i j ps (map piece_of items) cut run.cut) in
    omega (arith, length-map items piece_of)

-- The items that stay are there.

Contains-take : (items : List Item) (x : Item) (k : ℕ) → (w : Contains items x) → w.0 < k → Contains (take k items) x
Contains-take items x k w lt = let len = length-take k items in (w.0, omega arith, get_or-take k items w.0 x lt ∙ w.2)

Contains-drop : (items : List Item) (x : Item) (r : ℕ) → (w : Contains items x) → r ≤ w.0 → Contains (drop r items) x
Contains-drop items x r w le =
    let len = length-drop r items in
    let place : r + (w.0 - r) ≡ w.0 = omega arith in
    (w.0 - r, omega arith, get_or-drop r items (w.0 - r) x ∙ (ap (λ n. get_or items n x) place ∙ w.2))

Contains-map : (f : Item → Item) (items : List Item) (x : Item) → Contains items x → Contains (map f items) (f x)
Contains-map f items x w = let len = length-map items f in (w.0, omega arith, get_or-map f items w.0 x (f x) w.1 ∙ ap f w.2)

in_front : (items : List Item) (m k : ℕ) → IsSplitAt items m k → (x : Item) → Contains items x → x.0 < m → Contains (take k items) x
in_front items m k split x w lt =
    let place : (get_or items w.0 x).0 ≡ x.0 = ap (λ y. y.0) w.2 in
    let first : w.0 < k = ⊎_elim (λ (lt : w.0 < k). lt) (λ (ge : k ≤ w.0). let b = split.following w.0 x ge w.1 in absurd (omega arith)) (cases_lt w.0 k) in
    Contains-take items x k w first

in_rest : (items : List Item) (m r : ℕ) → IsSplitAt items m r → (x : Item) → Contains items x → m ≤ x.0 → Contains (drop r items) x
in_rest items m r split x w ge =
    let place : (get_or items w.0 x).0 ≡ x.0 = ap (λ y. y.0) w.2 in
    let last : r ≤ w.0 = ⊎_elim (λ (lt : w.0 < r). let b = split.before w.0 x (omega arith) lt in absurd (omega arith)) (λ (ge : r ≤ w.0). ge) (cases_lt w.0 r) in
    Contains-drop items x r w last

-- an item of a part is one of the whole, on its side of the offset
of_front : (items : List Item) (m k : ℕ) → IsSplitAt items m k → (x : Item) → Contains (take k items) x → Contains items x × (x.0 < m)
of_front items m k split x w =
    let len = length-take k items in
    let lt : w.0 < k = omega arith in
    let is : get_or items w.0 x ≡ x = sym (get_or-take k items w.0 x lt) ∙ w.2 in
    let place = ap (λ y. y.0) is in
    let b = split.before w.0 x (omega arith) lt in
    ((w.0, omega arith, is), omega arith)

of_rest : (items : List Item) (m r : ℕ) → IsSplitAt items m r → (x : Item) → Contains (drop r items) x → Contains items x × (m ≤ x.0)
of_rest items m r split x w =
    let len = length-drop r items in
    let is : get_or items (r + w.0) x ≡ x = sym (get_or-drop r items w.0 x) ∙ w.2 in
    let place = ap (λ y. y.0) is in
    let b = split.following (r + w.0) x (omega arith) (omega arith) in
    ((r + w.0, omega arith, is), omega arith)

fresh_item : (ys : List ℕ) (i j : ℕ) (fresh : List Item) → IsForwardRunBetween ys i j fresh → (x : Item) → Contains fresh x → (i ≤ x.0) × (x.0 < j)
fresh_item ys i j fresh run x w =
    let place = ap (λ y. y.0) w.2 in
    let b = item_of_run ys i j fresh w.0 x run w.1 in
    (omega (arith, b.1), omega (arith, b.2))

unmoved_item : (a b : ℕ) (items : List Item) (z : Item) → Contains (map (moved_item a b) items) z → (y : Item) × Contains items y × (moved_item a b y ≡ z)
unmoved_item a b items z w =
    let len = length-map items (moved_item a b) in
    let lt : w.0 < length items = omega arith in
    (get_or items w.0 some_item, Contains-get_or items w.0 some_item lt, sym (get_or-map (moved_item a b) items w.0 some_item z lt) ∙ w.2)

same_unmoved : (a b : ℕ) (x y : Item) → a ≤ x.0 → a ≤ y.0 → moved_item a b y ≡ moved_item a b x → y ≡ x
same_unmoved a b x y of_x of_y e =
    let moved_place = ap (λ z. z.0) e in
    let place : y.0 ≡ x.0 = omega arith in
    ap (λ p. (p, y.1, y.2)) place ∙ ap (λ z. (x.0, z.1, z.2)) e

StayAround-renewed : (ys : List ℕ) (s e t k r : ℕ) (items fresh : List Item) → s ≤ t → IsSplitAt items (s - 3) k → IsSplitAt items (e + 3) r → IsForwardRunBetween ys (s - 3) (t + 3) fresh
    → StayAround items (take k items ++ (fresh ++ map (moved_item e t) (drop r items))) s e t
StayAround-renewed ys s e t k r items fresh le kept resumed mid x =
    let rest = map (moved_item e t) (drop r items) in
    let z = moved_item e t x in (
      λ near. (
        λ w. Contains-append_left (take k items) (fresh ++ rest) x (in_front items (s - 3) k kept x w (omega arith)),
        λ w.
            ⊎_elim
            (λ (first : Contains (take k items) x). (of_front items (s - 3) k kept x first).0)
            (λ (later : Contains (fresh ++ rest) x).
            ⊎_elim
            (λ (inner : Contains fresh x). let b = fresh_item ys (s - 3) (t + 3) fresh mid x inner in absurd (omega arith))
            (λ (last : Contains rest x). let y = unmoved_item e t (drop r items) x last in let place = ap (λ v. v.0) y.2 in absurd (omega arith))
            (Contains-append_cases fresh rest x later))
            (Contains-append_cases (take k items) (fresh ++ rest) x w),
      ),
      λ far. (
        λ w. Contains-append_right (take k items) (fresh ++ rest) z (Contains-append_right fresh rest z (Contains-map (moved_item e t) (drop r items) x (in_rest items (e + 3) r resumed x w far))),
        λ w.
            ⊎_elim
            (λ (first : Contains (take k items) z). let b = (of_front items (s - 3) k kept z first).1 in absurd (omega arith))
            (λ (later : Contains (fresh ++ rest) z).
            ⊎_elim
            (λ (inner : Contains fresh z). let b = fresh_item ys (s - 3) (t + 3) fresh mid z inner in absurd (omega arith))
            (λ (last : Contains rest z).
            let y = unmoved_item e t (drop r items) z last in
            let of_y = of_rest items (e + 3) r resumed y.0 y.1 in
            rw (same_unmoved e t x y.0 (omega arith) (omega arith) y.2) at of_y.0)
            (Contains-append_cases fresh rest z later))
            (Contains-append_cases (take k items) (fresh ++ rest) z w),
      ),
    )

-- Counting items.

pub IsSplitAt-from_point : (items : List Item) (m k : ℕ) → k ≤ length items
    → IsPartitionPoint (λ (x : Item). ltb x.0 m ≡ true) (λ (x : Item). ltb x.0 m ≡ false) items k → IsSplitAt items m k
IsSplitAt-from_point items m k le point = record {
  within = le;
  before = λ n d lo hi. ltb-true _ _ (point.0 n d lo hi);
  following = λ n d lo hi. ltb-false _ _ (point.1 n d lo hi);
}

-- fewer items begin before an earlier offset
pub splits_in_order : (items : List Item) (m n k r : ℕ) → m ≤ n → IsSplitAt items m k → IsSplitAt items n r → k ≤ r
splits_in_order items m n k r le a b =
    ⊎_elim
    (λ (lt : r < k).
    let before = a.before r some_item (omega arith) lt in
    let following = b.following r some_item (omega arith) (omega arith) in
    absurd (omega arith))
    (λ (ge : k ≤ r). ge)
    (cases_lt r k)

-- items that are moved by nothing are unchanged
pub moved_nowhere : (a : ℕ) (items : List Item) → All (λ (x : Item). a ≤ x.0) items → map (moved_item a a) items ≡ items
moved_nowhere a [] h = refl
moved_nowhere a (x ∷ items) h =
    let le = h 0 x (omega arith) in
    let e : a + (x.0 - a) ≡ x.0 = omega arith in
    ap₂ (λ y ys. y ∷ ys) (ap (λ p. (p, x.1, x.2)) e) (moved_nowhere a items (λ n d lt. h (suc n) d (omega arith)))

-- The postcondition of a call for success, if it succeeds.

pub on_ok : {T E : Type 0} {P : Type 0} (r : Result T E) → IsOk r → OnOk r P → P
on_ok (Ok x) h p = p
on_ok (Err e) h p = absurd (true≢false (sym h))

pub OnOk-always : {T E : Type 0} {P : Type 0} (r : Result T E) → P → OnOk r P
OnOk-always (Ok x) p = p
OnOk-always (Err e) p = tt

-- If nothing is replaced by nothing.

splice_nothing : (xs : List ℕ) (s : ℕ) → xs ≡ splice xs s s []
splice_nothing xs s = sym (take-append-drop s xs)

pub same_bytes : (xs new : List ℕ) (s e : ℕ) → s ≡ e → length new ≡ 0 → xs ≡ splice xs s e new
same_bytes xs [] s e same none = rw same (splice_nothing xs e)
same_bytes xs (y ∷ new) s e same none = absurd (omega arith)

pub StayAround-same : (items : List Item) (s e t : ℕ) → e ≡ t → StayAround items items s e t
StayAround-same items s e t same x = (
  λ near. (λ w. w, λ w. w),
  λ far.
      let place : t + (x.0 - e) ≡ x.0 = omega arith in
      let still : moved_item e t x ≡ x = ap (λ p. (p, x.1, x.2)) place in
      rw still (λ w. w, λ w. w),
)

pub StepForEach-to : (xs : List ℕ) (i j k before after : ℕ) → k ≡ j → StepForEach xs i j before after → StepForEach xs i k before after
StepForEach-to xs i j k before after e h = rw e h

-- The run over bytes of which a part was replaced.

module _ {ys : List ℕ} {s e t : ℕ} {items : List Item} (h : WereReplaced ys s e t items) where
  length_new : length ys ≡ t + (length h.old - e)
  length_new = ap length h.replaced ∙ (length-splice h.old h.new s e h.ordered h.within ∙ ap (λ n. n + (length h.old - e)) (sym h.ends))

  around : StaysAround h.old ys s e t
  around = rw (h.replaced, h.ends) (stays_around h.old h.new s e h.ordered h.within)

  kept_run : (k : ℕ) → IsSplitAt items (s - 3) k → IsForwardRunBetween ys 0 (s - 3) (take k items)
  kept_run k split =
      run_stays h.old ys (s - 3) (take k items) around.before (run_before h.old (s - 3) k items (omega arith) h.run split)

  moved_run : (r : ℕ) → IsSplitAt items (e + 3) r → IsForwardRunBetween ys (t + 3) (length ys + 3) (map (moved_item e t) (drop r items))
  moved_run r split = run_moves h.old ys e t 3 (length ys + 3) (drop r items) around.following (omega arith) (run_from_place h.old (e + 3) r items h.run split)

  -- the kept items, those that were decoded, and the moved ones are the run
  run_renewed : (k r : ℕ) (fresh : List Item) → IsSplitAt items (s - 3) k → IsSplitAt items (e + 3) r → IsForwardRunBetween ys (s - 3) (t + 3) fresh
      → IsForwardRun ys (take k items ++ (fresh ++ map (moved_item e t) (drop r items)))
  run_renewed k r fresh kept resumed mid =
      let ends_at = h.ends in
      let long = length_new in
      let following = run_append ys (s - 3) (t + 3) (length ys + 3) fresh (map (moved_item e t) (drop r items)) (omega arith) (omega arith) mid (moved_run r resumed) in
      let whole = run_append ys 0 (s - 3) (length ys + 3) (take k items) (fresh ++ map (moved_item e t) (drop r items)) (omega arith) (omega arith) (kept_run k kept) following in
      record { cut = cut_to_end utf8 utf8_is_code ys 0 (length ys + 3) _ (omega arith) whole.cut; kinds = whole.kinds }

  pub IsSplice-found : {k r from : ℕ} → IsSplitAt items (s - 3) k → IsSplitAt items (e + 3) r → EndsAt items k from → IsSplice ys s e t items k r from
  IsSplice-found {k} {r} {from} kept resumed ends =
      let ends_at = h.ends in
      let ordered = h.ordered in
      let long = length_new in
      let run = kept_run k kept in
      record {
        kept = kept;
        moved = resumed;
        ordered = splits_in_order items (s - 3) (e + 3) k r (omega arith) kept resumed;
        fits = All-drop (λ (x : Item). t + (x.0 - e) ≤ length ys) r items (λ n d lt. let w = run_within h.old items h.run n d lt in omega arith);
        within = resumes_within ys s from k items run kept.within ends;
        reached = resumes_late ys s from k items run kept.within ends (omega arith);
        outside = resumes_outside ys s from k items run kept.within ends;
        none = none_between ys s from k items run kept.within ends;
      }

  -- the number of pieces that were decoded is at least that of the pieces that begin near the replaced part
  pub least_at_spot : {k r from : ℕ} (before after : ℕ) (fresh : List Item) → IsSplice ys s e t items k r from → IsForwardRunBetween ys from (t + 3) fresh
      → after ≡ before + length fresh → StepForEach ys (s - 3) (t + 3) before after
  least_at_spot {from} before after fresh spot run counted =
      let mid : IsForwardRunBetween ys (s - 3) (t + 3) fresh
      = record { cut = cut_from_before utf8 ys (s - 3) from (t + 3) (map piece_of fresh) spot.reached spot.none run.cut; kinds = run.kinds } in
      StepForEach-run ys (s - 3) (t + 3) before after fresh mid counted

  pub IsRenewed-all : {k r from : ℕ} {fresh others : List Item} {steps_before steps : ℕ} → IsSplice ys s e t items k r from → IsForwardRunBetween ys from (t + 3) fresh
      → others ≡ take k items ++ (fresh ++ map (moved_item e t) (drop r items)) → steps ≡ steps_before + length fresh → steps ≤ steps_before + (t + 3 - from)
      → IsRenewed ys s e t items others steps_before steps
  IsRenewed-all {k} {r} {from} {fresh} {steps_before} {steps} spot run same counted few =
      let ends_at = h.ends in
      let reached = spot.reached in
      let mid : IsForwardRunBetween ys (s - 3) (t + 3) fresh
      = record { cut = cut_from_before utf8 ys (s - 3) from (t + 3) (map piece_of fresh) spot.reached spot.none run.cut; kinds = run.kinds } in
      record {
        run = rw same (run_renewed k r fresh spot.kept spot.moved mid);
        around = rw same (StayAround-renewed ys s e t k r items fresh (omega arith) spot.kept spot.moved mid);
        least = StepForEach-run ys (s - 3) (t + 3) steps_before steps fresh mid counted;
        most = omega arith;
      }
