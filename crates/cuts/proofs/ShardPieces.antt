-- The cut of a shard is that part of the whole cut that lies in it, and so is its run if it is given with
-- some elements after it.
use Rattle.std.proofs.Common.{◌≡◌, ℕ, zero, suc, ◌+◌, ◌-◌, ◌<◌, ◌≤◌, Bool, true, false, cond, ltb, List, [], ◌∷◌, ◌++◌, length, length-drop, get_or, map, take, take_all, drop, arith, refl, ap, ap₂, sym, subst, ◌∙◌, inl, inr, Option, Some, None, Result, Ok, Err, ltb-true, lt-ltb}
use Rattle.std.proofs.lemmas.Bool.{cases_lt, cond_both}
use Rattle.std.proofs.lemmas.Grind.{common_steps}
use Rattle.std.proofs.lemmas.List.{drop-drop, drop-take, get_or-map, length-map, take_rest}
use Rattle.std.proofs.lemmas.List.Elements.{All-append, All-filter, All-map, filter-append, filter_passes}
use Rattle.std.proofs.lemmas.List.Kept.{AllPairs-filter}
use Rattle.std.specs.Prelude.{All, Contains, filter, is_err, slice_range}
use Rattle.utf_base.specs.Code.{IsCode, utf8}
use Rattle.utf_base.specs.Kinds.{fault_kind}
use Rattle.utf_base.proofs.KindLemmas.{four_bytes_decide}
use Rattle.utf_base.proofs.Utf8Code.{utf8_is_code}
use Rattle.encode_unicode.specs.Pieces.{pieces}
use Rattle.utf_base.specs.Piece.{Covered, Inside, IsCutBetween, IsPiece, IsPieceAt, Piece}
use Rattle.utf_base.proofs.Cuts.{cut_append, cut_is_unique}
use Rattle.utf_base.proofs.Standing.{outside_end, outside_front, stands_in_part, stands_in_whole}
use Rattle.text_runs.specs.Items.{Placed, piece_of, HasKind, IsRun}
use Rattle.text_runs.specs.ShardRuns.{AreOutside, ShardItemsJoin, ShardPiecesJoin, faults, joined_items, moved, shard_items}
use Rattle.text_runs.proofs.ForwardRuns.{pieces_are_the_run}
use Rattle.text_runs.proofs.RunLaws.{run_unique}

-- Lists.

contains_filter : {X : Type 0} (p : X → Bool) (xs : List X) (x : X) → Contains xs x → p x ≡ true → Contains (filter p xs) x
contains_filter p [] x (k, lt, e) h = absurd (omega arith)
contains_filter p (y ∷ xs) x (zero, lt, e) h = rw (ap p e ∙ h) (0, omega arith, e)
contains_filter p (y ∷ xs) x (suc k, lt, e) h =
    let rest = contains_filter p xs x (k, omega arith, e) h in
    cond_both (p y) (y ∷ filter p xs) (filter p xs) (λ ys. Contains ys x) (λ _. (suc rest.0, omega (arith, rest.1), rest.2)) (λ _. rest)

contains_map : {X Y : Type 0} (f : X → Y) (xs : List X) (x : X) (y : Y) → f x ≡ y → Contains xs x → Contains (map f xs) y
contains_map f xs x y e (k, lt, at) = (k, omega (arith, length-map xs f), get_or-map f xs k x y lt ∙ ap f at ∙ e)

all_map : {X Y : Type 0} (P : Y → Type 0) (f : X → Y) (xs : List X) → All (λ x. P (f x)) xs → All P (map f xs)
all_map P f xs all = All-map P f xs all

map_append : {X Y : Type 0} (f : X → Y) (xs ys : List X) → map f (xs ++ ys) ≡ map f xs ++ map f ys
map_append f [] ys = refl
map_append f (x ∷ xs) ys = ap (λ zs. f x ∷ zs) (map_append f xs ys)

-- A part of a cut, from its front.

abbrev pub piece_moved : ℕ → Piece → Piece
piece_moved i x = record { start = i + x.start; len = x.len; char = x.char }

abbrev before : ℕ → Piece → Bool
before k x = ltb x.start k

front_of_cut : (code : ℕ → List ℕ) (xs : List ℕ) (j k : ℕ) (ps : List Piece) → k ≤ j → IsCutBetween code xs 0 j ps → IsCutBetween code xs 0 k (filter (before k) ps)
front_of_cut code xs j k ps le cut = record {
  pieces = λ n d lt.
      let piece = All-filter (before k) (λ x. IsPiece code xs x × (0 ≤ x.start) × (x.start < j)) ps cut.pieces n d lt in
      (piece.0, omega arith, ltb-true _ k (filter_passes (before k) ps n d lt));
  all = λ x piece lo hi. contains_filter (before k) ps x (cut.all x piece lo (omega arith)) (lt-ltb x.start k hi);
  in_order = AllPairs-filter (λ x y. x.start < y.start) (before k) ps cut.in_order;
}

pieces_before : {E : Type 0} (k : ℕ) (items : List (Placed E)) → map piece_of (filter (λ x. ltb x.0 k) items) ≡ filter (before k) (map piece_of items)
pieces_before k [] = refl
pieces_before {E} k (x ∷ items) = by (ltb x.0 k) (pieces_before k items)
  where
    by : (b : Bool) → map piece_of (filter (λ x. ltb x.0 k) items) ≡ filter (before k) (map piece_of items)
        → map piece_of (cond b (x ∷ filter (λ x. ltb x.0 k) items) (filter (λ x. ltb x.0 k) items)) ≡ cond b (piece_of x ∷ filter (before k) (map piece_of items)) (filter (before k) (map piece_of items))
    by true e = ap (λ ps. piece_of x ∷ ps) e
    by false e = e

pieces_moved : {E : Type 0} (i : ℕ) (items : List (Placed E)) → map piece_of (map (moved i) items) ≡ map (piece_moved i) (map piece_of items)
pieces_moved i [] = refl
pieces_moved i (x ∷ items) = ap (λ ps. piece_moved i (piece_of x) ∷ ps) (pieces_moved i items)

-- A shard from i to n, with what follows it to the offset e.
module _ (code : ℕ → List ℕ) (xs : List ℕ) (i n e : ℕ) (lo : i ≤ n) (le : n ≤ e) (within : e ≤ length xs) (first : Inside code xs i → ⊥) (last : Inside code xs n → ⊥) where
  abbrev shard : List ℕ
  shard = slice_range xs i e

  shard_len : length shard ≡ e - i
  shard_len = grind (arith, common_steps)

  -- a code that covers an offset of the shard lies in it
  lies_in : (p : ℕ) → i ≤ p → p < n → (v : Covered code xs p) → (i ≤ v.from) × (v.from + length (code v.char) ≤ n)
  lies_in p ge lt v =
      let begins = v.begins in
      let ends = v.ends in (
        elim (cases_lt v.from i) [ inr later ↦ later | inl before ↦ absurd (first (record { from = v.from; char = v.char; stands = v.stands; begins = before; ends = omega arith })) ],
        elim (cases_lt n (v.from + length (code v.char))) [ inr fits ↦ fits | inl over ↦ absurd (last (record { from = v.from; char = v.char; stands = v.stands; begins = omega arith; ends = over })) ],
      )

  to_whole : (p len : ℕ) (char : Option ℕ) → p < n - i → IsPieceAt code shard p len char → IsPieceAt code xs (i + p) len char
  to_whole p len (Some s) lt h = ((stands_in_whole code xs i e p (i + p) s refl (omega arith) within h.0).0, h.1)
  to_whole p len None lt h = (
    omega arith,
    h.1,
    λ v.
        let lies = lies_in (i + p) (omega arith) (omega arith) v in
        let begins = v.begins in
        let ends = v.ends in
        let stands = stands_in_part code xs i e (v.from - i) v.from v.char (omega (arith, lies.0)) within v.stands (omega (arith, lies.1)) in
        h.2 (record { from = v.from - i; char = v.char; stands = stands; begins = omega (arith, lies.0); ends = omega (arith, lies.0) }),
  )

  to_part : (c : IsCode code) (p len : ℕ) (char : Option ℕ) → i ≤ p → p < n → IsPieceAt code xs p len char → IsPieceAt code shard (p - i) len char
  to_part c p len (Some s) ge lt h =
      let some = c.some s h.0.scalar in
      let fits = (lies_in p ge lt (record { from = p; char = s; stands = h.0; begins = omega arith; ends = omega arith })).1 in
      (stands_in_part code xs i e (p - i) p s (omega arith) within h.0 (omega arith), h.1)
  to_part c p len None ge lt h = (
    omega (arith, shard_len),
    h.1,
    λ v.
        let begins = v.begins in
        let ends = v.ends in
        h.2 (record { from = i + v.from; char = v.char; stands = (stands_in_whole code xs i e v.from (i + v.from) v.char refl (omega arith) within v.stands).0; begins = omega arith; ends = omega arith }),
  )

  pub cut_of_shard : IsCode code → (ps : List Piece) → IsCutBetween code shard 0 (n - i) ps → IsCutBetween code xs i n (map (piece_moved i) ps)
  cut_of_shard c ps cut = record {
    pieces = all_map (λ x. IsPiece code xs x × (i ≤ x.start) × (x.start < n)) (piece_moved i) ps (λ k d lt.
        let piece = cut.pieces k d lt in
        (to_whole _ _ _ piece.2 piece.0, omega arith, omega (arith, piece.2)));
    all = λ x piece ge lt.
        let part = cut.all (record { start = x.start - i; len = x.len; char = x.char }) (to_part c x.start x.len x.char ge lt piece) (omega arith) (omega arith) in
        let at : i + (x.start - i) ≡ x.start = omega arith in
        contains_map (piece_moved i) ps _ x (ap (λ p. record { start = p; len = x.len; char = x.char }) at) part;
    in_order = λ j k d lt inside.
        let less : k < length ps = omega (arith, length-map ps (piece_moved i)) in
        let order = cut.in_order j k d lt less in
        rw (get_or-map (piece_moved i) ps j d d (omega arith), get_or-map (piece_moved i) ps k d d less) (omega arith);
  }

  -- what follows an offset of the shard decides its kind, if enough elements do
  module _ {E : Type 0} (kind : List ℕ → Option E) (m : ℕ) (decides : (w : List ℕ) → kind (take m w) ≡ kind w) (ahead : e < length xs → n + m ≤ e + 1) where
    take_few : (a b : ℕ) (w : List ℕ) → a ≤ b → take a (take b w) ≡ take a w
    take_few a b w le = grind (arith, common_steps)

    same_kind : (p : ℕ) → p < n - i → kind (drop (i + p) xs) ≡ kind (drop p shard)
    same_kind p lt = elim (cases_lt e (length xs)) [
      | inl short ↦
          let more = ahead short in
          let at : p + (e - i - p) ≡ e - i = omega arith in
          let rest : drop p shard ≡ take (e - i - p) (drop (i + p) xs) = rw at at (drop-take p (e - i - p) (drop i xs)) ∙ ap (take (e - i - p)) (drop-drop p i xs) in
          let few : m ≤ e - i - p = omega arith in
          sym (decides (drop (i + p) xs)) ∙ ap kind (sym (take_few m (e - i - p) (drop (i + p) xs) few)) ∙ ap (λ w. kind (take m w)) (sym rest) ∙ decides (drop p shard)
      | inr whole ↦
          let at : e ≡ length xs = omega arith in
          let rest : shard ≡ drop i xs = ap (slice_range xs i) at ∙ take_rest xs i in
          ap kind (sym (drop-drop p i xs) ∙ ap (drop p) (sym rest))
    ]

    kind_moved : (p len : ℕ) (r : Result ℕ E) → p < n - i → HasKind kind shard (p, r, len) → HasKind kind xs (moved i (p, r, len))
    kind_moved p len (Ok s) lt has = tt
    kind_moved p len (Err k) lt has = same_kind p lt ∙ has

    pub kinds_of_shard : (items : List (Placed E)) → All (λ x. x.0 < n - i) items → All (HasKind kind shard) items → All (HasKind kind xs) (map (moved i) items)
    kinds_of_shard items few has = all_map (HasKind kind xs) (moved i) items (λ k d lt. let x = get_or items k d in kind_moved x.0 x.2 x.1 (few k d lt) (has k d lt))

-- The extent of a shard with `more` elements after it.
record Reach (xs : List ℕ) (i n more : ℕ) : Type 0 where
  end : ℕ
  ordered : n ≤ end
  within : end ≤ length xs
  far : end < length xs → n + more ≤ end
  same : slice_range xs i (n + more) ≡ slice_range xs i end

reach : (xs : List ℕ) (i n more : ℕ) → i ≤ n → n ≤ length xs → Reach xs i n more
reach xs i n more lo le = elim (cases_lt (n + more) (length xs)) [
  | inl short ↦ record { end = n + more; ordered = omega arith; within = omega arith; far = λ _. omega arith; same = refl }
  | inr whole ↦ record { end = length xs; ordered = le; within = omega arith; far = λ less. absurd (omega arith); same = all_of_rest (n + more) whole ∙ sym (all_of_rest (length xs) (omega arith)) }
]
  where
    all_of_rest : (j : ℕ) → length xs ≤ j → slice_range xs i j ≡ drop i xs
    all_of_rest j ge = take_all (j - i) (drop i xs) (omega (arith, length-drop i xs))

module _ {E : Type 0} (code : ℕ → List ℕ) (c : IsCode code) (kind : List ℕ → Option E) (run : List ℕ → List (Placed E)) (is : (w : List ℕ) → IsRun code kind w (run w)) (more : ℕ) where
  -- the items of a shard that begin in it
  abbrev own : List ℕ → ℕ → List (Placed E)
  own w k = filter (λ x. ltb x.0 k) (run w)

  module _ (xs : List ℕ) (i n : ℕ) (lo : i ≤ n) (le : n ≤ length xs) (first : Inside code xs i → ⊥) (last : Inside code xs n → ⊥) where
    far : Reach xs i n more
    far = reach xs i n more lo le

    pub shard_cut : IsCutBetween code xs i n (map piece_of (shard_items run more xs i n))
    shard_cut =
        let w = slice_range xs i far.end in
        let long : length w ≡ far.end - i = shard_len code xs i n far.end lo far.ordered far.within first last in
        let ordered = far.ordered in
        let front = front_of_cut code w (length w) (n - i) (map piece_of (run w)) (omega arith) (is w).cut in
        let mine : IsCutBetween code w 0 (n - i) (map piece_of (own w (n - i))) = subst (IsCutBetween code w 0 (n - i)) (sym (pieces_before (n - i) (run w))) front in
        let moved_on = cut_of_shard code xs i n far.end lo far.ordered far.within first last c (map piece_of (own w (n - i))) mine in
        let whole : IsCutBetween code xs i n (map piece_of (map (moved i) (own w (n - i)))) = subst (IsCutBetween code xs i n) (sym (pieces_moved i (own w (n - i)))) moved_on in
        subst (λ v. IsCutBetween code xs i n (map piece_of (map (moved i) (own v (n - i))))) (sym far.same) whole

    pub shard_kinds : (m : ℕ) → ((w : List ℕ) → kind (take m w) ≡ kind w) → m ≤ more + 1 → All (HasKind kind xs) (shard_items run more xs i n)
    shard_kinds m decides enough =
        let w = slice_range xs i far.end in
        let ahead : far.end < length xs → n + m ≤ far.end + 1 = λ short. (let g = far.far short in omega arith) in
        let few : All (λ x. x.0 < n - i) (own w (n - i)) = λ k d lt. ltb-true _ (n - i) (filter_passes (λ x. ltb x.0 (n - i)) (run w) k d lt) in
        let has = All-filter (λ x. ltb x.0 (n - i)) (HasKind kind w) (run w) (is w).kinds in
        subst (λ v. All (HasKind kind xs) (map (moved i) (own v (n - i)))) (sym far.same)
        (kinds_of_shard code xs i n far.end lo far.ordered far.within first last kind m decides ahead (own w (n - i)) few has)

  within_of : (xs : List ℕ) (i : ℕ) (places : List ℕ) → AreOutside code xs i places → i ≤ length xs
  within_of xs i [] h = h
  within_of xs i (n ∷ places) h = let rest = within_of xs n places h.2 in omega (arith, h.0)

  joined_cut : (xs : List ℕ) (i : ℕ) (places : List ℕ) → (Inside code xs i → ⊥) → AreOutside code xs i places → IsCutBetween code xs i (length xs) (map piece_of (joined_items run more xs i places))
  joined_cut xs i [] out h = shard_cut xs i (length xs) h (omega arith) out (outside_end code xs)
  joined_cut xs i (n ∷ places) out h =
      let within = within_of xs n places h.2 in
      rw (map_append piece_of (shard_items run more xs i n) (joined_items run more xs n places))
      (cut_append code xs i n (length xs) _ _ h.0 within (shard_cut xs i n h.0 within out h.1) (joined_cut xs n places h.1 h.2))

  joined_kinds : (m : ℕ) → ((w : List ℕ) → kind (take m w) ≡ kind w) → m ≤ more + 1 → (xs : List ℕ) (i : ℕ) (places : List ℕ) → (Inside code xs i → ⊥) → AreOutside code xs i places → All (HasKind kind xs) (joined_items run more xs i places)
  joined_kinds m decides enough xs i [] out h = shard_kinds xs i (length xs) h (omega arith) out (outside_end code xs) m decides enough
  joined_kinds m decides enough xs i (n ∷ places) out h =
      let within = within_of xs n places h.2 in
      All-append (HasKind kind xs) (shard_items run more xs i n) (joined_items run more xs n places) (shard_kinds xs i n h.0 within out h.1 m decides enough) (joined_kinds m decides enough xs n places h.1 h.2)

  pub joined_pieces : (xs places : List ℕ) → AreOutside code xs 0 places → map piece_of (joined_items run more xs 0 places) ≡ map piece_of (run xs)
  joined_pieces xs places h = cut_is_unique code c xs _ _ (joined_cut xs 0 places (outside_front code xs) h) (is xs).cut

  pub items_join : (m : ℕ) → ((w : List ℕ) → kind (take m w) ≡ kind w) → m ≤ more + 1 → ShardItemsJoin code run more
  items_join m decides enough xs places h =
      run_unique code kind c xs (joined_items run more xs 0 places) (run xs)
      (record { cut = joined_cut xs 0 places (outside_front code xs) h; kinds = joined_kinds m decides enough xs 0 places (outside_front code xs) h }) (is xs)

-- Items that pass a test that does not depend on the offset.
module _ {E : Type 0} (q : Result ℕ E → Bool) (run : List ℕ → List (Placed E)) (more : ℕ) where
  abbrev kept : List ℕ → List (Placed E)
  kept w = filter (λ x. q x.1) (run w)

  filters_change : (p r : Placed E → Bool) (items : List (Placed E)) → filter p (filter r items) ≡ filter r (filter p items)
  filters_change p r [] = refl
  filters_change p r (x ∷ items) = by (p x) (r x) refl refl (filters_change p r items)
    where
      by : (b d : Bool) → p x ≡ b → r x ≡ d → filter p (filter r items) ≡ filter r (filter p items)
          → filter p (cond (r x) (x ∷ filter r items) (filter r items)) ≡ filter r (cond (p x) (x ∷ filter p items) (filter p items))
      by true true e f rest = rw (e, f) (rw e (ap (λ ys. x ∷ ys) rest))
      by true false e f rest = rw (e, f) rest
      by false true e f rest = rw (e, f) (rw e rest)
      by false false e f rest = rw (e, f) rest

  filter_moved : (i : ℕ) (items : List (Placed E)) → map (moved i) (filter (λ x. q x.1) items) ≡ filter (λ x. q x.1) (map (moved i) items)
  filter_moved i [] = refl
  filter_moved i (x ∷ items) = by (q x.1) (filter_moved i items)
    where
      by : (b : Bool) → map (moved i) (filter (λ x. q x.1) items) ≡ filter (λ x. q x.1) (map (moved i) items)
          → map (moved i) (cond b (x ∷ filter (λ x. q x.1) items) (filter (λ x. q x.1) items)) ≡ cond b (moved i x ∷ filter (λ x. q x.1) (map (moved i) items)) (filter (λ x. q x.1) (map (moved i) items))
      by true e = ap (λ ys. moved i x ∷ ys) e
      by false e = e

  kept_shard : (xs : List ℕ) (i n : ℕ) → shard_items kept more xs i n ≡ filter (λ x. q x.1) (shard_items run more xs i n)
  kept_shard xs i n =
      let w = run (slice_range xs i (n + more)) in
      ap (map (moved i)) (filters_change (λ x. ltb x.0 (n - i)) (λ x. q x.1) w) ∙ filter_moved i (filter (λ x. ltb x.0 (n - i)) w)

  kept_joined : (xs : List ℕ) (i : ℕ) (places : List ℕ) → joined_items kept more xs i places ≡ filter (λ x. q x.1) (joined_items run more xs i places)
  kept_joined xs i [] = kept_shard xs i (length xs)
  kept_joined xs i (n ∷ places) = ap₂ (λ ys zs. ys ++ zs) (kept_shard xs i n) (kept_joined xs n places) ∙ sym (filter-append (λ x. q x.1) (shard_items run more xs i n) (joined_items run more xs n places))

  pub kept_join : (code : ℕ → List ℕ) → ShardItemsJoin code run more → ShardItemsJoin code kept more
  kept_join code join xs places h = kept_joined xs 0 places ∙ ap (filter (λ x. q x.1)) (join xs places h)

-- Bytes, of which four decide, and so three after a fault.

pub pieces_join : ShardPiecesJoin utf8 pieces
pieces_join = joined_pieces utf8 utf8_is_code fault_kind pieces pieces_are_the_run 0

pub bytes_join : ShardItemsJoin utf8 pieces 3
bytes_join = items_join utf8 utf8_is_code fault_kind pieces pieces_are_the_run 3 4 four_bytes_decide (omega arith)

pub faults_join : ShardItemsJoin utf8 faults 3
faults_join = kept_join is_err pieces 3 utf8 bytes_join
