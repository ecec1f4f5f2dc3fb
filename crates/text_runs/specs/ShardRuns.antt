-- The decoders' items for the shards of a list, which is cut at offsets that no code covers: joined, they are
-- the items of the whole.
use Rattle.std.specs.Prelude.{◌≡◌, ℕ, ◌+◌, ◌-◌, ◌≤◌, List, [], ◌∷◌, ◌++◌, count_by, drop, filter, length, map, nat_eq, nat_lt, slice_range}
use Rattle.utf_base.specs.Piece.{Inside}
use Rattle.encode_unicode.specs.Pieces.{pieces}
use Rattle.encode_unicode.specs.Window.{Item}
use Rattle.text_runs.specs.ForwardRuns.{is_fault}
use Rattle.text_runs.specs.Items.{Placed, piece_of}

-- no code covers any of these offsets, and they are in ascending order from i on
abbrev pub AreOutside : (ℕ → List ℕ) → List ℕ → ℕ → List ℕ → Type 0
AreOutside code xs i [] = i ≤ length xs
AreOutside code xs i (n ∷ places) = (i ≤ n) × (¬ Inside code xs n) × AreOutside code xs n places

-- an item of a shard that begins at i, at its offset in the whole list
abbrev pub moved : {E : Type 0} → ℕ → Placed E → Placed E
moved i x = (i + x.0, x.1, x.2)

-- the items of a run over the shard from i to j, with `more` elements after it: those that begin in the shard
abbrev pub shard_items : {E : Type 0} → (List ℕ → List (Placed E)) → ℕ → List ℕ → ℕ → ℕ → List (Placed E)
shard_items run more xs i j = map (moved i) (filter (λ x. nat_lt x.0 (j - i)) (run (slice_range xs i (j + more))))

-- the items of all shards from i on that end at these offsets, one after another
abbrev pub joined_items : {E : Type 0} → (List ℕ → List (Placed E)) → ℕ → List ℕ → ℕ → List ℕ → List (Placed E)
joined_items run more xs i [] = shard_items run more xs i (length xs)
joined_items run more xs i (n ∷ places) = shard_items run more xs i n ++ joined_items run more xs n places

-- shards give the items of the whole, with their offsets and the kinds of faults, if each is given with
-- `more` elements after it
abbrev pub ShardItemsJoin : {E : Type 0} → (ℕ → List ℕ) → (List ℕ → List (Placed E)) → ℕ → Type 0
ShardItemsJoin code run more = (xs places : List ℕ) → AreOutside code xs 0 places → joined_items run more xs 0 places ≡ run xs

-- separately they give its pieces: characters and faults with their offsets, whose kinds may differ
abbrev pub ShardPiecesJoin : {E : Type 0} → (ℕ → List ℕ) → (List ℕ → List (Placed E)) → Type 0
ShardPiecesJoin code run = (xs places : List ℕ) → AreOutside code xs 0 places → map piece_of (joined_items run 0 xs 0 places) ≡ map piece_of (run xs)

-- the sum of a count over the shards
abbrev pub sum_of_shards : (List ℕ → ℕ) → List ℕ → ℕ → List ℕ → ℕ
sum_of_shards count xs i [] = count (drop i xs)
sum_of_shards count xs i (n ∷ places) = count (slice_range xs i n) + sum_of_shards count xs n places

-- the sum over the shards is the count of the whole
abbrev pub ShardCountsAdd : (ℕ → List ℕ) → (List ℕ → ℕ) → Type 0
ShardCountsAdd code count = (xs places : List ℕ) → AreOutside code xs 0 places → sum_of_shards count xs 0 places ≡ count xs

-- the items of some bytes that are faults, with their offsets and kinds
abbrev pub faults : List ℕ → List Item
faults xs = filter is_fault (pieces xs)

-- the number of line feeds in some bytes
abbrev pub line_feed_count : List ℕ → ℕ
line_feed_count xs = count_by (λ b. nat_eq b 10) xs
