-- Rows of 256 chunks of a text, and their counts.
use Rattle.std.specs.Prelude.{◌≡◌, ℕ, ◌+◌, ◌*◌, ◌<◌, ◌≤◌, ◌⊎◌, List, length, slice_index_or, slice_range, take}
use Rattle.std.specs.List.{concat}
use Rattle.text_buffers.specs.declared.buffers.counts.Counts.{Counts}
use Rattle.text_buffers.specs.declared.buffers.rows.Mark.{Mark}
use Rattle.text_buffers.specs.Counts.{counts_of}

-- each sum is the counts of a whole row: the first that of the first 256 chunks, and so on
pub record AreSums (chunks : List (List ℕ)) (sums : List Counts) : Type 0 where
  pub within : 256 * length sums ≤ length chunks
  pub counted : (r : ℕ) (d : Counts) → r < length sums → slice_index_or sums r d ≡ counts_of (concat (slice_range chunks (256 * r) (256 * r + 256)))

-- each sum is the counts of a whole row, except for the rows from i up to j
pub record AreSumsBut (chunks : List (List ℕ)) (sums : List Counts) (i j : ℕ) : Type 0 where
  pub within : 256 * length sums ≤ length chunks
  pub counted : (r : ℕ) (d : Counts) → r < length sums → (r < i) ⊎ (j ≤ r) → slice_index_or sums r d ≡ counts_of (concat (slice_range chunks (256 * r) (256 * r + 256)))

-- the chunk with that number, or the end if there is none, and the counts of the chunks before it
pub record IsMark (chunks : List (List ℕ)) (m : Mark) : Type 0 where
  pub within : m.number ≤ length chunks
  pub before : m.before ≡ counts_of (concat (take m.number chunks))

-- the chunk with that number is the first of a row that has no fault, whose length is `bytes`
pub record IsCleanRow (sums : List Counts) (number bytes : ℕ) : Type 0 where
  pub row : ℕ
  pub begins : number ≡ 256 * row
  pub some : row < length sums
  pub long : (d : Counts) → bytes ≡ (slice_index_or sums row d).bytes
  pub clean : (d : Counts) → (slice_index_or sums row d).faults ≡ 0

-- no row whose sum is known begins with that chunk and has no fault
abbrev pub HasNoCleanRow : List Counts → ℕ → Type 0
HasNoCleanRow sums number = (bytes : ℕ) → ¬ (IsCleanRow sums number bytes)
