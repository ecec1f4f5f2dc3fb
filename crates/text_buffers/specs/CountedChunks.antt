-- Chunks of a text, and their counts.
use Rattle.std.specs.Prelude.{◌≡◌, ℕ, ◌/◌, ◌^◌, ◌<◌, ◌≤◌, List, length, All}
use Rattle.std.specs.List.{concat}
use Rattle.text_buffers.specs.declared.buffers.counts.Counts.{Counts}
use Rattle.text_buffers.specs.Chunks.{EndOutside}
use Rattle.text_buffers.specs.Counts.{counts_of}
use Rattle.text_buffers.specs.Rows.{AreSums}

-- no code covers the end of a chunk, and a `usize` can count the bytes of all
pub record AreChunks (chunks : List (List ℕ)) : Type 0 where
  pub ends : EndOutside chunks
  pub small : length (concat chunks) < 2 ^ 64

-- Chunks with their sums and counts. A chunk has at most 2048 bytes, so an edit moves and counts no more than these.
-- Each whole row has its sum, so a search iterates over rows, and then over at most 256 chunks.
pub record AreCounted (chunks : List (List ℕ)) (sums : List Counts) (counts : Counts) : Type 0 where
  pub held : AreChunks chunks
  pub few : All (λ x. length x ≤ 2048) chunks
  pub counted : counts ≡ counts_of (concat chunks)
  pub rows : AreSums chunks sums
  pub all : length sums ≡ length chunks / 256
