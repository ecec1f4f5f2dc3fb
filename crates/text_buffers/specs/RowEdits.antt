-- Chunks that replaced others, while the sums of their rows are still the previous ones.
use Rattle.std.specs.Prelude.{◌≡◌, ℕ, ◌/◌, ◌≤◌, List, length, slice_range}
use Rattle.std.specs.List.{concat, splice}
use Rattle.text_buffers.specs.declared.buffers.counts.Counts.{Counts}
use Rattle.text_buffers.specs.declared.buffers.sums.Exchange.{Exchange}
use Rattle.text_buffers.specs.CountedChunks.{AreChunks}
use Rattle.text_buffers.specs.Counts.{counts_of}
use Rattle.text_buffers.specs.Rows.{AreSums}

-- chunks replaced others, as the exchange says; the sums are still those of the old ones
pub record WereExchanged (chunks : List (List ℕ)) (sums : List Counts) (x : Exchange) : Type 0 where
  pub old : List (List ℕ)
  pub made : List (List ℕ)
  pub sums_before : AreSums old sums
  pub all_before : length sums ≡ length old / 256
  pub held_before : AreChunks old
  pub held : AreChunks chunks
  pub ordered : x.first ≤ x.last
  pub within : x.last ≤ length old
  pub many : x.count ≡ length made
  pub exchanged : chunks ≡ splice old x.first x.last made
  pub went : x.gone ≡ counts_of (concat (slice_range old x.first x.last))
  pub came : x.come ≡ counts_of (concat made)
