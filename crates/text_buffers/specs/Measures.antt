-- Chunks of a text whose elements are numbered.
use Rattle.std.specs.Prelude.{◌≡◌, ℕ, ◌+◌, ◌<◌, ◌≤◌, ◌⊎◌, List, length, take, HoldsAt}
use Rattle.std.specs.List.{concat}
use Rattle.text_buffers.specs.declared.buffers.counts.Counts.{Counts}
use Rattle.text_buffers.specs.declared.buffers.measures.Found.{Found}
use Rattle.text_buffers.specs.declared.buffers.counts.Measure.{Measure}
use Rattle.text_buffers.specs.declared.buffers.counts.Measure.TheVariants.{Bytes, Pieces, LineFeeds}
use Rattle.text_buffers.specs.Chunks.{IsSpot}
use Rattle.text_buffers.specs.Counts.{counts_of}

-- the count of the numbered elements
abbrev pub measure_of : Measure → Counts → ℕ
measure_of Bytes c = c.bytes
measure_of Pieces c = c.pieces
measure_of LineFeeds c = c.line_feeds

-- the chunk that was found has the element with that number
pub record HasNumber (chunks : List (List ℕ)) (m : Measure) (number : ℕ) (f : Found) : Type 0 where
  pub spot : IsSpot chunks f.spot.number f.spot.place
  pub some : f.spot.number < length chunks
  pub before : f.before ≡ measure_of m (counts_of (concat (take f.spot.number chunks)))
  pub from : f.before ≤ number
  pub here : HoldsAt (λ x. number < f.before + measure_of m (counts_of x)) chunks f.spot.number

-- Of the chunks from number k on, one of the first 256 has the element with that number, or there are no
-- others.
abbrev pub IsNear : List (List ℕ) → Measure → ℕ → ℕ → Type 0
IsNear chunks m number k = (length chunks ≤ k + 256) ⊎ (number < measure_of m (counts_of (concat (take (k + 256) chunks))))
