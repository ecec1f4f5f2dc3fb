-- Numbered elements of a text, counted by chunks.
use Rattle.std.proofs.Common.{◌≡◌, ℕ, ◌+◌, ◌<◌, List, [], length, get_or, take, arith, refl, ap, ◌∙◌}
use Rattle.std.specs.List.{concat}
use Rattle.text_buffers.specs.declared.buffers.counts.Counts.{Counts}
use Rattle.text_buffers.specs.declared.buffers.counts.Measure.{Measure}
use Rattle.text_buffers.specs.declared.buffers.counts.Measure.TheVariants.{Bytes, Pieces, LineFeeds}
use Rattle.text_buffers.specs.Chunks.{EndOutside}
use Rattle.text_buffers.specs.Counts.{counts_of, sum_of}
use Rattle.text_buffers.specs.Measures.{measure_of}
use Rattle.text_buffers.proofs.ChunkEditLemmas.{chunk_counts}
use Rattle.text_runs.proofs.JoinedCounts.{pieces_few}

pub measure_of_sum : (m : Measure) (a b : Counts) → measure_of m (sum_of a b) ≡ measure_of m a + measure_of m b
measure_of_sum Bytes a b = refl
measure_of_sum Pieces a b = refl
measure_of_sum LineFeeds a b = refl

-- the count of no bytes
pub measure_none : (m : Measure) → 0 ≡ measure_of m (counts_of [])
measure_none Bytes = refl
measure_none Pieces = let few = pieces_few [] in omega arith
measure_none LineFeeds = refl

-- the count with one more chunk
pub measure_more : (chunks : List (List ℕ)) (m : Measure) (k : ℕ) (x : List ℕ) → EndOutside chunks → k < length chunks → x ≡ get_or chunks k x
    → measure_of m (counts_of (concat (take (k + 1) chunks))) ≡ measure_of m (counts_of (concat (take k chunks))) + measure_of m (counts_of x)
measure_more chunks m k x ends lt is = ap (measure_of m) (chunk_counts chunks k x ends lt is) ∙ measure_of_sum m (counts_of (concat (take k chunks))) (counts_of x)
