-- The numbers of bytes, pieces, faults and line feeds of some bytes.
use Rattle.std.specs.Prelude.{ℕ, ◌+◌, ◌-◌, ◌^◌, ◌<◌, ◌≤◌, List, length, count_by, nat_eq}
use Rattle.encode_unicode.specs.Pieces.{pieces}
use Rattle.text_runs.specs.ForwardRuns.{faulty_item_count}
use Rattle.text_buffers.specs.declared.buffers.counts.Counts.{Counts}

-- the counts of the bytes
abbrev pub counts_of : List ℕ → Counts
counts_of xs = record {
  bytes = length xs;
  pieces = length (pieces xs);
  faults = faulty_item_count (pieces xs);
  line_feeds = count_by (λ x. nat_eq x 0x0A) xs;
}

-- the counts of two parts together
abbrev pub sum_of : Counts → Counts → Counts
sum_of a b = record { bytes = a.bytes + b.bytes; pieces = a.pieces + b.pieces; faults = a.faults + b.faults; line_feeds = a.line_feeds + b.line_feeds }

-- the counts of a whole of which one part was replaced by another
abbrev pub exchange_of : Counts → Counts → Counts → Counts
exchange_of all gone come = record {
  bytes = all.bytes - gone.bytes + come.bytes;
  pieces = all.pieces - gone.pieces + come.pieces;
  faults = all.faults - gone.faults + come.faults;
  line_feeds = all.line_feeds - gone.line_feeds + come.line_feeds;
}

-- each is a `usize`
pub record IsSmall (c : Counts) : Type 0 where
  pub bytes : c.bytes < 2 ^ 64
  pub pieces : c.pieces < 2 ^ 64
  pub faults : c.faults < 2 ^ 64
  pub line_feeds : c.line_feeds < 2 ^ 64

-- no count is above its counterpart in the whole
pub record AreAmong (c all : Counts) : Type 0 where
  pub bytes : c.bytes ≤ all.bytes
  pub pieces : c.pieces ≤ all.pieces
  pub faults : c.faults ≤ all.faults
  pub line_feeds : c.line_feeds ≤ all.line_feeds
