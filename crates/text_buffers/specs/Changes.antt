-- The pieces of a text that an edit changes.
use Rattle.std.specs.Prelude.{◌≡◌, ℕ, ◌+◌, ◌-◌, List, length, min, take, drop, map, slice_range}
use Rattle.encode_unicode.specs.Pieces.{pieces}
use Rattle.text_buffers.specs.declared.buffers.changes.Change.{Change}
use Rattle.text_buffers.specs.declared.buffers.counts.Counts.{Counts}
use Rattle.text_buffers.specs.Counts.{counts_of}
use Rattle.text_runs.specs.PieceBoundaries.{IsFirstBetween, IsLastBetween}
use Rattle.text_runs.specs.Tables.{IsSplitAt, moved_item}

-- The bytes xs became ys when those from the offset s to e were replaced. The window around these begins at the
-- offset p, between two pieces: at s - 3 or just before, and it ended at e + 3 or just after. `gone` and `come` are
-- its counts before and after.
pub record IsRecount (xs ys : List ℕ) (s e p : ℕ) (gone come : Counts) : Type 0 where
  pub begins : IsLastBetween xs (s - 3) p
  pub ends : IsFirstBetween xs (min (length xs) (e + 3)) (p + gone.bytes)
  pub went : gone ≡ counts_of (slice_range xs p (p + gone.bytes))
  pub came : come ≡ counts_of (slice_range ys p (p + come.bytes))
  pub long : length ys + gone.bytes ≡ length xs + come.bytes

-- The bytes xs became ys when those from s to e were replaced, and the number of the change is that of the
-- pieces before the window. These are as they were, and the pieces after it moved.
pub record IsChange (xs ys : List ℕ) (s e : ℕ) (c : Change) : Type 0 where
  pub window : IsRecount xs ys s e c.offset c.gone c.come
  pub number : IsSplitAt (pieces xs) c.offset c.number
  pub front : take c.number (pieces ys) ≡ take c.number (pieces xs)
  pub rest :
      drop (c.number + c.come.pieces) (pieces ys)
      ≡ map (moved_item (c.offset + c.gone.bytes) (c.offset + c.come.bytes)) (drop (c.number + c.gone.pieces) (pieces xs))
