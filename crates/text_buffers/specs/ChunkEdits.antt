-- An edit, and the chunks that it reaches.
use Rattle.std.specs.Prelude.{◌≡◌, ℕ, ◌+◌, ◌≤◌, ◌⊎◌, List, length}
use Rattle.std.specs.List.{concat}
use Rattle.utf_base.specs.Code.{utf8}
use Rattle.utf_base.specs.Piece.{Inside}
use Rattle.text_buffers.specs.declared.buffers.edits.Edit.{Edit}
use Rattle.text_buffers.specs.Chunks.{IsSpot}

-- The bytes from the offset s to e lie in a window from a to b: no code covers either of its ends, and each is three
-- bytes away from them, or is an end of the whole.
pub record IsWindow (xs : List ℕ) (s e a b : ℕ) : Type 0 where
  pub begins : Inside utf8 xs a → ⊥
  pub ends : Inside utf8 xs b → ⊥
  pub before : (a ≡ 0) ⊎ (a + 3 ≤ s)
  pub following : (b ≡ length xs) ⊎ (e + 3 ≤ b)
  pub within : b ≤ length xs

-- the chunks that an edit reaches; the first of them, and the first after them, begin at the ends of a window
pub record Surrounds (chunks : List (List ℕ)) (x : Edit) : Type 0 where
  pub first : IsSpot chunks x.first.number x.first.place
  pub last : IsSpot chunks x.last.number x.last.place
  pub in_order : x.first.number ≤ x.last.number
  pub ordered : x.start ≤ x.end
  pub within : x.end ≤ length (concat chunks)
  pub before : (x.first.place ≡ 0) ⊎ (x.first.place + 3 ≤ x.start)
  pub following : (x.last.place ≡ length (concat chunks)) ⊎ (x.end + 3 ≤ x.last.place)
