-- Parts of a text, each of which ends at an offset that no code covers.
use Rattle.std.specs.Prelude.{◌≡◌, ℕ, ◌≤◌, List, length, take}
use Rattle.std.specs.List.{concat}
use Rattle.utf_base.specs.Code.{utf8}
use Rattle.utf_base.specs.Piece.{Inside}

-- no code of the joined chunks covers the end of one
pub record EndOutside (chunks : List (List ℕ)) : Type 0 where
  pub outside : (k : ℕ) → Inside utf8 (concat chunks) (length (concat (take k chunks))) → ⊥

-- the chunk with that number, or the end if there is none, begins at the offset
pub record IsSpot (chunks : List (List ℕ)) (k place : ℕ) : Type 0 where
  pub within : k ≤ length chunks
  pub begins : place ≡ length (concat (take k chunks))
