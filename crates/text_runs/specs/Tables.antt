-- A table of the pieces of some bytes, of which a part is replaced.
use Rattle.std.specs.List.{AllWithin, HoldsAt, splice}
use Rattle.std.specs.Prelude.{◌≡◌, ℕ, ◌+◌, ◌-◌, ◌^◌, ◌<◌, ◌≤◌, ◌↔◌, List, length, take, drop, All, Contains}
use Rattle.utf_base.specs.Code.{utf8}
use Rattle.utf_base.specs.Piece.{Inside, Piece, IsPiece, IsCutBetween}
use Rattle.encode_unicode.specs.Window.{Item, Placed}
use Rattle.text_runs.specs.ForwardRuns.{IsForwardRun}

-- what contracts see of a table
pub record Table : Type 0 where
  pub bytes : List ℕ
  pub pieces : List Item

-- an item whose offset is moved from a to b
abbrev pub moved_item : ℕ → ℕ → Item → Item
moved_item a b x = (b + (x.0 - a), x.1, x.2)

-- If the bytes from the offset s to e were replaced, and the new ones end at t: both lists have the same items that
-- begin at s - 4 or before, and those of the first that begin at e + 3 or after are in the second at their new
-- offsets.
abbrev pub StayAround : List Item → List Item → ℕ → ℕ → ℕ → Type 0
StayAround items others s e t =
    (x : Item)
    → (x.0 + 4 ≤ s → Contains items x ↔ Contains others x)
    × (e + 3 ≤ x.0 → Contains items x ↔ Contains others (moved_item e t x))

-- the number of steps grew by one or more for each piece of the bytes that begins from the offset i on and before j
abbrev pub StepForEach : List ℕ → ℕ → ℕ → ℕ → ℕ → Type 0
StepForEach xs i j before after = (ps : List Piece) → IsCutBetween utf8 xs i j ps → before + length ps ≤ after

-- The parts of a replacement.

-- the items were the pieces of some bytes, which became ys when those from the offset s to e were replaced by others,
-- which end at t
pub record WereReplaced (ys : List ℕ) (s e t : ℕ) (items : List Item) : Type 0 where
  pub old : List ℕ
  pub new : List ℕ
  pub ordered : s ≤ e
  pub within : e ≤ length old
  pub small : length old + 3 < 2 ^ 64
  pub ends : t ≡ s + length new
  pub replaced : ys ≡ splice old s e new
  pub run : IsForwardRun old items

-- the first k items begin before the offset m, and the others do not
pub record IsSplitAt {E : Type 0} (items : List (Placed E)) (m k : ℕ) : Type 0 where
  pub within : k ≤ length items
  pub before : AllWithin (λ x. x.0 < m) items 0 k
  pub following : AllWithin (λ x. m ≤ x.0) items k (length items)

-- the offset at which the first k of the items end, or 0 if k is 0
abbrev pub EndsAt : List Item → ℕ → ℕ → Type 0
EndsAt items k from = (k ≡ 0 → from ≡ 0) × (0 < k → HoldsAt (λ x. from ≡ x.0 + x.2) items (k - 1))

-- The pieces of ys replace the items: the first k stay, those from the r-th on move, and between them are the
-- pieces that are decoded from the offset `from` on.
pub record IsSplice (ys : List ℕ) (s e t : ℕ) (items : List Item) (k r from : ℕ) : Type 0 where
  pub kept : IsSplitAt items (s - 3) k
  pub moved : IsSplitAt items (e + 3) r
  pub ordered : k ≤ r
  pub fits : All (λ x. t + (x.0 - e) ≤ length ys) (drop r items)
  pub within : from ≤ length ys
  pub reached : s - 3 ≤ from
  pub outside : Inside utf8 ys from → ⊥
  pub none : (x : Piece) → IsPiece utf8 ys x → s - 3 ≤ x.start → x.start < from → ⊥

-- the items became the pieces of ys
pub record IsRenewed (ys : List ℕ) (s e t : ℕ) (items others : List Item) (steps_before steps : ℕ) : Type 0 where
  pub run : IsForwardRun ys others
  pub around : StayAround items others s e t
  pub least : StepForEach ys (s - 3) (t + 3) steps_before steps
  pub most : steps ≤ steps_before + (t - s + 6)

-- what followed one offset follows another, and what preceded both is unchanged
pub record IsRestMoved {X : Type 0} (old new : List X) (from to : ℕ) : Type 0 where
  pub front : (k : ℕ) → k ≤ from → k ≤ to → take k new ≡ take k old
  pub rest : drop to new ≡ drop from old
  pub long : length new + from ≡ length old + to
