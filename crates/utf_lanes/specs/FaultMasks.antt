-- The masks of a window of 64 bytes: each byte is a bit.
use Rattle.std.specs.Prelude.{◌≡◌, ◌↔◌, ℕ, ◌+◌, ◌<◌, ◌≤◌, List, slice_index, slice_range, None}
use Rattle.std.specs.Int.{bit_at}
use Rattle.utf_base.specs.Code.{utf8}
use Rattle.utf_base.specs.Piece.{Inside, IsPieceAt}
use Rattle.utf_base.specs.Subparts.{IsFrontOfCode}
use Rattle.utf_lanes.specs.TextBlocks.{IsContinuation, MayBegin}

-- of the first n bits, exactly those are set whose number has the property
abbrev pub AreSetWhere : ℕ → ℕ → (ℕ → Type 0) → Type 0
AreSetWhere n mask holds = (k : ℕ) → k < n → bit_at mask k ≡ 1 ↔ holds k

-- The five masks of the first n bytes, by each byte and the one after it.
pub record AreTold (n : ℕ) (xs : List ℕ) (b c o t f : ℕ) : Type 0 where
  pub begins : AreSetWhere n b (λ k. MayBegin (slice_index xs k) (slice_index xs (k + 1)))
  pub next : AreSetWhere n c (λ k. IsContinuation (slice_index xs (k + 1)))
  pub others : AreSetWhere n o (λ k. 0x80 ≤ slice_index xs k)
  pub three : AreSetWhere n t (λ k. 0xE0 ≤ slice_index xs k)
  pub four : AreSetWhere n f (λ k. 0xF0 ≤ slice_index xs k)

-- the byte at k is a fault, and continues the front of a code that an earlier byte begins
pub record GoesOn (xs : List ℕ) (k : ℕ) : Type 0 where
  pub fault : IsPieceAt utf8 xs k 1 None
  pub from : ℕ
  pub before : from < k
  pub front : IsFrontOfCode utf8 (slice_range xs from (k + 1))

-- The byte at k, as a lead byte, has all its continuation bytes.
pub record Continues (xs : List ℕ) (k : ℕ) : Type 0 where
  pub second : IsContinuation (slice_index xs (k + 1))
  pub third : 0xE0 ≤ slice_index xs k → IsContinuation (slice_index xs (k + 2))
  pub fourth : 0xF0 ≤ slice_index xs k → IsContinuation (slice_index xs (k + 3))

-- A piece ends after len bytes; the masks have the faults before that, and those that continue a maximal subpart.
pub record AreJudged (xs : List ℕ) (len wide wrong later none : ℕ) : Type 0 where
  pub least : 61 ≤ len
  pub most : len ≤ 64
  pub ends : Inside utf8 xs len → ⊥
  pub parts : GoesOn xs len → ⊥
  pub faults : AreSetWhere 64 wrong (λ k. (k < len) × IsPieceAt utf8 xs k 1 None)
  pub inner : AreSetWhere 64 later (λ k. (k < len) × GoesOn xs k)
  pub others : AreSetWhere 64 wide (λ k. 0x80 ≤ slice_index xs k)
  pub broken : (k : ℕ) → k < len → 0xC2 ≤ slice_index xs k → bit_at none k ≡ 0 ↔ Continues xs k
