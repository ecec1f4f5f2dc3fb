-- Offsets where bytes may be cut into shards, each of which is transcoded separately, and the joined outputs
-- of the shards.
use Rattle.std.specs.Prelude.{◌≡◌, ℕ, ◌+◌, ◌≤◌, Bool, if◌then◌else◌, nat_lt, Option, List, [], ◌∷◌, ◌++◌, length, take, drop, slice_range}
use Rattle.std.specs.List.{concat}
use Rattle.utf_base.specs.Code.{utf8}
use Rattle.utf_base.specs.Subparts.{IsPart}
use Rattle.recoding.specs.declared.form.Form.{Form}
use Rattle.recoding.specs.TextForms.{text_form}
pub use Rattle.recoding.specs.TextForms.{InsidePart, IsUnitsShardEnd}
use Rattle.recoding.specs.Boundaries.{IsBoundary}
use Rattle.recoding.specs.LossyBytes.{lossy}
use Rattle.recoding.specs.Lossy.{IsLossy}
use Rattle.recoding.specs.Recoded.{IsRecoded}
use Rattle.recoding.specs.Repaired.{IsRepaired}
use Rattle.recoding.specs.Strict.{Transcodes}

-- a shard may end at the offset: it is inside no character and inside no maximal subpart
abbrev pub IsShardEnd : Form → List ℕ → ℕ → Type 0
IsShardEnd from = (text_form from).is_shard_end

-- a part of n bytes begins these bytes of UTF-8, which nothing follows: a character, or a maximal subpart
abbrev pub BeginsPart : List ℕ → ℕ → Type 0
BeginsPart bytes n = (a : Option ℕ) × IsPart utf8 bytes 0 n a

-- n is the last offset, up to `at`, that is inside no part of the bytes
pub record IsLastOutsidePart (bytes : List ℕ) (at n : ℕ) : Type 0 where
  pub before : n ≤ at
  pub outside : ¬ (InsidePart utf8 bytes n)
  pub last : (m : ℕ) → m ≤ at → ¬ (InsidePart utf8 bytes m) → m ≤ n

-- n is the last offset of bytes of units, up to `at`, that is inside no unit and no part
pub record IsLastUnitsShardEnd (high_first : Bool) (bytes : List ℕ) (at n : ℕ) : Type 0 where
  pub before : n ≤ at
  pub outside : IsUnitsShardEnd high_first bytes n
  pub last : (m : ℕ) → m ≤ at → IsUnitsShardEnd high_first bytes m → m ≤ n

-- the output for the bytes, with one U+FFFD for each maximal subpart, is that for the first n, followed by that for
-- the others
abbrev pub IsLossyApart : Form → List ℕ → ℕ → Type 0
IsLossyApart from bytes n = (to : Form) → lossy from to bytes ≡ lossy from to (take n bytes) ++ lossy from to (drop n bytes)

-- Shards.

-- the bytes from the offset i on, cut at these offsets
abbrev pub shards : List ℕ → ℕ → List ℕ → List (List ℕ)
shards bytes i [] = drop i bytes ∷ []
shards bytes i (n ∷ places) = slice_range bytes i n ∷ shards bytes n places

-- a property holds for each of these offsets, which are in ascending order from i on
abbrev pub AreEach : (ℕ → Type 0) → ℕ → ℕ → List ℕ → Type 0
AreEach IsEnd len i [] = i ≤ len
AreEach IsEnd len i (n ∷ places) = (i ≤ n) × IsEnd n × AreEach IsEnd len n places

abbrev pub AreBoundaries : Form → List ℕ → List ℕ → Type 0
AreBoundaries from bytes places = AreEach (IsBoundary from bytes) (length bytes) 0 places

abbrev pub AreShardEnds : Form → List ℕ → List ℕ → Type 0
AreShardEnds from bytes places = AreEach (IsShardEnd from bytes) (length bytes) 0 places

-- each part, transcoded separately, has the result at the same index
abbrev pub EachBecomes : {A : Type 0} → (List ℕ → A → Type 0) → List (List ℕ) → List A → Type 0
EachBecomes becomes [] [] = Unit {0}
EachBecomes becomes [] (r ∷ results) = ⊥
EachBecomes becomes (part ∷ parts) [] = ⊥
EachBecomes becomes (part ∷ parts) (r ∷ results) = becomes part r × EachBecomes becomes parts results

-- Strict transcoding: up to the first fault.

-- the output for some bytes, and the offset of their first fault, or their length
pub record StrictResult : Type 0 where
  pub out : List ℕ
  pub read : ℕ

-- The first fault begins at that offset, or there is none and it is the length. The bytes before it are text, and are
-- transcoded to the output.
pub record IsStrict (from to : Form) (bytes : List ℕ) (r : StrictResult) : Type 0 where
  pub fault : (text_form from).first_fault bytes r.read
  pub text : Transcodes from to (take r.read bytes) r.out

-- the result of a part without a fault, combined with that of the next: both outputs, and the sum of both
-- offsets
abbrev pub joined_two : StrictResult → StrictResult → StrictResult
joined_two r s = record { out = r.out ++ s.out; read = r.read + s.read }

-- the combined results of some parts up to the first that has a fault
abbrev pub joined_to_fault : List (List ℕ) → List StrictResult → StrictResult
joined_to_fault [] results = record { out = []; read = 0 }
joined_to_fault (part ∷ parts) [] = record { out = []; read = 0 }
joined_to_fault (part ∷ parts) (r ∷ results) = if nat_lt r.read (length part) then r else joined_two r (joined_to_fault parts results)

-- The laws.

-- an offset inside no part is inside no character
abbrev pub ShardEndsAreBoundaries : Type 0
ShardEndsAreBoundaries = (from : Form) (bytes : List ℕ) (n : ℕ) → IsShardEnd from bytes n → IsBoundary from bytes n

-- With one U+FFFD for each fault, the joined outputs of the shards are the output of the whole. For this it is enough
-- that they end at boundaries.
abbrev pub ShardsJoin : Type 0
ShardsJoin =
    (from to : Form) (bytes places : List ℕ) (outs : List (List ℕ))
    → AreBoundaries from bytes places → EachBecomes (IsRecoded from to) (shards bytes 0 places) outs → IsRecoded from to bytes (concat outs)

-- with what a table has for each fault, boundaries are enough too
abbrev pub RepairedShardsJoin : Type 0
RepairedShardsJoin =
    (table : List ℕ) (from to : Form) (bytes places : List ℕ) (outs : List (List ℕ))
    → AreBoundaries from bytes places → EachBecomes (IsRepaired table from to) (shards bytes 0 places) outs → IsRepaired table from to bytes (concat outs)

-- with one U+FFFD for each maximal subpart they have to end at shard ends
abbrev pub LossyShardsJoin : Type 0
LossyShardsJoin =
    (from to : Form) (bytes places : List ℕ) (outs : List (List ℕ))
    → AreShardEnds from bytes places → EachBecomes (IsLossy from to) (shards bytes 0 places) outs → IsLossy from to bytes (concat outs)

-- Strictly, the joined outputs up to the first shard with a fault are the output of the whole, and the offsets add up
-- to that of its first fault.
abbrev pub StrictShardsJoin : Type 0
StrictShardsJoin =
    (from to : Form) (bytes places : List ℕ) (results : List StrictResult)
    → AreBoundaries from bytes places → EachBecomes (IsStrict from to) (shards bytes 0 places) results
    → IsStrict from to bytes (joined_to_fault (shards bytes 0 places) results)
