-- Text validated by each byte and the three before it, and the consequences for some bytes once the first two
-- are validated.
use Rattle.std.specs.Prelude.{◌≡◌, ◌↔◌, ℕ, ◌+◌, ◌<◌, ◌≤◌, List, length, slice_index, bit_xor, true}
use Rattle.utf_base.specs.Kinds.{is_continuation}

-- a continuation byte
abbrev pub IsContinuation : ℕ → Type 0
IsContinuation b = (0x80 ≤ b) × (b < 0xC0)

-- the bytes c and d may be the first two of a code: d makes it neither overlong nor a surrogate nor too high
pub record MayBegin (c d : ℕ) : Type 0 where
  pub least : 0xC2 ≤ c
  pub most : c < 0xF5
  pub second : IsContinuation d
  pub three : c ≡ 0xE0 → 0xA0 ≤ d
  pub surrogate : c ≡ 0xED → d < 0xA0
  pub four : c ≡ 0xF0 → 0x90 ≤ d
  pub high : c ≡ 0xF4 → d < 0x90

-- if no code of three or four bytes has to continue, the byte d may follow c
pub record MayFollow (c d : ℕ) : Type 0 where
  pub first : c < 0xC0 → 0x80 ≤ d → 0xC0 ≤ d
  pub second : 0xC0 ≤ c → MayBegin c d

-- The byte d may follow a, b and c: it is a continuation byte if a code of three or four bytes has to
-- continue.
pub record Follows (a b c d : ℕ) : Type 0 where
  pub early : a < 0xF0 → b < 0xE0 → MayFollow c d
  pub third : 0xE0 ≤ b → IsContinuation c × IsContinuation d
  pub fourth : 0xF0 ≤ a → IsContinuation c × IsContinuation d

-- each byte from the offset i on and before j may follow the three before it
abbrev pub AllMayFollow : List ℕ → ℕ → ℕ → Type 0
AllMayFollow xs i j = (k : ℕ) → i ≤ k + 3 → k + 3 < j → Follows (slice_index xs k) (slice_index xs (k + 1)) (slice_index xs (k + 2)) (slice_index xs (k + 3))

-- a lane is 0 if and only if this holds for the byte of its number, counted from the offset i on
abbrev pub ZerosFollow : List ℕ → ℕ → List ℕ → Type 0
ZerosFollow xs i v = (k : ℕ) → k < length v → slice_index v k ≡ 0 ↔ AllMayFollow xs (i + k) (i + k + 1)

-- a lane is 0 if and only if the byte in that lane of the last vector may follow those of the three others
abbrev pub ZeroLanesFollow : List ℕ → List ℕ → List ℕ → List ℕ → List ℕ → Type 0
ZeroLanesFollow third second first here v =
    (k : ℕ) → k < length v → slice_index v k ≡ 0 ↔ Follows (slice_index third k) (slice_index second k) (slice_index first k) (slice_index here k)

-- the three bytes before the offset ask for no more
abbrev pub EndsCharacter : List ℕ → ℕ → Type 0
EndsCharacter xs i = (k : ℕ) → k + 3 ≡ i → (slice_index xs k < 0xF0) × (slice_index xs (k + 1) < 0xE0) × (slice_index xs (k + 2) < 0xC0)

-- the bits that look-ups leave of the byte d after the byte c: 0 if and only if d may follow, 0x80 if and
-- only if both continue
pub record IsPair (c d left : ℕ) : Type 0 where
  pub early : bit_xor 0 left ≡ 0 ↔ MayFollow c d
  pub late : bit_xor 0x80 left ≡ 0 ↔ IsContinuation c × IsContinuation d

-- each lane of `left` has the bits that look-ups leave of the byte in that lane of `here`, after the one in that
-- of `before`
abbrev pub ArePairsLeft : List ℕ → List ℕ → List ℕ → Type 0
ArePairsLeft before here left = (k : ℕ) → k < length left → IsPair (slice_index before k) (slice_index here k) (slice_index left k)

-- Four bytes or more, of which the first is from `least` on and before `past`, and the second continues.
pub record IsBegun (least past : ℕ) (w : List ℕ) : Type 0 where
  pub enough : 4 ≤ length w
  pub low : least ≤ slice_index w 0
  pub high : slice_index w 0 < past
  pub second : is_continuation (slice_index w 1) ≡ true
