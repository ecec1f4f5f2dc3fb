-- The grammar of UTF-8 as RFC 3629, section 4, writes it, rule by rule. A rule is some ranges of bytes, one after
-- another: it has no arithmetic, and no scalar.
use Rattle.std.specs.Prelude.{◌≡◌, ℕ, ◌≤◌, ◌⊎◌, List, [], ◌∷◌, All}
use Rattle.std.specs.List.{flat_map}

-- a range of bytes: the first and the last of them
pub record Range : Type 0 where
  pub first : ℕ
  pub last : ℕ

abbrev pub range : ℕ → ℕ → Range
range first last = record { first = first; last = last }

-- a range of one byte
abbrev pub only : ℕ → Range
only b = range b b

-- one byte of each range, in order, and nothing else
abbrev pub AreOf : List Range → List ℕ → Type 0
AreOf [] w = w ≡ []
AreOf (r ∷ rs) [] = ⊥
AreOf (r ∷ rs) (b ∷ w) = (r.first ≤ b) × (b ≤ r.last) × AreOf rs w

-- UTF8-tail = %x80-BF
abbrev pub utf8_tail : Range
utf8_tail = range 0x80 0xBF

-- UTF8-1 = %x00-7F
abbrev pub IsUtf8-1 : List ℕ → Type 0
IsUtf8-1 = AreOf (range 0x00 0x7F ∷ [])

-- UTF8-2 = %xC2-DF UTF8-tail
abbrev pub IsUtf8-2 : List ℕ → Type 0
IsUtf8-2 = AreOf (range 0xC2 0xDF ∷ utf8_tail ∷ [])

-- UTF8-3 = %xE0 %xA0-BF UTF8-tail / %xE1-EC 2( UTF8-tail ) / %xED %x80-9F UTF8-tail / %xEE-EF 2( UTF8-tail )
abbrev pub IsUtf8-3 : List ℕ → Type 0
IsUtf8-3 w =
    AreOf (only 0xE0 ∷ range 0xA0 0xBF ∷ utf8_tail ∷ []) w
    ⊎ (AreOf (range 0xE1 0xEC ∷ utf8_tail ∷ utf8_tail ∷ []) w
    ⊎ (AreOf (only 0xED ∷ range 0x80 0x9F ∷ utf8_tail ∷ []) w
    ⊎ AreOf (range 0xEE 0xEF ∷ utf8_tail ∷ utf8_tail ∷ []) w))

-- UTF8-4 = %xF0 %x90-BF 2( UTF8-tail ) / %xF1-F3 3( UTF8-tail ) / %xF4 %x80-8F 2( UTF8-tail )
abbrev pub IsUtf8-4 : List ℕ → Type 0
IsUtf8-4 w =
    AreOf (only 0xF0 ∷ range 0x90 0xBF ∷ utf8_tail ∷ utf8_tail ∷ []) w
    ⊎ (AreOf (range 0xF1 0xF3 ∷ utf8_tail ∷ utf8_tail ∷ utf8_tail ∷ []) w
    ⊎ AreOf (only 0xF4 ∷ range 0x80 0x8F ∷ utf8_tail ∷ utf8_tail ∷ []) w)

-- UTF8-char = UTF8-1 / UTF8-2 / UTF8-3 / UTF8-4
abbrev pub IsUtf8Char : List ℕ → Type 0
IsUtf8Char w = IsUtf8-1 w ⊎ (IsUtf8-2 w ⊎ (IsUtf8-3 w ⊎ IsUtf8-4 w))

-- UTF8-octets = *( UTF8-char )
pub record IsUtf8Octets (w : List ℕ) : Type 0 where
  pub chars : List (List ℕ)
  pub each : All IsUtf8Char chars
  pub joined : w ≡ flat_map (λ char. char) chars
