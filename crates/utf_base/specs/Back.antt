-- The result of decoding the character at the end of some bytes, or units. `scalar` is the function from a
-- character to its scalar.
use Rattle.std.specs.Option.{ok_or}
use Rattle.std.specs.Prelude.{◌≡◌, ℕ, ◌-◌, ◌<◌, ◌≤◌, Bool, true, false, not, ◌&&◌, nat_le, ◌==◌, if◌then◌else◌, List, length, slice_index, slice_range, Option, Some, None, is_none, Result, Ok, Err, MatchResult}
use Rattle.utf_base.specs.declared.errors.Utf8ErrorKind.{Utf8ErrorKind}
use Rattle.utf_base.specs.declared.errors.Utf8ErrorKind.TheVariants.{TooFewBytes}
use Rattle.utf_base.specs.declared.errors.units.Utf16SliceError.{Utf16SliceError}
use Rattle.utf_base.specs.declared.errors.units.Utf16SliceError.TheVariants as slice
use Rattle.utf_base.specs.declared.errors.units.Utf16PairError.{Utf16PairError}
use Rattle.utf_base.specs.Code.{utf8, utf16}
use Rattle.utf_base.specs.Ends.{last_of, EndsWith, NoCodeEnds}
use Rattle.utf_base.specs.Front.{BeginsWith}
use Rattle.utf_base.specs.Kinds.{asked_by, value, fault_kind, back_kind, is_continuation}
use Rattle.utf_base.specs.Units.{is_leading_surrogate, is_surrogate, is_trailing_surrogate, pair_value, unit_back_kind}

-- the fault of bytes that no code ends: the backward kind of the last one
abbrev pub end_fault : List ℕ → Utf8ErrorKind
end_fault w = if length w == 0 then TooFewBytes else back_kind (last_of w)

-- the character whose code ends the bytes, with its length, otherwise the fault of the last of them
abbrev pub DecodesEnd : {C : Type 0} → (C → ℕ) → List ℕ → Result (C × ℕ) Utf8ErrorKind → Type 0
DecodesEnd scalar w r = MatchResult r (λ x. EndsWith utf8 w (scalar x.0) x.1) (λ e. NoCodeEnds utf8 w × (e ≡ end_fault w))

-- The result for the end of bytes, as a function of the bytes.

-- the last n of the bytes, or all if there are fewer
abbrev pub last_bytes : ℕ → List ℕ → List ℕ
last_bytes n w = slice_range w (length w - n) (length w)

-- the bytes are one code, and nothing more
abbrev pub is_one_code : List ℕ → Bool
is_one_code w = is_none (fault_kind w) && asked_by w == length w

-- the length in bytes of the code that ends these, or 0 if none does
unfoldable pub end_len : List ℕ → ℕ
end_len w =
    if is_one_code (last_bytes 1 w) then 1
    else if is_one_code (last_bytes 2 w) then 2
    else if is_one_code (last_bytes 3 w) then 3
    else if is_one_code (last_bytes 4 w) then 4
    else 0

-- the scalar whose code ends the bytes, with the code's length, otherwise the fault of the last of them
unfoldable pub decoded_end : List ℕ → Result (ℕ × ℕ) Utf8ErrorKind
decoded_end w = if end_len w == 0 then Err (end_fault w) else Ok (value (last_bytes (end_len w) w), end_len w)

-- the scalar whose code all of the bytes are, or `None` if they are no code
abbrev pub IsWholeCode : List ℕ → Option ℕ → Type 0
IsWholeCode w (Some s) = BeginsWith utf8 w s (length w)
IsWholeCode w None = (s : ℕ) → ¬ BeginsWith utf8 w s (length w)

-- the bytes that a scan from the end has read: t continuation bytes, at most three, and before fewer of them one that
-- is none, or no byte at all
pub record EndsInContinuationBytes (w : List ℕ) (t : ℕ) : Type 0 where
  pub bound : t ≤ 3
  pub within : t ≤ length w
  pub continuation_bytes : (k : ℕ) → k < t → is_continuation (slice_index w (length w - 1 - k)) ≡ true
  pub stops : t < 3 → t < length w → is_continuation (slice_index w (length w - 1 - t)) ≡ false

-- Units.

-- the fault of units that no code ends: that of only the last one
abbrev pub unit_end_fault : List ℕ → Utf16SliceError
unit_end_fault w =
    if length w == 0 then slice.EmptySlice
    else if is_trailing_surrogate (last_of w) then slice.FirstIsTrailingSurrogate
    else slice.MissingSecond

-- the character whose code ends the units, with its length, otherwise the fault of the last of them
abbrev pub DecodesUnitsEnd : {C : Type 0} → (C → ℕ) → List ℕ → Result (C × ℕ) Utf16SliceError → Type 0
DecodesUnitsEnd scalar w r = MatchResult r (λ x. EndsWith utf16 w (scalar x.0) x.1) (λ e. NoCodeEnds utf16 w × (e ≡ unit_end_fault w))

-- the unit before the last
abbrev pub second_last_of : List ℕ → ℕ
second_last_of w = slice_index w (length w - 2)

-- the last two units are a pair
abbrev pub ends_in_pair : List ℕ → Bool
ends_in_pair w = nat_le 2 (length w) && is_leading_surrogate (second_last_of w) && is_trailing_surrogate (last_of w)

-- the scalar whose code ends the units, with the code's length, or `None` if none does
unfoldable pub unit_end : List ℕ → Option (ℕ × ℕ)
unit_end w =
    if length w == 0 then None
    else if not (is_surrogate (last_of w)) then Some (last_of w, 1)
    else if ends_in_pair w then Some (pair_value (second_last_of w) (last_of w), 2)
    else None

-- the scalar whose code ends the units, with the code's length, otherwise the fault of the last as a slice
unfoldable pub decoded_units_end : List ℕ → Result (ℕ × ℕ) Utf16SliceError
decoded_units_end w = ok_or (unit_end w) (unit_end_fault w)

-- the scalar whose code ends the units, with the code's length, otherwise the backward kind of the last
unfoldable pub decoded_pairs_end : List ℕ → Result (ℕ × ℕ) Utf16PairError
decoded_pairs_end w = ok_or (unit_end w) (unit_back_kind (last_of w))
