-- The steps and the result of a scan from the end of a window.
use Rattle.std.specs.Prelude.{◌≡◌, ℕ, ◌+◌, ◌-◌, ◌<◌, ◌≤◌, min, List, length, Some, None, Result, Ok, Err}
use Rattle.utf_base.specs.declared.errors.Utf8ErrorKind.{Utf8ErrorKind}
use Rattle.utf_base.specs.declared.errors.Utf8ErrorKind.TheVariants.{UnexpectedContinuationByte}
use Rattle.utf_base.specs.Back.{IsWholeCode, EndsInContinuationBytes}
use Rattle.encode_unicode.specs.Window.{Window, elements}

-- the bytes end in t continuation bytes, counted up to three, and n is the number of these and the byte
-- before them, if there is one
abbrev pub LooksAt : List ℕ → ℕ → Type 0
LooksAt w n = (t : ℕ) × EndsInContinuationBytes w t × (n ≡ min (t + 1) (length w))

-- a scan of the bytes from their end took one step for each that it read: at least one, at most four, and no more
-- than there are
pub record IsScanned (w : List ℕ) (old new : ℕ) : Type 0 where
  pub least : old + 1 ≤ new
  pub most : new ≤ old + 4
  pub within : new ≤ old + length w
  pub exact : LooksAt w (new - old)

-- the steps of one call of `next_back_counted`: those of a scan, and none at the empty window
pub record BackSteps (w : Window) (old new : ℕ) : Type 0 where
  pub some : w.front < w.back → IsScanned (elements w) old new
  pub none : w.front ≡ w.back → new ≡ old

-- the scalar whose code all of the bytes are, with its length, otherwise the kind of a continuation byte
abbrev pub IsWholeOrUnexpected : List ℕ → Result (ℕ × ℕ) Utf8ErrorKind → Type 0
IsWholeOrUnexpected w (Ok x) = IsWholeCode w (Some x.0) × (x.1 ≡ length w)
IsWholeOrUnexpected w (Err k) = IsWholeCode w None × (k ≡ UnexpectedContinuationByte)
