-- Each word has a walk over bytes, since each window that no code begins has a forward kind.
use Rattle.std.proofs.Common.{◌≡◌, ℕ, List, Option, Some, None, refl}
use Rattle.std.specs.Prelude.{slice_range}
use Rattle.utf_base.specs.declared.errors.Utf8ErrorKind.{Utf8ErrorKind}
use Rattle.utf_base.specs.Code.{utf8}
use Rattle.utf_base.specs.Kinds.{fault_kind, value}
use Rattle.utf_base.specs.Piece.{Stands}
use Rattle.utf_base.specs.Walk.{utf8_bytes}
use Rattle.utf_base.specs.WalkLaws.{WalkExists}
use Rattle.utf_base.proofs.FrontLemmas.{code_where_no_fault, utf8_finds}
use Rattle.utf_base.proofs.Utf8Code.{utf8_is_code}
use Rattle.utf_base.proofs.WalkWords.{HasKinds, walk_exists}

kind_of : (w : List ℕ) (k : Option Utf8ErrorKind) → fault_kind w ≡ k → ((s : ℕ) → Stands utf8 w 0 s → ⊥) → (e : Utf8ErrorKind) × (fault_kind w ≡ Some e)
kind_of w None e none = absurd (none (value w) (code_where_no_fault w e).0)
kind_of w (Some k) e none = (k, e)

pub byte_walk_exists : WalkExists utf8_bytes
byte_walk_exists xs word =
    let kinds : HasKinds utf8_bytes xs = λ i j lt le none. kind_of (slice_range xs i j) (fault_kind (slice_range xs i j)) refl none in
    walk_exists utf8_bytes utf8_is_code utf8_finds xs kinds word
