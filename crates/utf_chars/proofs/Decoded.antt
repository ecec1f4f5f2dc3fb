-- If a code begins a list, its decoding succeeds.
use Rattle.std.proofs.Common.{◌≡◌, ℕ, ◌<◌, List, refl, ◌∙◌}
use Rattle.std.specs.Prelude.{Result, Ok, Err, IsOk}
use Rattle.utf_base.specs.declared.errors.Utf8ErrorKind.{Utf8ErrorKind}
use Rattle.utf_base.specs.Code.{utf8}
use Rattle.utf_base.specs.Front.{as_scalar, BeginsWith, DecodesFront}
use Rattle.utf_base.specs.Kinds.{asked_by, value}
use Rattle.utf_base.specs.Piece.{Stands}
use Rattle.utf_base.proofs.FrontLemmas.{code_where_no_fault, decodes_from_stands, no_code_where_fault, no_fault_where_code}
use Rattle.utf_chars.specs.Chars.{IsFrontCode}

pub IsOk_DecodesFront : (w : List ℕ) (s : ℕ) (r : Result (ℕ × ℕ) Utf8ErrorKind) → Stands utf8 w 0 s → DecodesFront as_scalar w r → IsOk r
IsOk_DecodesFront w s (Ok x) h d = refl
IsOk_DecodesFront w s (Err k) h d = absurd (no_code_where_fault w k s d h)

-- The first byte determines the length of the code.
pub front_by_first : (w : List ℕ) (s n m : ℕ) → BeginsWith utf8 w s n → (0 < asked_by w → m ≡ asked_by w) → IsFrontCode w m
front_by_first w s n m h e =
    let found = code_where_no_fault w (no_fault_where_code w s h.0) in
    (value w, (found.0, e (decodes_from_stands w s h.0).0.asks ∙ found.1))
