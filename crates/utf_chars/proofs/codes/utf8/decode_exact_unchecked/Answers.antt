use Rattle.utf_base.specs.Code.{utf8}
use Rattle.utf_base.proofs.Standing.{stands_alone}
use Rattle.utf_chars.proofs.Decoded.{IsOk_DecodesFront}
use Rattle.utf_chars.proofs.codes.utf8.decode_exact_unchecked.Goals as goal

-- A code is at the front of itself, so its decoding succeeds, and gives its scalar.
pub unwrap-c-requires : goal.unwrap-c-requires
unwrap-c-requires c = IsOk_DecodesFront _ _ _ (stands_alone utf8 _ c.requires) c.decode_start.ensures
