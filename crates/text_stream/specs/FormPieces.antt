-- The pieces of bytes in any encoding, as a decoder of parts gives them if it is fed all of them in one call.
use Rattle.std.specs.Prelude.{ℕ, List, map}
use Rattle.encode_unicode.specs.Window.{Placed}
use Rattle.recoding.specs.declared.faults.FaultKind.{FaultKind}
use Rattle.recoding.specs.declared.form.Form.{Form}
use Rattle.text_stream.specs.declared.located.LocatedPiece.{LocatedPiece}
use Rattle.text_stream.specs.Located.{located}

-- a located piece, laid out like the pieces of a decoder of bytes
abbrev pub placed : LocatedPiece → Placed FaultKind
placed piece = (piece.offset, piece.answer, piece.len)

-- all pieces of bytes of that encoding. Of UTF-16 a unit has two bytes, and an odd last byte is a piece.
abbrev pub form_pieces : Form → List ℕ → List (Placed FaultKind)
form_pieces form bytes = map placed (located form 0 bytes)
