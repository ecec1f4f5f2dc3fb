-- The definitions of RFC 3629, RFC 2781 and the Unicode standard, in their own notation, agree with those of
-- this project.
use Rattle.std.specs.Prelude.{◌≡◌, ℕ, ◌<◌, ◌≤◌, List, length, All, Contains, Some}
use Rattle.std.specs.Str.{IsUtf8}
use Rattle.utf_base.specs.Scalar.{IsScalar, IsUnits}
use Rattle.utf_base.specs.Code.{utf8, utf16}
use Rattle.utf_base.specs.CutLaws.{IsJoined}
use Rattle.utf_base.specs.Grammar.{AreOf, IsUtf8Char, IsUtf8Octets}
use Rattle.utf_base.specs.Piece.{Stands}
use Rattle.utf_base.specs.SurrogatePairs.{IsEncodedAs, decoded_by_steps}
use Rattle.utf_base.specs.WellFormedBytes.{TableRow, table_rows}

-- bytes are the code of some scalar if and only if they are one UTF8-char of the grammar
pub record CodesAreTheGrammar : Type 0 where
  pub code : (s : ℕ) → IsScalar s → IsUtf8Char (utf8 s)
  pub char : (w : List ℕ) → IsUtf8Char w → (s : ℕ) × IsScalar s × (w ≡ utf8 s)

-- bytes are the codes of some scalars, joined, if and only if they are UTF8-octets, and so if and only if std
-- calls them text
pub record TextsAreTheGrammar : Type 0 where
  pub joined : (w scalars : List ℕ) → IsJoined utf8 w scalars → IsUtf8Octets w
  pub only_joined : (w : List ℕ) → IsUtf8Octets w → (scalars : List ℕ) × IsJoined utf8 w scalars
  pub text : (w : List ℕ) → IsUtf8 w → IsUtf8Octets w
  pub only_text : (w : List ℕ) → IsUtf8Octets w → IsUtf8 w

-- the scalars of a row have codes of its bytes, and such bytes are the code of a scalar of the row
pub record IsRowOfCodes (row : TableRow) : Type 0 where
  pub code : (s : ℕ) → row.first ≤ s → s ≤ row.last → AreOf row.bytes (utf8 s)
  pub bytes : (w : List ℕ) → AreOf row.bytes w → (s : ℕ) × IsScalar s × (row.first ≤ s) × (s ≤ row.last) × (w ≡ utf8 s)

-- each row of the table of well-formed bytes is the codes of its scalars, and each scalar is in one row
pub record CodesAreTheTable : Type 0 where
  pub each : All IsRowOfCodes table_rows
  pub whole : (s : ℕ) → IsScalar s → (row : TableRow) × Contains table_rows row × (row.first ≤ s) × (s ≤ row.last)

-- the units of a scalar are those that the steps of RFC 2781 make, and no others are
pub record UnitsAreEncoded : Type 0 where
  pub code : (s : ℕ) → IsScalar s → IsEncodedAs s (utf16 s)
  pub once : (s : ℕ) (units : List ℕ) → IsEncodedAs s units → units ≡ utf16 s

-- the decoding steps of RFC 2781 give the scalar whose code begins the units, and find an error if and only
-- if none does
pub record UnitsAreDecoded : Type 0 where
  pub code : (w : List ℕ) (s : ℕ) → IsUnits w → 0 < length w → decoded_by_steps w ≡ Some s → Stands utf16 w 0 s
  pub only : (w : List ℕ) (s : ℕ) → IsUnits w → Stands utf16 w 0 s → decoded_by_steps w ≡ Some s
