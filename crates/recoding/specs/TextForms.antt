-- The encodings of text, each as a record: other definitions on bytes in an encoding use its fields.
use Rattle.std.specs.Prelude.{◌≡◌, ℕ, ◌+◌, ◌-◌, ◌*◌, ◌/◌, ◌%◌, ◌<◌, ◌≤◌, Bool, true, false, if◌then◌else◌, List, [], ◌∷◌, ◌++◌, length, get_or, take, flat_map, count_by, is_none, Option, Some, None}
use Rattle.std.proofs.Common.{refl}
use Rattle.std.specs.Option.{option_map}
use Rattle.utf_base.specs.Code.{utf8, utf16}
use Rattle.utf_base.specs.Kinds.{fault_kind}
use Rattle.utf_base.specs.Piece.{Piece, IsCut, IsPiece, Inside}
use Rattle.utf_base.specs.Scalar.{IsScalar}
use Rattle.utf_base.specs.Shown.{Shows}
use Rattle.utf_base.specs.Subparts.{IsPart, ShowsParts}
use Rattle.utf_base.specs.Units.{is_leading_surrogate, unit_fault_kind}
use Rattle.utf_base.specs.declared.errors.Utf8ErrorKind.TheVariants.{TooFewBytes}
use Rattle.utf_base.specs.declared.errors.units.Utf16PairError.TheVariants.{Incomplete}
use Rattle.utf_base.proofs.Cuts.{cut_exists}
use Rattle.utf_base.proofs.FrontLemmas.{utf8_finds}
use Rattle.utf_base.proofs.PartLists.{parts_show_some}
use Rattle.utf_base.proofs.Rests.{shows_some}
use Rattle.utf_base.proofs.UnitLemmas.{utf16_finds}
use Rattle.utf_base.proofs.Utf8Code.{utf8_is_code}
use Rattle.utf_base.proofs.Utf16Code.{utf16_is_code}
use Rattle.utf_lanes.specs.BytePairs.{bytes_of, unit_of, units_of}
use Rattle.utf_lanes.specs.Mending.{all_shown}
use Rattle.recoding.specs.RepairTables.{ShowsBy, ShowsUnitsBy, char_for, odd_end_by, unit_for}
use Rattle.recoding.specs.declared.faults.FaultKind.{FaultKind}
use Rattle.recoding.specs.declared.faults.FaultKind.TheVariants as kind
use Rattle.recoding.specs.declared.form.Form.{Form}
use Rattle.recoding.specs.declared.form.Form.TheVariants.{Utf8, Utf16Le, Utf16Be}

-- the code of some scalar begins with the elements, and is longer
pub record IsProperFront (code : ℕ → List ℕ) (w : List ℕ) : Type 0 where
  pub char : ℕ
  pub scalar : IsScalar char
  pub longer : length w < length (code char)
  pub front : take (length w) (code char) ≡ w

-- the number of these pieces that are faults
abbrev pub faults_in : List Piece → ℕ
faults_in ps = count_by (λ x. is_none x.char) ps

-- the number of pieces of the one cut that are faults
abbrev pub HasFaults : (ℕ → List ℕ) → List ℕ → ℕ → Type 0
HasFaults code xs n = (ps : List Piece) × IsCut code xs ps × (n ≡ faults_in ps)

-- the first fault of the list begins at the offset n, or there is none, and n is the length of the list
pub record IsFirstFault (code : ℕ → List ℕ) (xs : List ℕ) (n : ℕ) : Type 0 where
  pub within : n ≤ length xs
  pub none : (x : Piece) → IsPiece code xs x → x.char ≡ None → n ≤ x.start
  pub fault : n < length xs → IsPiece code xs (record { start = n; len = 1; char = None })

-- the offset n lies inside a part of xs, a character or a maximal subpart: after its first element, and
-- before its end
pub record InsidePart (code : ℕ → List ℕ) (xs : List ℕ) (n : ℕ) : Type 0 where
  pub from : ℕ
  pub len : ℕ
  pub char : Option ℕ
  pub part : IsPart code xs from len char
  pub begins : from < n
  pub ends : n < from + len

-- Bytes that are units, followed by half a unit or nothing.

-- an odd last byte is a fault
abbrev pub odd_end : List ℕ → List ℕ
odd_end [] = []
odd_end (a ∷ []) = 0xFFFD ∷ []
odd_end (a ∷ b ∷ bytes) = odd_end bytes

-- an odd last byte is a subpart of its own, unless the last unit is a leading surrogate: both together are one
-- subpart, which that unit shows already (as at the end of input of the WHATWG's decoder)
abbrev pub odd_part : Bool → List ℕ → List ℕ
odd_part high_first [] = []
odd_part high_first (a ∷ []) = 0xFFFD ∷ []
odd_part high_first (a ∷ b ∷ []) = []
odd_part high_first (a ∷ b ∷ c ∷ []) = if is_leading_surrogate (unit_of high_first a b) then [] else 0xFFFD ∷ []
odd_part high_first (a ∷ b ∷ c ∷ d ∷ bytes) = odd_part high_first (c ∷ d ∷ bytes)

-- ss is the list of scalars of the units that the bytes make, and U+FFFD for an odd last byte
abbrev pub ShowsUnits : Bool → List ℕ → List ℕ → Type 0
ShowsUnits high_first bytes ss = (ts : List ℕ) × Shows utf16 (units_of high_first bytes) ts × (ss ≡ ts ++ odd_end bytes)

-- ss is the list of scalars of the parts of the units that the bytes make, and U+FFFD for an odd last byte if
-- it is a subpart
abbrev pub ShowsUnitParts : Bool → List ℕ → List ℕ → Type 0
ShowsUnitParts high_first bytes ss = (ts : List ℕ) × ShowsParts utf16 (units_of high_first bytes) ts × (ss ≡ ts ++ odd_part high_first bytes)

-- the number of faults of the units that the bytes make, plus one for an odd last byte
abbrev pub HasUnitFaults : Bool → List ℕ → ℕ → Type 0
HasUnitFaults high_first bytes n = (m : ℕ) × HasFaults utf16 (units_of high_first bytes) m × (n ≡ m + length (odd_end bytes))

-- the first fault of bytes that are UTF-16 begins at the offset n, which is that of a unit, or there is none, and n
-- is their length. A single byte at the end is a fault.
pub record IsFirstUnitFault (high_first : Bool) (bytes : List ℕ) (n : ℕ) : Type 0 where
  pub within : n ≤ length bytes
  pub even : n ≡ 2 * (n / 2)
  pub first : IsFirstFault utf16 (units_of high_first bytes) (n / 2)

-- no unit of the bytes covers the offset, and no code of the units
pub record IsUnitsEnd (high_first : Bool) (bytes : List ℕ) (n : ℕ) : Type 0 where
  pub even : n < length bytes → n % 2 ≡ 0
  pub outside : ¬ (Inside utf16 (units_of high_first bytes) (n / 2))

-- The offset is inside no unit and inside no part of the units. Nor is it between a leading surrogate and an odd last byte, which are
-- one subpart.
pub record IsUnitsShardEnd (high_first : Bool) (bytes : List ℕ) (n : ℕ) : Type 0 where
  pub even : n < length bytes → n % 2 ≡ 0
  pub outside : ¬ (InsidePart utf16 (units_of high_first bytes) (n / 2))
  pub odd : n + 1 ≡ length bytes → is_leading_surrogate (get_or (units_of high_first bytes) (n / 2 - 1) 0) ≡ false

-- The definition of an encoding.

-- An encoding of text. The words of an encoding are its fields: `Reads from` is the field `reads`, and so on.
pub record TextForm : Type 1 where
  -- the code of a scalar, and its greatest length for each byte or unit that shows the scalar
  pub written : ℕ → List ℕ
  pub widest : ℕ
  -- the number of bytes or units in this number of bytes
  pub parts_of : ℕ → ℕ
  -- the scalars of bytes piece by piece, and part by part, and the number of their faults: there is a list, or a
  -- number
  pub reads : List ℕ → List ℕ → Type 0
  pub reads_some : (bytes : List ℕ) → (ss : List ℕ) × reads bytes ss
  pub reads_parts : List ℕ → List ℕ → Type 0
  pub parts_some : (bytes : List ℕ) → (ss : List ℕ) × reads_parts bytes ss
  -- the scalars of bytes piece by piece if a table has what a fault becomes, and what the fault that begins bytes becomes
  pub repairs : List ℕ → List ℕ → List ℕ → Type 0
  pub repairs_some : (table bytes : List ℕ) → (ss : List ℕ) × repairs table bytes ss
  pub repaired_fault : List ℕ → List ℕ → Option ℕ
  pub faults : List ℕ → ℕ → Type 0
  pub faults_some : (bytes : List ℕ) → (n : ℕ) × faults bytes n
  -- the length of a fault in bytes, its kind, and the offset of the first
  pub fault_len : ℕ
  pub kind_of : List ℕ → Option FaultKind
  pub first_fault : List ℕ → ℕ → Type 0
  -- the kind if elements are missing, and the bytes that lack some
  pub lacking : FaultKind
  pub lacks : List ℕ → Type 0
  -- the offset is inside no character, and inside no part
  pub is_boundary : List ℕ → ℕ → Type 0
  pub is_shard_end : List ℕ → ℕ → Type 0

abbrev pub utf8_form : TextForm
utf8_form = record {
  written = utf8;
  widest = 3;
  parts_of = λ n. n;
  reads = Shows utf8;
  reads_some = shows_some utf8 utf8_is_code utf8_finds;
  reads_parts = ShowsParts utf8;
  parts_some = parts_show_some utf8 utf8_is_code utf8_finds;
  repairs = λ table. ShowsBy (char_for table) utf8;
  repairs_some = λ table bytes. let cut = cut_exists utf8 utf8_is_code utf8_finds bytes in (all_shown (char_for table) bytes cut.0, (cut.0, cut.1, refl));
  repaired_fault = λ table bytes. char_for table (get_or bytes 0 0);
  faults = HasFaults utf8;
  faults_some = λ bytes. let cut = cut_exists utf8 utf8_is_code utf8_finds bytes in (faults_in cut.0, (cut.0, cut.1, refl));
  fault_len = 1;
  kind_of = λ bytes. option_map kind.Utf8 (fault_kind bytes);
  first_fault = λ bytes n. IsFirstFault utf8 bytes n;
  lacking = kind.Utf8 TooFewBytes;
  lacks = λ bytes. IsProperFront utf8 bytes;
  is_boundary = λ bytes n. ¬ (Inside utf8 bytes n);
  is_shard_end = λ bytes n. ¬ (InsidePart utf8 bytes n);
}

-- UTF-16, with the high byte of each unit first or second
abbrev pub units_form : Bool → TextForm
units_form high_first = record {
  written = λ s. flat_map (bytes_of high_first) (utf16 s);
  widest = 2;
  parts_of = λ n. (n + 1) / 2;
  reads = ShowsUnits high_first;
  reads_some = λ bytes. let shown = shows_some utf16 utf16_is_code utf16_finds (units_of high_first bytes) in (shown.0 ++ odd_end bytes, (shown.0, shown.1, refl));
  reads_parts = ShowsUnitParts high_first;
  parts_some = λ bytes. let shown = parts_show_some utf16 utf16_is_code utf16_finds (units_of high_first bytes) in (shown.0 ++ odd_part high_first bytes, (shown.0, shown.1, refl));
  repairs = λ table. ShowsUnitsBy (unit_for table) high_first;
  repairs_some = λ table bytes.
      let cut = cut_exists utf16 utf16_is_code utf16_finds (units_of high_first bytes) in
      let ts = all_shown (λ u. unit_for table) (units_of high_first bytes) cut.0 in
      (ts ++ odd_end_by (unit_for table) bytes, (ts, (cut.0, cut.1, refl), refl));
  repaired_fault = λ table bytes. unit_for table;
  faults = HasUnitFaults high_first;
  faults_some = λ bytes.
      let cut = cut_exists utf16 utf16_is_code utf16_finds (units_of high_first bytes) in
      (faults_in cut.0 + length (odd_end bytes), (faults_in cut.0, (cut.0, cut.1, refl), refl));
  fault_len = 2;
  kind_of = λ bytes. option_map kind.Utf16 (unit_fault_kind (units_of high_first bytes));
  first_fault = λ bytes n. IsFirstUnitFault high_first bytes n;
  lacking = kind.Utf16 Incomplete;
  lacks = λ bytes. unit_fault_kind (units_of high_first bytes) ≡ Some Incomplete;
  is_boundary = λ bytes n. IsUnitsEnd high_first bytes n;
  is_shard_end = λ bytes n. IsUnitsShardEnd high_first bytes n;
}

-- the encoding that has units in that byte order
abbrev pub utf16_form : Bool → Form
utf16_form big_endian = if big_endian then Utf16Be else Utf16Le

-- A definition for UTF-8, and for units in any byte order, is one for each encoding. No other word of this
-- crate has a case for each.
abbrev pub by_form {ℓ} : (P : Form → Type ℓ) → P Utf8 → ((high_first : Bool) → P (utf16_form high_first)) → (form : Form) → P form
by_form P bytes units Utf8 = bytes
by_form P bytes units Utf16Le = units false
by_form P bytes units Utf16Be = units true

abbrev pub text_form : Form → TextForm
text_form = by_form (λ form. TextForm) utf8_form units_form
