-- The definitions that callers unfold, re-exported from the crate that defines them.
pub use Rattle.utf_base.specs.Code.{utf8, utf16}
pub use Rattle.utf_base.specs.Kinds.{asked, value, least_value, fault_kind, merger_kind, back_kind}
pub use Rattle.utf_base.specs.Units.{unit_value, slice_fault, array_fault, unit_fault_kind, unit_back_kind}
pub use Rattle.utf_base.specs.Decoded.{decoded, decoded_bytes, decoded_units, decoded_two, decoded_tuple, decoded_number, decoded_pairs}
pub use Rattle.utf_base.specs.Back.{end_len, decoded_end, unit_end, decoded_units_end, decoded_pairs_end}
pub use Rattle.utf_chars.specs.Chars.{first_of_text, parsed}
pub use Rattle.utf_chars.specs.Padded.{padded}
pub use Rattle.encode_unicode.specs.Mergers.{decoded_by_merger, merged, merged_units}
