-- The lemmas that callers cite, re-exported from the crate that proves them.
pub use Rattle.utf_base.proofs.StdText.{encodes_are_codes, utf8_is_std, utf8_is_text, scalar_for_std, scalar_from_std}
pub use Rattle.utf_base.proofs.TextScalars.{all_scalar, joined_from_text}
pub use Rattle.utf_base.proofs.Utf8Code.{utf8_is_code, length_utf8}
pub use Rattle.utf_base.proofs.Utf16Code.{utf16_is_code, length_utf16}
pub use Rattle.utf_base.proofs.Standing.{same_char, stands_first, stands_alone, outside_front, outside_end}
pub use Rattle.utf_base.proofs.FrontLemmas.{code_where_no_fault, no_fault_where_code, no_code_where_fault}
pub use Rattle.utf_base.proofs.DecodedLemmas.{decoded_code, decoded_bytes_code, decoded_units_code, decoded_pairs_code, decoded_pairs_kind, decoded_two_code, decoded_tuple_code}
pub use Rattle.utf_base.proofs.MergerLemmas.{unbroken_kind, broken_kind, merger_none, merger_none_where_code}
pub use Rattle.utf_base.proofs.BackLemmas.{decoded_end_code, end_found, last_four_decide}
pub use Rattle.utf_base.proofs.UnitEnds.{decoded_units_end_code, decoded_pairs_end_code, ends_with_unit, ends_with_pair}
pub use Rattle.utf_base.proofs.UnitLemmas.{no_kind_where_units, no_units_where_kind, units_where_no_kind}
pub use Rattle.utf_base.proofs.Cuts.{front_char, front_fault, back_char, back_fault, piece_some, cut_none, cut_one, cut_push, cut_append}
pub use Rattle.encode_unicode.proofs.PieceRuns.{as_it_is, codes_of_text, collected_from_yields, listed_run, listed_run_back, listed_yields, some_bytes, some_units, pieces_yielded, unit_pieces_yielded, chars_yielded, placed_yielded}
pub use Rattle.encode_unicode.proofs.ChainEnds.{count_serves}
pub use Rattle.encode_unicode.proofs.PieceCounts.{pieces_within, unit_pieces_within}
pub use Rattle.encode_unicode.proofs.AsciiPieces.{ascii_after, ascii_before, merged_alike}
pub use Rattle.encode_unicode.proofs.BackPieces.{back_more, back_none, some_end_bytes}
