use Rattle.std.proofs.Common.{refl}
use Rattle.std.specs.Prelude.{true, false}
use Rattle.text_stream.proofs.KeptPieces.{text_then, units_then}
use Rattle.text_stream.proofs.piece_runs.front_text_len.Goals as goal

pub returns-in-Utf8-clause-text : goal.returns-in-Utf8-clause-text
returns-in-Utf8-clause-text c = rw c.in-Utf8.is (text_then c.args.bytes.now c.text_len.result c.text_len.ensures.text)

pub returns-in-Utf16Le-clause-text : goal.returns-in-Utf16Le-clause-text
returns-in-Utf16Le-clause-text c =
    rw c.in-Utf16Le.is (units_then false _ c.args.bytes.now c.units_len.result refl c.units_len.ensures.within c.type_inv.bytes c.units_len.ensures.codes)

pub returns-in-Utf16Be-clause-text : goal.returns-in-Utf16Be-clause-text
returns-in-Utf16Be-clause-text c =
    rw c.in-Utf16Be.is (units_then true _ c.args.bytes.now c.units_len-in-Utf16Be.result refl c.units_len-in-Utf16Be.ensures.within c.type_inv.bytes c.units_len-in-Utf16Be.ensures.codes)
