use Rattle.std.proofs.Common.{◌+◌, arith}
use Rattle.std.proofs.lemmas.List.{take_rest}
use Rattle.recoding.proofs.Forms.{is_utf16}
use Rattle.recoding.proofs.TextRuns.{PutsText-start}
use Rattle.recoding.proofs.Utf16ToUtf8.{FillsPlace-block}
use Rattle.recoding.proofs.utf16_to_utf8.write_character_blocks.Goals as goal

pub returns-then-not-are_characters : goal.returns-then-not-are_characters
returns-then-not-are_characters g c = PutsText-start c.requires

pub loop-read-preserved : goal.loop-read-preserved
loop-read-preserved g c =
    let bytes = c.args.bytes.now in
    let read = c.loop-read.read in
    let before = c.loop-read.invariant in
    let here = before.bytes in
    let put = c.write_characters-end.ensures in
    let fits = put.fits in
    let same = put.len in
    record {
      bytes = omega arith;
      room = omega arith;
      runs = FillsPlace-block _ (is_utf16 _) c.type_inv.bytes before.runs (omega arith) before.units put (omega arith);
      units = rw (take_rest bytes (read + 64)) at c.thirty_two_halves-in-loop-read.ensures.units;
      characters = c.are_characters-in-loop-read.ensures c.if-not-are_characters-2.false;
    }

pub returns : goal.returns
returns g c =
    let before = c.loop-read.invariant in
    let here = before.bytes in
    let room = before.room in
    let put = c.write_characters.ensures in
    let fits = put.fits in
    FillsPlace-block _ (is_utf16 _) c.type_inv.bytes before.runs (omega arith) before.units put (omega arith)
