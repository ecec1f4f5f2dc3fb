use Rattle.std.proofs.Common.{◌≡◌, ◌+◌, ◌-◌, drop, arith, length-drop}
use Rattle.std.proofs.lemmas.List.{take_rest}
use Rattle.recoding.specs.NextScalars.{utf16_form}
use Rattle.recoding.specs.declared.form.Form.TheVariants.{Utf8}
use Rattle.recoding.specs.Strict.{PutsText}
use Rattle.recoding.proofs.TextRuns.{PutsText-none, PutsText-then}
use Rattle.recoding.proofs.kernels.narrow_ascii.Goals as goal

pub loop-place-init : goal.loop-place-init
loop-place-init g c = PutsText-none g.met.O.Output.appends_none

pub loop-place-preserved : goal.loop-place-preserved
loop-place-preserved g c =
    let bytes = c.args.bytes.now in
    let place = c.loop-place.place in
    let span : place + 16 - place ≡ 16 = omega arith in
    let block : PutsText g.O.Output.appends (utf16_form g.E.ByteOrder.HIGH_FIRST) Utf8 (drop place bytes) _ _ 16 = record {
      within = omega (arith, length-drop place bytes);
      grown = c.in-Some.ascii;
      appended = c.put.ensures;
      transcodes = rw span at c.in-Some.ensures;
    } in
    PutsText-then g.met.O.Output.appends_more c.loop-place.invariant (rw (take_rest bytes place) block)
