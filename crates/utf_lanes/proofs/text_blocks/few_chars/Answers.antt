use Rattle.std.proofs.Common.{length, drop, arith, ap, inl, inr, length-drop}
use Rattle.std.proofs.lemmas.Str.{IsUtf8-drop, IsCharBoundary-from_take}
use Rattle.utf_base.proofs.StdText.{text_begins}
use Rattle.std.proofs.lemmas.List.{take_rest}
use Rattle.utf_base.proofs.Utf8Code.{utf8_is_code}
use Rattle.utf_lanes.proofs.JudgedText.{text_step}
use Rattle.utf_lanes.proofs.text_blocks.few_chars.Goals as goal

pub loop-place-smaller : goal.loop-place-smaller
loop-place-smaller c =
    let code = c.in-Some.ensures.some in
    let some = utf8_is_code.some _ code.0.scalar in
    omega (arith, code.1)

pub loop-place-preserved : goal.loop-place-preserved
loop-place-preserved c =
    let bytes = c.args.bytes.now in
    let place = c.loop-place.place in
    let code = rw (take_rest bytes place) at c.in-Some.ensures.some in (
      omega (arith, code.1, length-drop place bytes, c.loop-place.invariant.0),
      text_step bytes place _ c.in-Some.len c.loop-place.invariant.1 code,
      omega (arith, c.in-Some.ensures.len.1),
    )

pub returns-in-None-clause-all : goal.returns-in-None-clause-all
returns-in-None-clause-all c text room =
    let bytes = c.args.bytes.now in
    let place = c.loop-place.place in
    let front = IsCharBoundary-from_take bytes place text c.loop-place.invariant.0 c.loop-place.invariant.1 in
    let none = rw (take_rest bytes place) at c.in-None.ensures.none in
    let long = length-drop place bytes in
    elim (text_begins (drop place bytes) (IsUtf8-drop bytes place text front)) [
      | inl empty ↦ (let nothing = ap length empty in absurd (omega arith))
      | inr code ↦ absurd (none (omega arith) code.0 code.1)
    ]
