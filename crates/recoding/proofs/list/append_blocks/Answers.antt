use Rattle.std.proofs.Common.{◌*◌, ◌+◌, ◌≡◌, arith}
use Rattle.std.proofs.lemmas.List.{take_rest}
use Rattle.recoding.specs.Outputs.{Extends-more, Extends-none}
use Rattle.recoding.proofs.Forms.{is_utf16}
use Rattle.recoding.proofs.Utf16ToUtf8.{PutsText-block}
use Rattle.recoding.proofs.TextRuns.{PutsText-none}
use Rattle.recoding.proofs.list.append_blocks.Goals as goal

pub loop-place-init : goal.loop-place-init
loop-place-init g c = PutsText-none Extends-none

pub loop-place-preserved : goal.loop-place-preserved
loop-place-preserved g c =
    let halves = rw (take_rest c.args.bytes.now c.loop-place.place) at c.sixteen_halves.ensures.units in
    let puts = c.append_block-units.ensures in
    let most = puts.most in
    PutsText-block Extends-more _ (is_utf16 _) c.type_inv.bytes c.loop-place.invariant (omega arith) (λ k lt. halves k (omega arith)) puts.text puts.appended

pub returns-then-units-eq0 : goal.returns-then-units-eq0
returns-then-units-eq0 g c =
    let halves = rw (take_rest c.args.bytes.now c.loop-place.place) at c.sixteen_halves.ensures.units in
    let puts = c.append_block-units.ensures in
    let most = puts.most in
    let same : c.loop-place.place + 2 * c.append_block-units.result ≡ c.loop-place.place = omega arith in
    rw same at (PutsText-block Extends-more _ (is_utf16 _) c.type_inv.bytes c.loop-place.invariant (omega arith) (λ k lt. halves k (omega arith)) puts.text puts.appended)
