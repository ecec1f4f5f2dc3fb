use Rattle.std.proofs.Common.{arith}
use Rattle.std.proofs.lemmas.List.{take_rest}
use Rattle.recoding.proofs.Forms.{is_utf16}
use Rattle.recoding.proofs.TextRuns.{PutsText-start}
use Rattle.recoding.proofs.Utf16ToUtf8.{FillsPlace-block}
use Rattle.recoding.proofs.utf16_to_utf8.write_mixed_blocks.Goals as goal

pub loop-place-init : goal.loop-place-init
loop-place-init g c = PutsText-start c.requires

pub loop-place-preserved : goal.loop-place-preserved
loop-place-preserved g c =
    let halves = rw (take_rest c.args.bytes.now c.loop-place.place) at c.thirty_two_halves.ensures.units in
    let put = c.write_thirty_two-count.ensures in
    let most = put.most in
    let fits = put.fits in
    FillsPlace-block _ (is_utf16 _) c.type_inv.bytes c.loop-place.invariant (omega arith) (λ k lt. halves k (omega arith)) put (omega arith)

pub returns-then-count-eq0 : goal.returns-then-count-eq0
returns-then-count-eq0 g c =
    let halves = rw (take_rest c.args.bytes.now c.loop-place.place) at c.thirty_two_halves.ensures.units in
    let put = c.write_thirty_two-count.ensures in
    let most = put.most in
    let fits = put.fits in
    FillsPlace-block _ (is_utf16 _) c.type_inv.bytes c.loop-place.invariant (omega arith) (λ k lt. halves k (omega arith)) put (omega arith)
