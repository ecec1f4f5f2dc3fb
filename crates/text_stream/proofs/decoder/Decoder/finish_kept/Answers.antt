use Rattle.std.proofs.Common.{◌∙◌, ◌<◌, ◌≤◌, ap, ap₂, arith, length, length-drop}
use Rattle.text_stream.specs.Located.{Decoding, Told, first_told, told_of}
use Rattle.text_stream.proofs.FedPieces.{FinishesKept-none, FinishesKept-one}
use Rattle.text_stream.proofs.LocatedLemmas.{first_some}
use Rattle.text_stream.proofs.decoder.Decoder.finish_kept.Goals as goal

pub loop-form-init : goal.loop-form-init
loop-form-init g c = FinishesKept-none g.K.Kept.keeps_each _ _ _

pub loop-form-preserved : goal.loop-form-preserved
loop-form-preserved g c =
    let s = c.loop-form.self in
    let x = told_of c.last_front-front.result in
    let v = c.loop-form.invariant in
    let told = c.last_front-front.ensures.told ∙ ap₂ (λ f w. first_told f w) c.form-form.ensures c.held.ensures.bytes in
    let some : 0 < length s.held = omega (arith, ap (λ (d : Decoding). length d.held) c.self.view_is) in
    let within : x.1 ≤ length s.held = omega (arith, ap length c.held.ensures.bytes, c.last_front-front.ensures.within) in
    FinishesKept-one g.K.Kept.keeps_each x v told some within (rw c.offset.ensures at c.in-Some.ensures.some) (rw c.len-in-loop-form.ensures at c.pass-more.ensures.passed)

pub loop-form-smaller : goal.loop-form-smaller
loop-form-smaller g c =
    let s = c.loop-form.self in
    let some : 0 < length c.held.result.now = omega (arith, ap length c.held.ensures.bytes, ap (λ (d : Decoding). length d.held) c.self.view_is) in
    let one : 1 ≤ (first_told c.form-form.result c.held.result.now).1 = first_some c.form-form.result c.held.result.now some in
    let told = ap (λ (y : Told). y.1) c.last_front-front.ensures.told in
    let len = c.len-in-loop-form.ensures in
    let held = ap (λ (d : Decoding). length d.held) c.pass-more.ensures.passed in
    let left = length-drop c.len-in-loop-form.result s.held in
    omega (arith, ap (λ (d : Decoding). length d.held) c.self.view_is)
