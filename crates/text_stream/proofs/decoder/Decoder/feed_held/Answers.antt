use Rattle.std.proofs.Common.{◌∙◌, ◌<◌, ◌++◌, ap, ap₂, sym, subst, arith, length, take, drop, length-drop}
use Rattle.std.proofs.lemmas.List.{take_rest}
use Rattle.text_stream.specs.Located.{Begins, Decoding, told_of}
use Rattle.text_stream.proofs.FedPieces.{FeedsKept-all, FeedsKept-none, FeedsKept-one, IsOpen-as, all_joined, decoding_as, joined_begin}
use Rattle.text_stream.proofs.decoder.Decoder.feed_held.Goals as goal

pub loop-form-init : goal.loop-form-init
loop-form-init g c = FeedsKept-none g.K.Kept.keeps_each _ _ _ _ (omega (arith, ap (λ (d : Decoding). length d.held) c.self.view_is))

pub returns-in_default-clause-feeds : goal.returns-in_default-clause-feeds
returns-in_default-clause-feeds g c =
    let s = c.loop-form.self in
    let part = c.args.part.now in
    let joined = c.join-len.ensures.bytes ∙ ap₂ (λ xs ys. xs ++ take 3 ys) (ap (λ (d : Decoding). d.held) c.self-in-loop-form.view_is) (take_rest part c.loop-form.read) in
    let few = c.in_default.ensures.few in
    let some : 0 < length s.held = omega (arith, ap (λ (d : Decoding). length d.held) c.self-in-loop-form.view_is) in
    FeedsKept-all c.loop-form.invariant (all_joined s.held part c.loop-form.read joined some few) few
    (decoding_as c.self-in-loop-form.view_is (ap (λ (d : Decoding). d.offset) c.self-in-loop-form.view_is) c.hold.ensures)

pub returns-in_default-clause-waits : goal.returns-in_default-clause-waits
returns-in_default-clause-waits g c undone more =
    let i = c.self-in-loop-form.inside in
    let d : Decoding = record { form = i.form; held = c.hold.new.self; offset = i.offset } in
    let form = ap (λ (x : Decoding). x.form) c.self-in-loop-form.view_is ∙ c.loop-form.invariant.form ∙ sym c.form-form.ensures in
    IsOpen-as d form c.hold.ensures (c.in_default.ensures.waits (omega (arith, more, ap length c.hold.ensures)))

pub returns-in_default-write_piece-clause-full : goal.returns-in_default-write_piece-clause-full
returns-in_default-write_piece-clause-full g c done =
    let s = c.loop-form.self in
    let v = c.loop-form.invariant in
    let part = c.args.part.now in
    let rest = drop c.loop-form.read part in
    let joined = c.join-len.ensures.bytes ∙ ap₂ (λ xs ys. xs ++ take 3 ys) (ap (λ (d : Decoding). d.held) c.self-in-loop-form.view_is) (take_rest part c.loop-form.read) in
    let begins = joined_begin s.held rest joined c.in-Some.ensures.begins in
    (c.in_default-write_piece.ensures.full ∙ v.writes.len, (told_of c.in-Some.front, subst (λ f. Begins f (s.held ++ rest) (told_of c.in-Some.front)) (c.form-form.ensures ∙ sym v.form) begins, c.in_default-write_piece.ensures.kept))

pub loop-form-preserved : goal.loop-form-preserved
loop-form-preserved g c =
    let s = c.loop-form.self in
    let x = told_of c.in-Some.front in
    let v = c.loop-form.invariant in
    let part = c.args.part.now in
    let joined = c.join-len.ensures.bytes ∙ ap₂ (λ xs ys. xs ++ take 3 ys) (ap (λ (d : Decoding). d.held) c.self-in-loop-form.view_is) (take_rest part c.loop-form.read) in
    let begins = subst (λ f. Begins f (take c.join-len.result.1 c.join-len.result.0) x) c.form-form.ensures c.in-Some.ensures.begins in
    FeedsKept-one g.K.Kept.keeps_each x c.pass-read.result v joined begins (rw c.offset.ensures at c.in-Some-write_piece.ensures.some)
    (rw c.len-in-loop-form.ensures at c.pass-read.ensures.passed) (rw c.len-in-loop-form.ensures at c.pass-read.ensures.more)

pub loop-form-smaller : goal.loop-form-smaller
loop-form-smaller g c =
    let s = c.loop-form.self in
    let some = c.in-Some.ensures.begins.some in
    let len = c.len-in-loop-form.ensures in
    let more = c.pass-read.ensures.more in
    let held = ap (λ (d : Decoding). length d.held) c.pass-read.ensures.passed in
    let left = length-drop c.len-in-loop-form.result s.held in
    omega (arith, ap (λ (d : Decoding). length d.held) c.self-in-loop-form.view_is)
