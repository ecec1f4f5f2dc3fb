use Rattle.std.proofs.Common.{◌≡◌, ap, ◌∙◌}
use Rattle.std.specs.Slice.Iter.{iter_rest}
use Rattle.encode_unicode.proofs.Listed.{copied_rest, copied_listed}
use Rattle.encode_unicode.specs.Code.{utf8}
use Rattle.encode_unicode.specs.Kinds.{merger_kind}
use Rattle.cuts.specs.Collected.{IsMergedRun}
use Rattle.run_examples.proofs.equals.merge_alike.Goals as goal

pub returns : goal.returns
returns g c = λ e.
    let source : copied_rest c.copied.result ≡ c.args.bytes.now = ap iter_rest c.copied.ensures.source ∙ c.iter.ensures.rest in
    let other : copied_rest c.copied-2.result ≡ c.args.others.now = ap iter_rest c.copied-2.ensures.source ∙ c.iter-2.ensures.rest in
    let first : IsMergedRun utf8 merger_kind c.args.bytes.now c.in_ok-first.first.items = rw (← source) (c.in_ok-first.ensures.run copied_rest copied_listed) in
    let second : IsMergedRun utf8 merger_kind c.args.bytes.now c.in_ok-second.second.items = rw (e, ← other) (c.in_ok-second.ensures.run copied_rest copied_listed) in
    c.are_equal.ensures (c.runs_are_unique.ensures.merged_bytes _ _ _ first second)
