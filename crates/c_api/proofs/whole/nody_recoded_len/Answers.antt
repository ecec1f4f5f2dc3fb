use Rattle.std.proofs.Common.{◌≤◌, ◌∙◌, length, refl, arith}
use Rattle.std.specs.Prelude.{slice_range}
use Rattle.c_api.specs.Api.{form_of, recoder_of}
use Rattle.recoding.proofs.Taking.{Finishes-of}
use Rattle.c_api.proofs.WholeRuns.{counts_none, counts_more, counts_all, longer_front, length_part, part_has_room, end_has_room, is_zero, none_held}
use Rattle.c_api.proofs.whole.nody_recoded_len.Goals as goal

pub loop-place-init : goal.loop-place-init
loop-place-init c =
    rw c.nody_recoder-recoder.ensures
    (record {
      is = record { from = c.if-from-ge3.false; to = c.if-to-ge3.false; few = omega arith };
      counts = counts_none (form_of c.args.from) (form_of c.args.to) c.args.bytes.now;
      room = refl;
    })

pub loop-place-preserved : goal.loop-place-preserved
loop-place-preserved c =
    let bytes = c.args.bytes.now in
    let l = c.loop-place in
    let is = l.invariant.is in
    let before = l.invariant.counts in
    let few = before.fed.once.few in
    let f = c.nody_recoder_feed in
    let room = l.invariant.room in
    let fed = f.ensures.feeds is in
    let end : c.min-end.result ≤ length bytes = omega (arith, c.min-end.ensures) in
    let later : l.place ≤ c.min-end.result = omega (arith, c.min-end.ensures, c.loop-place-test.true) in
    let len = length_part bytes l.place c.min-end.result end in
    let zero = is_zero f.result (f.ensures.status is)
    (λ one. part_has_room (recoder_of l.recoder) (recoder_of f.new.recoder) (slice_range bytes l.place c.min-end.result) l.room f.new.room f.new.read f.new.written
    fed f.auto.room (omega (arith, len, c.min-end.ensures)) (f.ensures.full is one)) in
    record {
      is = f.ensures.recoder is;
      counts = counts_more (form_of c.args.from) (form_of c.args.to) bytes l.place l.len (recoder_of l.recoder) before (recoder_of f.new.recoder)
          (slice_range bytes l.place c.min-end.result) l.room f.new.room c.min-end.result f.new.read f.new.written c.saturating_add-len.result
          end (longer_front bytes l.place c.min-end.result later end) fed f.auto.room (f.ensures.all is zero) c.saturating_add-len.ensures;
      room = f.auto.room ∙ room;
    }

pub returns-clause-len : goal.returns-clause-len
returns-clause-len c from to =
    let l = c.loop-place in
    let is = l.invariant.is in
    let before = l.invariant.counts in
    let few = before.fed.once.few in
    let last = c.nody_recoder_finish in
    let room = l.invariant.room in
    let ended = last.ensures.finishes is in
    let zero = is_zero last.result (last.ensures.status is)
    (λ one. end_has_room (recoder_of l.recoder) (recoder_of last.new.recoder) l.room last.new.room last.new.written ended last.auto.room (omega arith) (last.ensures.full is one)) in
    counts_all (form_of c.args.from) (form_of c.args.to) c.args.bytes.now l.place l.len (recoder_of l.recoder) before l.room last.new.room last.new.written c.saturating_add.result
    c.loop-place-test.false (Finishes-of (recoder_of l.recoder) (recoder_of last.new.recoder) l.room last.new.room last.new.written ended (none_held last.new.recoder (last.ensures.all is zero)))
    last.auto.room ended.fits c.saturating_add.ensures
