use Rattle.std.proofs.Common.{◌≡◌, ◌-◌, ◌∙◌, length, ap, arith, length-drop}
use Rattle.std.proofs.lemmas.List.{take_rest}
use Rattle.c_api.specs.Api.{IsRecoder, form_of, recoder_of}
use Rattle.recoding.proofs.Taking.{Finishes-of}
use Rattle.c_api.proofs.WholeRuns.{longer_where_full, fed_front, longer_where_last_full, recoded_whole, last_front, written_both, is_zero, none_held}
use Rattle.c_api.proofs.whole.nody_recode.Goals as goal

pub returns-then-nody_recoder_feed-eq-FULL-clause-full : goal.returns-then-nody_recoder_feed-eq-FULL-clause-full
returns-then-nody_recoder_feed-eq-FULL-clause-full c one =
    let f = c.nody_recoder_feed in
    let is : IsRecoder c.nody_recoder-recoder.result = rw c.nody_recoder-recoder.ensures (record { from = c.if-from-ge3.false; to = c.if-to-ge3.false; few = omega arith }) in
    longer_where_full (form_of c.args.from) (form_of c.args.to) (recoder_of f.new.recoder) c.args.bytes.now c.args.room.now f.new.room f.new.read f.new.written
    (rw c.nody_recoder-recoder.ensures at (f.ensures.feeds is)) f.auto.room (f.ensures.full is c.if-nody_recoder_feed-eq-FULL.true)

pub returns-then-nody_recoder_feed-eq-FULL-clause-front : goal.returns-then-nody_recoder_feed-eq-FULL-clause-front
returns-then-nody_recoder_feed-eq-FULL-clause-front c one =
    let f = c.nody_recoder_feed in
    let is : IsRecoder c.nody_recoder-recoder.result = rw c.nody_recoder-recoder.ensures (record { from = c.if-from-ge3.false; to = c.if-to-ge3.false; few = omega arith }) in
    fed_front (form_of c.args.from) (form_of c.args.to) (recoder_of f.new.recoder) c.args.bytes.now c.args.room.now f.new.room f.new.read f.new.written
    (rw c.nody_recoder-recoder.ensures at (f.ensures.feeds is))

pub returns-clause-all : goal.returns-clause-all
returns-clause-all c done =
    let f = c.nody_recoder_feed in
    let last = c.nody_recoder_finish-status in
    let is : IsRecoder c.nody_recoder-recoder.result = rw c.nody_recoder-recoder.ensures (record { from = c.if-from-ge3.false; to = c.if-to-ge3.false; few = omega arith }) in
    let then = f.ensures.recoder is in
    let fed = f.ensures.feeds is in
    let ended = last.ensures.finishes then in
    let fits = fed.fits in
    let rest = take_rest f.new.room f.new.written in
    let len : length last.new.room ≡ length f.new.room - f.new.written = last.auto.room ∙ ap length rest ∙ length-drop f.new.written f.new.room in
    let all = f.ensures.all is (is_zero f.result (f.ensures.status is) c.if-nody_recoder_feed-eq-FULL.false) in
    let none = none_held last.new.recoder (last.ensures.all then done) in
    rw (written_both f.new.room last.new.room f.new.written last.new.written (omega (arith, f.auto.room)) len)
    (recoded_whole (form_of c.args.from) (form_of c.args.to) (recoder_of f.new.recoder) c.args.bytes.now c.args.room.now f.new.room f.new.read f.new.written
    (rw c.nody_recoder-recoder.ensures at fed) (recoder_of last.new.recoder) _ last.new.room last.new.written all ended
    (Finishes-of (recoder_of f.new.recoder) (recoder_of last.new.recoder) _ last.new.room last.new.written ended none))

pub returns-clause-full : goal.returns-clause-full
returns-clause-full c one =
    let f = c.nody_recoder_feed in
    let last = c.nody_recoder_finish-status in
    let is : IsRecoder c.nody_recoder-recoder.result = rw c.nody_recoder-recoder.ensures (record { from = c.if-from-ge3.false; to = c.if-to-ge3.false; few = omega arith }) in
    let then = f.ensures.recoder is in
    let fed = f.ensures.feeds is in
    let ended = last.ensures.finishes then in
    let rest = take_rest f.new.room f.new.written in
    let left = ap length rest ∙ length-drop f.new.written f.new.room in
    let all = f.ensures.all is (is_zero f.result (f.ensures.status is) c.if-nody_recoder_feed-eq-FULL.false) in
    longer_where_last_full (form_of c.args.from) (form_of c.args.to) (recoder_of f.new.recoder) c.args.bytes.now c.args.room.now f.new.room f.new.read f.new.written
    (rw c.nody_recoder-recoder.ensures at fed) (recoder_of last.new.recoder) _ last.new.room last.new.written all ended
    f.auto.room (omega (arith, left, f.auto.room)) last.auto.room (last.ensures.full then one)

pub returns-clause-front : goal.returns-clause-front
returns-clause-front c one =
    let f = c.nody_recoder_feed in
    let last = c.nody_recoder_finish-status in
    let is : IsRecoder c.nody_recoder-recoder.result = rw c.nody_recoder-recoder.ensures (record { from = c.if-from-ge3.false; to = c.if-to-ge3.false; few = omega arith }) in
    let then = f.ensures.recoder is in
    let fed = f.ensures.feeds is in
    let ended = last.ensures.finishes then in
    let fits = fed.fits in
    let rest = take_rest f.new.room f.new.written in
    let len : length last.new.room ≡ length f.new.room - f.new.written = last.auto.room ∙ ap length rest ∙ length-drop f.new.written f.new.room in
    let all = f.ensures.all is (is_zero f.result (f.ensures.status is) c.if-nody_recoder_feed-eq-FULL.false) in
    rw (written_both f.new.room last.new.room f.new.written last.new.written (omega (arith, f.auto.room)) len)
    (last_front (form_of c.args.from) (form_of c.args.to) (recoder_of f.new.recoder) c.args.bytes.now c.args.room.now f.new.room f.new.read f.new.written
    (rw c.nody_recoder-recoder.ensures at fed) (recoder_of last.new.recoder) _ last.new.room last.new.written all ended)
