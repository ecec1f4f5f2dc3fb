use Rattle.recoding.proofs.Recodes.{Reaches-end, Reaches-then, Recodes-none, Recodes-text, Recodes-then, room_for_rest}
use Rattle.recoding.proofs.engine.run.Goals as goal

pub parts-init : goal.parts-init
parts-init g c = Recodes-none g.met.O.Output.appends_none

pub put_near-damaged-requires : goal.put_near-damaged-requires
put_near-damaged-requires g c ample =
    room_for_rest g.met.O.Output.appends_room (Recodes-text g.met.O.Output.appends_more c.parts.invariant c.put_text-blocks.ensures) (c.requires ample)

pub recode_stretch-count-requires : goal.recode_stretch-count-requires
recode_stretch-count-requires g c ample =
    let law = g.met.O.Output.appends_more in
    room_for_rest g.met.O.Output.appends_room (Recodes-then law (Recodes-text law c.parts.invariant c.put_text-blocks.ensures) c.put_near-damaged.ensures) (c.requires ample)

pub recode_carefully-few-requires : goal.recode_carefully-few-requires
recode_carefully-few-requires g c ample =
    let law = g.met.O.Output.appends_more in
    let damaged = Recodes-then law (Recodes-text law c.parts.invariant c.put_text-blocks.ensures) c.put_near-damaged.ensures in
    room_for_rest g.met.O.Output.appends_room (Recodes-text law damaged c.recode_stretch-count.ensures) (c.requires ample)

pub parts-preserved-then-blocks-ge-MANY : goal.parts-preserved-then-blocks-ge-MANY
parts-preserved-then-blocks-ge-MANY g c = Recodes-text g.met.O.Output.appends_more c.parts.invariant c.put_text-blocks.ensures

pub parts-preserved-then-damaged-gt0 : goal.parts-preserved-then-damaged-gt0
parts-preserved-then-damaged-gt0 g c =
    let law = g.met.O.Output.appends_more in
    Recodes-then law (Recodes-text law c.parts.invariant c.put_text-blocks.ensures) c.put_near-damaged.ensures

pub parts-preserved : goal.parts-preserved
parts-preserved g c =
    let law = g.met.O.Output.appends_more in
    let damaged = Recodes-then law (Recodes-text law c.parts.invariant c.put_text-blocks.ensures) c.put_near-damaged.ensures in
    Recodes-text law damaged c.recode_stretch-count.ensures

pub parts-preserved-then-count : goal.parts-preserved-then-count
parts-preserved-then-count g c =
    let law = g.met.O.Output.appends_more in
    let damaged = Recodes-then law (Recodes-text law c.parts.invariant c.put_text-blocks.ensures) c.put_near-damaged.ensures in
    Recodes-then law (Recodes-text law damaged c.recode_stretch-count.ensures) c.recode_carefully-few.ensures.reaches.runs

pub returns-then-few-clause-reaches : goal.returns-then-few-clause-reaches
returns-then-few-clause-reaches g c =
    let law = g.met.O.Output.appends_more in
    let damaged = Recodes-then law (Recodes-text law c.parts.invariant c.put_text-blocks.ensures) c.put_near-damaged.ensures in
    rw c.ended-then-few.ensures (Reaches-then law (Recodes-text law damaged c.recode_stretch-count.ensures) c.recode_carefully-few.ensures.reaches)

pub returns-then-read-bytes-clause-reaches : goal.returns-then-read-bytes-clause-reaches
returns-then-read-bytes-clause-reaches g c =
    rw c.ended.ensures (Reaches-end (Recodes-text g.met.O.Output.appends_more c.parts.invariant c.put_text-blocks.ensures) c.if-read-bytes.true)

pub returns-then-read-bytes-2-clause-reaches : goal.returns-then-read-bytes-2-clause-reaches
returns-then-read-bytes-2-clause-reaches g c =
    let law = g.met.O.Output.appends_more in
    let damaged = Recodes-then law (Recodes-text law c.parts.invariant c.put_text-blocks.ensures) c.put_near-damaged.ensures in
    rw c.ended-then-read-bytes-2.ensures (Reaches-end (Recodes-text law damaged c.recode_stretch-count.ensures) c.if-read-bytes-2.true)
