use Rattle.std.proofs.Common.{arith, ap, sym}
use Rattle.std.proofs.lemmas.List.{take_rest}
use Rattle.recoding.specs.Recoded.{Lacks, Recoding}
use Rattle.recoding.proofs.Taking.{Takes-reserved, Takes-run, held_as}
use Rattle.recoding.proofs.recoder.Recoder.feed_alone.Goals as goal

pub returns-clause-ok : goal.returns-clause-ok
returns-clause-ok g c =
    let i = c.self.inside in
    let t : Recoding = record { from = i.from; to = i.to; held = c.hold.new.self; replaced = i.replaced } in
    let run = c.recode_whole-run.ensures in
    let reserve = c.in_ok-reserve.ensures in
    let from = ap (λ (x : Recoding). x.from) c.self.view_is in
    let to = ap (λ (x : Recoding). x.to) c.self.view_is in
    let takes = Takes-run {v = t} _ _ from to c.requires run.runs (omega (arith, run.waits, run.runs.within)) (held_as c.self.view_is c.hold.ensures) in
    let lacks : Lacks c.args.self.now.from c.hold.new.self = rw (rw (take_rest c.args.part.now c.recode_whole-run.result.read) at c.hold.ensures, sym from) run.lacks in
    (c.recode_whole-run.result.replaced, t, Takes-reserved reserve.items reserve.capacity takes, lacks, c.count_faults.ensures)
