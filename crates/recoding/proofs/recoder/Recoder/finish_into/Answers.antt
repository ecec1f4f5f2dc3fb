use Rattle.std.proofs.Common.{rules, ◌≡◌, [], length, arith, refl, ap}
use Rattle.std.proofs.lemmas.List.{drop_all}
use Rattle.recoding.specs.Faults.{AddsUp}
use Rattle.recoding.specs.Rooms.{FinishesInto}
use Rattle.recoding.proofs.Taking.{Finishes-of, counted_last, finished_into, replaces_last}
use Rattle.recoding.proofs.Advancing.{counts_last, keeps_last}
use Rattle.recoding.proofs.RecodedLists.{outcome_finished, outcome_finished_into}
use Rattle.recoding.proofs.recoder.Recoder.finish_into.Goals as goal

-- if nothing is carried over

pub returns-then-len-eq0-clause-done : goal.returns-then-len-eq0-clause-done
returns-then-len-eq0-clause-done c =
    let r = c.args.self.now in
    let none : r.held ≡ [] = drop_all 0 r.held (omega (arith, ap (λ x. length x.held) c.self.view_is)) in
    let same : FinishesInto r c.args.room.now c.args.room.now 0 r
    = record { leaves = λ rest whole. whole; from = refl; to = refl; few = omega arith; fits = omega arith } in
    rw c.progress.ensures (λ _. Finishes-of r r c.args.room.now c.args.room.now 0 same none)

pub returns-then-len-eq0-clause-outcome_done : goal.returns-then-len-eq0-clause-outcome_done
returns-then-len-eq0-clause-outcome_done c whole out = outcome_finished c.args.self.now out _ (returns-then-len-eq0-clause-done c whole out)

pub returns-then-len-eq0-clause-counted : goal.returns-then-len-eq0-clause-counted
returns-then-len-eq0-clause-counted c whole =
    let r = c.args.self.now in
    let none : r.held ≡ [] = drop_all 0 r.held (omega (arith, ap (λ x. length x.held) c.self.view_is)) in
    let total : AddsUp r 0 r = search rules in
    counts_last r r 0 (omega arith) total none

-- if bytes are carried over

pub returns-clause-finishes : goal.returns-clause-finishes
returns-clause-finishes c = finished_into c.take_last_into-done.ensures.takes c.count_faults.ensures

pub returns-clause-full : goal.returns-clause-full
returns-clause-full c = rw c.count_faults.ensures c.take_last_into-done.ensures.full

pub returns-clause-all : goal.returns-clause-all
returns-clause-all c = rw c.count_faults.ensures c.take_last_into-done.ensures.all

pub returns-clause-done : goal.returns-clause-done
returns-clause-done c whole = Finishes-of c.args.self.now c.count_faults.new.self c.args.room.now c.take_last_into-done.new.room c.take_last_into-done.result.written (returns-clause-finishes c) (returns-clause-all c whole)

pub returns-clause-outcome : goal.returns-clause-outcome
returns-clause-outcome c = outcome_finished_into (returns-clause-finishes c)

pub returns-clause-outcome_done : goal.returns-clause-outcome_done
returns-clause-outcome_done c whole out = outcome_finished c.args.self.now out _ (returns-clause-done c whole out)

pub returns-clause-replaces : goal.returns-clause-replaces
returns-clause-replaces c = replaces_last c.take_last_into-done.ensures.takes c.count_faults.ensures

pub returns-clause-total : goal.returns-clause-total
returns-clause-total c = counted_last c.take_last_into-done.ensures.takes c.count_faults.ensures

pub returns-clause-counts : goal.returns-clause-counts
returns-clause-counts c = keeps_last _ _ _ (returns-clause-replaces c) (returns-clause-total c)

pub returns-clause-counted : goal.returns-clause-counted
returns-clause-counted c whole = counts_last c.args.self.now c.count_faults.new.self c.take_last_into-done.result.replaced (returns-clause-replaces c) (returns-clause-total c) (returns-clause-all c whole)
