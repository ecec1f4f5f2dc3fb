use Rattle.std.proofs.Common.{sym, ap, ◌∙◌, ◌++◌, arith}
use Rattle.std.proofs.iter.runs.Made.{run_of_exit}
use Rattle.std.proofs.lemmas.List.{flat_map_more}
use Rattle.std.proofs.lemmas.Result.{err_from_is_err_and}
use Rattle.std.specs.List.{flat_map}
use Rattle.encode_unicode.proofs.Collected.{one_more, none_left, not_none, first_added}
use Rattle.encode_unicode.proofs.collecting.extend.Goals as goal

pub loop-c-preserved : goal.loop-c-preserved
loop-c-preserved g c = record {
  added = c.in_ok-add.ensures.ok ∙ ap (λ ys. ys ++ g.T.HoldsCodes.code c.in-Some.c) c.loop-c.invariant.added ∙ flat_map_more g.T.HoldsCodes.code (g.T.HoldsCodes.held c.args.out.now) c.loop-c.yielded c.in-Some.c;
  left = λ rest listed. one_more _ (c.loop-c.invariant.left rest listed) (listed _ _ _ c.in-Some.ensures.steps);
  room = let before = c.loop-c.invariant.room in let grown = c.in_ok-add.ensures.room in omega arith;
}

pub returns-in_err-add-clause-err : goal.returns-in_err-add-clause-err
returns-in_err-add-clause-err g c =
    let from = err_from_is_err_and c.from_residual.result c.from_residual.ensures.1 in
    let full = rw c.loop-c.invariant.added at c.in_err-add.ensures.full in
    rw from.1 (λ rest listed. first_added g.T.HoldsCodes.code _ (c.loop-c.invariant.left rest listed) (listed _ _ _ c.in-Some.ensures.steps) (c.in_err-add.ensures.err ∙ c.loop-c.invariant.added) (omega arith))

pub returns-in_err-add-clause-nothing : goal.returns-in_err-add-clause-nothing
returns-in_err-add-clause-nothing g c rest listed none = absurd (not_none _ (c.loop-c.invariant.left rest listed) (listed _ _ _ c.in-Some.ensures.steps) none)

pub returns-clause-ok : goal.returns-clause-ok
returns-clause-ok g c rest listed = c.loop-c.invariant.added ∙ ap (λ ys. g.T.HoldsCodes.held c.args.out.now ++ flat_map g.T.HoldsCodes.code ys) (sym (none_left _ _ _ (c.loop-c.invariant.left rest listed) (listed _ _ _ c.in-None.ensures.steps).0))

pub returns-clause-runs : goal.returns-clause-runs
returns-clause-runs g c =
    let all = run_of_exit g.I.Iterator.next_gives _ _ _ c.loop-c.yielded_by _ c.in-None.ensures.steps in
    (all.0, all.1 ∙ c.into_iter-c-iterator.ensures.into_iter_gives, all.2, c.loop-c.invariant.added ∙ ap (λ xs. g.T.HoldsCodes.held c.args.out.now ++ flat_map g.T.HoldsCodes.code xs) (sym all.3.0))
