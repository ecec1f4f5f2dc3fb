use Rattle.std.proofs.Common.{rules}
use Rattle.text_programs.proofs.LineLemmas.{AppendsFront-failed, HoldsLines-next, Sends, Sends-all, Sends-none}
use Rattle.text_programs.proofs.programs.entries.write_entries.Goals.{then-not-has_room+in_ok-write_to, else-not-has_room}
use Rattle.text_programs.proofs.programs.entries.write_entries.Goals as goal

pub loop-entry-preserved : goal.loop-entry-preserved
loop-entry-preserved g c =
    let sent : Sends (g.W.Write.contents c.loop-entry.out.inner) (g.W.Write.contents c.if-not-has_room.out.inner) c.loop-entry.lines c.if-not-has_room.lines
    = elim c.if-not-has_room.branch [
      | then-not-has_room+in_ok-write_to w ↦ rw (w.out-is, w.lines-is) (Sends-all _ _ _ _ w.in_ok-write_to.ensures.ok w.in_ok-write_to.ensures.empty)
      | else-not-has_room w ↦ rw (w.out-is, w.lines-is) (Sends-none _ _)
    ] in
    record {
      held = rw (c.push_to.ensures, c.error_lines-faults.ensures.count)
          (HoldsLines-next _ _ _ c.loop-entry-test.true c.entry-item.is c.loop-entry.invariant.held sent);
      few = search rules;
      quiet = elim c.if-not-has_room.branch [
        | then-not-has_room+in_ok-write_to w ↦ rw w.out-is (search rules)
        | else-not-has_room w ↦ rw w.out-is (search rules)
      ];
      stalls = elim c.if-not-has_room.branch [
        | then-not-has_room+in_ok-write_to w ↦ rw w.out-is (search rules)
        | else-not-has_room w ↦ rw w.out-is (search rules)
      ];
      other_calls = elim c.if-not-has_room.branch [
        | then-not-has_room+in_ok-write_to w ↦ rw w.out-is (search rules)
        | else-not-has_room w ↦ rw w.out-is (search rules)
      ];
    }

pub returns-in_err-write_to-clause-front : goal.returns-in_err-write_to-clause-front
returns-in_err-write_to-clause-front g c = AppendsFront-failed _ _ _ c.loop-entry.invariant.held c.write_to.ensures.front

pub returns-in_err-write_to-2-clause-front : goal.returns-in_err-write_to-2-clause-front
returns-in_err-write_to-2-clause-front g c = AppendsFront-failed _ _ _ c.loop-entry.invariant.held c.write_to-2.ensures.front

pub returns-clause-front : goal.returns-clause-front
returns-clause-front g c = AppendsFront-failed _ _ _ c.loop-entry.invariant.held c.write_to-2.ensures.front
