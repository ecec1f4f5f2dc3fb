use Rattle.std.proofs.Common.{[], ◌∷◌}
use Rattle.text_programs.specs.Endings.{stop_text}
use Rattle.text_runs.proofs.Fronts.{AppendsFront-first, AppendsFront-then}
use Rattle.std.proofs.KnownBytes.{Appends-trans}
use Rattle.text_programs.proofs.programs.stops.Stop.write_line.Goals as goal

pub returns-in_err-write_whole-clause-front : goal.returns-in_err-write_whole-clause-front
returns-in_err-write_whole-clause-front g c =
    let name = rw c.as_bytes.ensures.value at c.write_whole.ensures.front in
    AppendsFront-first _ _ _ _ (AppendsFront-first _ _ _ _ (AppendsFront-first _ _ _ _ name))

pub returns-in_err-write_whole-2-clause-front : goal.returns-in_err-write_whole-2-clause-front
returns-in_err-write_whole-2-clause-front g c =
    let name = rw c.as_bytes.ensures.value at c.in_ok-write_whole.ensures.ok in
    AppendsFront-first _ _ _ _ (AppendsFront-first _ _ _ _ (AppendsFront-then _ _ _ c.args.program.now _ name c.write_whole-2.ensures.front))

pub returns-in_err-write_whole-3-clause-front : goal.returns-in_err-write_whole-3-clause-front
returns-in_err-write_whole-3-clause-front g c =
    let name = rw c.as_bytes.ensures.value at c.in_ok-write_whole.ensures.ok in
    let text = rw (c.as_bytes-2.ensures.value, c.text.ensures) at c.write_whole-3.ensures.front in
    let begun = Appends-trans _ _ _ c.args.program.now _ name c.in_ok-write_whole-2.ensures.ok in
    AppendsFront-first _ _ _ _ (AppendsFront-then _ _ _ _ (stop_text c.args.self) begun text)

pub returns-clause-front : goal.returns-clause-front
returns-clause-front g c =
    let name = rw c.as_bytes.ensures.value at c.in_ok-write_whole.ensures.ok in
    let text = rw (c.as_bytes-2.ensures.value, c.text.ensures) at c.in_ok-write_whole-3.ensures.ok in
    let begun = Appends-trans _ _ _ c.args.program.now _ name c.in_ok-write_whole-2.ensures.ok in
    AppendsFront-then _ _ _ _ (10 ∷ []) (Appends-trans _ _ _ _ (stop_text c.args.self) begun text) c.write_whole-4.ensures.front
