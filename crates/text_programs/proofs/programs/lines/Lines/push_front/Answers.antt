use Rattle.std.proofs.Common.{◌≡◌, arith, length}
use Rattle.text_runs.proofs.Parts.{take_past}
use Rattle.text_programs.proofs.programs.lines.Lines.push_front.Goals as goal

pub returns : goal.returns
returns c =
    let copied : c.copy_from_slice.new.self ≡ c.args.source.now = c.copy_from_slice.ensures.after in
    let long : length c.copy_from_slice.new.self ≡ 20 = rw copied c.requires.source in
    rw (← c.self.view_is, ← copied)
    (take_past c.self.inside.bytes _ _ c.self.inside.len c.args.count (omega arith) (omega arith))
