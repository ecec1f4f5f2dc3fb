use Rattle.std.proofs.Common.{◌≡◌, ◌-◌, length}
use Rattle.recoding.specs.Replacing.{Recodes}
use Rattle.recoding.specs.declared.form.Form.TheVariants as form
use Rattle.recoding.proofs.kernels.copy_damaged.Given as goal

abbrev pub invariant-parts : goal.invariant-parts
invariant-parts g l = record {
  room : length l.made ≡ 512;
  runs : Recodes g.O.Output.appends (g.F.Windowed.way l.by) form.Utf8 form.Utf8 l.bytes l.fn.out l.out l.read l.replaced;
}

abbrev pub decreases-parts : goal.decreases-parts
decreases-parts g l = length l.bytes - l.read
