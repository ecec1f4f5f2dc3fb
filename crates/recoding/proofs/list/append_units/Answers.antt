use Rattle.std.proofs.Common.{arith, ap, sym, ◌∙◌, length}
use Rattle.utf_lanes.proofs.CompressRows.{written_back}
use Rattle.recoding.proofs.list.append_units.Goals as goal

pub returns : goal.returns
returns g c =
    let value = c.as_mut_slice.ensures.value in
    let zeros = c.append_zeros.ensures.extends in
    let written = c.widen_text-last.ensures.written in
    record {
      items =
          written_back c.args.out.now.items _ c.as_mut_slice.result.now _ _ _ _ c.len-start.result _ _ (value ∙ zeros.items) (c.len-start.ensures ∙ c.args.out.now.ok.0)
          (written.len ∙ ap length value ∙ sym c.append_zeros.new.out.ok.0) written.front c.truncate.ensures.items;
      capacity = omega (arith, zeros.capacity);
    }
