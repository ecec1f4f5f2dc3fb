use Rattle.std.proofs.Common.{arith, ap, sym, ◌∙◌, length}
use Rattle.utf_lanes.proofs.CompressRows.{written_back}
use Rattle.recoding.proofs.list.append_text_units.Goals as goal

pub returns : goal.returns
returns g c =
    let value = c.as_mut_slice.ensures.value in
    let written = c.write_text_units-after.ensures in
    record {
      items =
          written_back c.args.out.now.items _ c.as_mut_slice.result.now _ _ _ _ c.len-start.result _ _ (value ∙ c.put.ensures.items) (c.len-start.ensures ∙ c.args.out.now.ok.0)
          (written.len ∙ ap length value ∙ sym c.put.new.self.ok.0) written.bytes c.truncate.ensures.items;
      capacity = omega (arith, c.put.ensures.capacity);
    }
