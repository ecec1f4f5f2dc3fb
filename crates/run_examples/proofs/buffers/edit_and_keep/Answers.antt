use Rattle.encode_unicode.specs.Pieces.{pieces}
use Rattle.run_examples.proofs.EditorLemmas.{kept_front}
use Rattle.run_examples.proofs.buffers.edit_and_keep.Goals as goal

pub returns : goal.returns
returns g c = record {
  kept =
      kept_front c.args.kept.now.items c.truncate.new.self.items (pieces c.args.text.now) (pieces c.replace.new.self) c.in_ok-change.change.number c.requires.kept c.truncate.ensures.items
      c.in_ok-change.ensures.change.front;
}
