use Rattle.text_stream.proofs.LocatedLemmas.{Puts-then}
use Rattle.text_stream.proofs.piece_runs.put_located_text.Goals as goal

pub returns-in-Utf8 : goal.returns-in-Utf8
returns-in-Utf8 g c = rw c.in-Utf8.is (Puts-then c.put_located_ascii-at.ensures c.put_located_characters.ensures)
