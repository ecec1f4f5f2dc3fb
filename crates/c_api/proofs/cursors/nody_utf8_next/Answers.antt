use Rattle.std.proofs.Common.{arith}
use Rattle.std.proofs.lemmas.List.{take_rest}
use Rattle.utf_base.proofs.DecodedLemmas.{decoded_code, front_len_utf8}
use Rattle.c_api.proofs.cursors.nody_utf8_next.Goals as goal

pub returns-in-Some : goal.returns-in-Some
returns-in-Some c =
    let bytes = c.args.left.now.bytes.now in
    let begins = c.in-Some.ensures.some in
    record {
      some = λ has. grind (arith, decoded_code, begins, c.character_piece.ensures);
      leaves = λ has. grind (arith, take_rest bytes c.in-Some.len, c.character_piece.ensures);
      least = λ has. grind (arith, front_len_utf8, begins, c.character_piece.ensures);
      none = λ empty. let front = front_len_utf8 bytes c.in-Some.c c.in-Some.len begins in absurd (omega (arith, front));
    }
