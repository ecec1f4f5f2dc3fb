use Rattle.std.proofs.Common.{◌≡◌, ◌<◌, [], length, Ok, Err, arith}
use Rattle.std.proofs.lemmas.Grind.{common_steps}
use Rattle.std.proofs.lemmas.Str.{IsCharBoundary-start}
use Rattle.utf_base.proofs.DecodedLemmas.{front_len_utf8}
use Rattle.utf_chars.proofs.TextLemmas.{answer_of_text, boundary_after, front_code}
use Rattle.utf_chars.proofs.utf8_char.Utf8Char.from_str_start.Goals as goal

pub from_front-requires : goal.from_front-requires
from_front-requires c =
    let some : 0 < length c.args.src.now = grind (arith, common_steps) in
    rw c.as_bytes-bytes.ensures.value (front_code c.args.src.now c.code_len-len.result c.utf8.src some (rw c.as_bytes-bytes.ensures.value at c.code_len-len.ensures.asked))

pub returns-then-is_empty-clause-known : goal.returns-then-is_empty-clause-known
returns-then-is_empty-clause-known c =
    let empty : c.args.src.now ≡ [] = grind (arith, common_steps) in
    answer_of_text _ (Err _) empty

pub returns-clause-begins : goal.returns-clause-begins
returns-clause-begins c = rw c.as_bytes-bytes.ensures.value at c.from_front.ensures

pub returns-clause-known : goal.returns-clause-known
returns-clause-known c = answer_of_text _ (Ok _) (rw c.as_bytes-bytes.ensures.value at c.from_front.ensures)

pub returns-clause-len : goal.returns-clause-len
returns-clause-len c = front_len_utf8 _ _ _ (rw c.as_bytes-bytes.ensures.value at c.from_front.ensures)

pub returns-clause-boundary : goal.returns-clause-boundary
returns-clause-boundary c =
    let begins = rw c.as_bytes-bytes.ensures.value at c.from_front.ensures in
    boundary_after _ 0 _ _ c.utf8.src (IsCharBoundary-start _ c.utf8.src) begins.0 (omega arith)
