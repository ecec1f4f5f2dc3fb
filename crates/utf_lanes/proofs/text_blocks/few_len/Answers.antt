use Rattle.std.proofs.Common.{◌≡◌, ◌∙◌, sym, true≢false, length-drop, length, drop, take, IsUtf8, arith, take-append-drop}
use Rattle.std.proofs.lemmas.List.{take_all, take_rest}
use Rattle.std.proofs.lemmas.Str.{IsUtf8-append, IsUtf8-drop, IsCharBoundary-from_take}
use Rattle.utf_lanes.proofs.text_blocks.few_len.Goals as goal

pub returns-then-are_text-clause-text : goal.returns-then-are_text-clause-text
returns-then-are_text-clause-text c =
    let bytes = c.args.bytes.now in
    let start = c.last_start-start.result in
    let rest : IsUtf8 (drop start bytes) = rw (take_rest bytes start) at (c.are_text.ensures.text c.if-are_text.true) in
    let whole : IsUtf8 bytes = rw (take-append-drop start bytes) at (IsUtf8-append (take start bytes) (drop start bytes) c.last_start-start.ensures.text rest) in
    let all : take (length bytes) bytes ≡ bytes = take_all (length bytes) bytes (omega arith) in
    rw all whole

pub returns-clause-all : goal.returns-clause-all
returns-clause-all c enough text =
    let bytes = c.args.bytes.now in
    let start = c.last_start-start.result in
    let judged = c.last_start-start.ensures in
    let rest = IsUtf8-drop bytes start text (IsCharBoundary-from_take bytes start text judged.within judged.text) in
    let some = judged.some enough in
    let few = judged.few text in
    let long = length-drop start bytes in
    let all = rw (take_rest bytes start) at c.are_text.ensures.all in
    absurd (true≢false (sym (all (omega arith) (omega arith) rest) ∙ c.if-are_text.false))
