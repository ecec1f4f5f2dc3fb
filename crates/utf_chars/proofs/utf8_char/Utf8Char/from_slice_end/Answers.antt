use Rattle.std.proofs.Common.{◌≡◌, ◌<◌, Ok, Err, length, arith, sym, ◌∙◌}
use Rattle.std.proofs.lemmas.Grind.{common_steps}
use Rattle.utf_base.specs.Back.{end_fault}
use Rattle.utf_base.specs.Code.{utf8}
use Rattle.utf_base.specs.Ends.{NoCodeEnds}
use Rattle.utf_base.proofs.BackLemmas.{answer_of_end, end_found, end_missed, end_missed-all, end_missed-empty, end_fault-empty, end_fault-some, end_len_utf8}
use Rattle.utf_chars.proofs.OwnCodes.{end_alone}
use Rattle.utf_chars.proofs.utf8_char.Utf8Char.from_slice_end.Goals as goal
use Rattle.utf_chars.proofs.utf8_char.Utf8Char.from_slice_end.Goals.{then-len-src+in_default, else-len-src}

empty : (c : goal.After-new) → NoCodeEnds utf8 c.args.src.now × (c.new.result ≡ end_fault c.args.src.now)
empty c =
    let none : length c.args.src.now ≡ 0 = grind (arith, common_steps) in
    (end_missed-empty _ none, c.new.ensures ∙ sym (end_fault-empty _ none))

pub returns-then-is_empty-clause-decodes : goal.returns-then-is_empty-clause-decodes
returns-then-is_empty-clause-decodes c = empty c

pub returns-then-is_empty-clause-known : goal.returns-then-is_empty-clause-known
returns-then-is_empty-clause-known c = answer_of_end _ (Err _) (empty c)

pub returns-in-Some : goal.returns-in-Some
returns-in-Some c =
    let end = end_found _ _ _ c.if-len-src.true c.in-Some.ensures in
    let alone = end_alone _ _ _ end in
    record { decodes = end; known = answer_of_end _ (Ok (_, _)) end; len = end_len_utf8 _ _ _ end; exact = alone.exact; exact_end = alone.exact_end }

missed : (c : goal.After-fault_of_last) → NoCodeEnds utf8 c.args.src.now × (c.fault_of_last.result ≡ end_fault c.args.src.now)
missed c =
    let some : 0 < length c.args.src.now = grind (arith, common_steps) in (
      elim c.if-len-src.branch [
        | then-len-src+in_default w ↦ end_missed _ _ c.continuation_bytes_at_end-len.ensures w.in_default.ensures
        | else-len-src w ↦ let more = w.if-len-src.false in end_missed-all _ _ c.continuation_bytes_at_end-len.ensures (omega arith)
      ],
      c.fault_of_last.ensures ∙ sym (end_fault-some _ some),
    )

pub returns-clause-decodes : goal.returns-clause-decodes
returns-clause-decodes c = missed c

pub returns-clause-known : goal.returns-clause-known
returns-clause-known c = answer_of_end _ (Err _) (missed c)
