use Rattle.std.proofs.Common.{◌-◌, ◌∷◌, length, arith}
use Rattle.utf_lanes.proofs.AsciiTexts.{ascii_text}
use Rattle.utf_lanes.proofs.FewBytes.{few_text}
use Rattle.utf_lanes.proofs.LaneLemmas.{follow_lanes}
use Rattle.utf_lanes.proofs.TextFollows.{padded_follows, text_closes}
use Rattle.utf_lanes.proofs.text_blocks.are_text.Goals as goal

pub returns-then-bytes-lt4-clause-text : goal.returns-then-bytes-lt4-clause-text
returns-then-bytes-lt4-clause-text c holds = ascii_text c.args.bytes.now (c.is_ascii_each.ensures.ascii holds)

pub returns-then-first_fault-eq16-clause-all : goal.returns-then-first_fault-eq16-clause-all
returns-then-first_fault-eq16-clause-all c enough few text = c.ends_character.ensures.all (text_closes c.args.bytes.now text)

pub returns-else-first_fault-eq16-clause-all : goal.returns-else-first_fault-eq16-clause-all
returns-else-first_fault-eq16-clause-all c enough few text =
    let bytes = c.args.bytes.now in
    let all = padded_follows c.padded_text.result bytes (16 - length bytes) c.padded_text.ensures (omega arith) text in
    let none = c.first_fault.ensures.all 16 (omega arith) (λ k lt. (c.faults_at_front.ensures.lanes k (omega (arith, c.faults_at_front.ensures.len))).1 (λ j least most. all j (omega arith) (omega arith))) in
    let other = c.if-first_fault-eq16.false in
    absurd (omega arith)

pub returns-then-first_fault-eq16-clause-text : goal.returns-then-first_fault-eq16-clause-text
returns-then-first_fault-eq16-clause-text c holds =
    let bytes = c.args.bytes.now in
    let here = c.padded_text.result in
    let all = follow_lanes (0 ∷ 0 ∷ 0 ∷ here) 3 16 (λ k lt. (c.faults_at_front.ensures.lanes k (omega (arith, c.faults_at_front.ensures.len))).0 (c.first_fault.ensures.none k (omega arith))) in
    few_text here bytes (16 - length bytes) c.padded_text.ensures (omega arith) (omega arith) all (c.ends_character.ensures.closed holds)
