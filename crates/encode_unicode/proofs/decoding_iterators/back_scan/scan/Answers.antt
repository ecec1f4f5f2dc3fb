use Rattle.std.proofs.Common.{◌-◌, ◌∙◌, arith, drop, sym, rules}
use Rattle.utf_base.specs.Back.{EndsInContinuationBytes}
use Rattle.encode_unicode.proofs.ScanLemmas.{IsEndOfFour, scanned-0, scanned-1, scanned-2, scanned-3, four_single, four_whole, four_all, four_looked, four_looked-all, last_two, last_three, take_four}
use Rattle.encode_unicode.proofs.decoding_iterators.back_scan.scan.Goals as goal

pub returns-then-not-is_continuation : goal.returns-then-not-is_continuation
returns-then-not-is_continuation c =
    let e : IsEndOfFour c.args.bytes c.args.count = record { four = search rules; some = c.requires.some; most = c.requires.most } in
    let scan = scanned-0 _ _ e (sym c.is_continuation.ensures ∙ c.if-not-is_continuation.true) in
    record { decodes = four_single _ _ _ e (sym c.is_continuation.ensures ∙ c.if-not-is_continuation.true) c.from_slice_start.ensures.decodes; steps = four_looked _ _ 0 _ _ e scan (omega arith) (omega arith) }

pub returns-then-count-eq1 : goal.returns-then-count-eq1
returns-then-count-eq1 c =
    let e : IsEndOfFour c.args.bytes c.args.count = record { four = search rules; some = c.requires.some; most = c.requires.most } in
    let scan : EndsInContinuationBytes (drop (4 - c.args.count) c.args.bytes) c.args.count = rw c.if-count-eq1.true (scanned-1 _ _ (rw c.if-count-eq1.true at e) (sym c.is_continuation.ensures ∙ c.if-not-is_continuation.false) (λ more. absurd (omega arith))) in
    record { decodes = four_all _ _ _ e scan c.unexpected.ensures; steps = four_looked-all _ _ _ _ e scan (omega arith) }

pub returns-then-not-is_continuation-2 : goal.returns-then-not-is_continuation-2
returns-then-not-is_continuation-2 c =
    let e : IsEndOfFour c.args.bytes c.args.count = record { four = search rules; some = c.requires.some; most = c.requires.most } in
    let stops = sym c.is_continuation-2.ensures ∙ c.if-not-is_continuation-2.true in
    let scan = scanned-1 _ _ e (sym c.is_continuation.ensures ∙ c.if-not-is_continuation.false) (λ more. stops) in
    record { decodes = four_whole _ _ 1 _ e (omega arith) (omega arith) scan (rw (last_two _ e.four) c.two_or_unexpected.ensures); steps = four_looked _ _ 1 _ _ e scan (omega arith) (omega arith) }

pub returns-then-count-eq2 : goal.returns-then-count-eq2
returns-then-count-eq2 c =
    let e : IsEndOfFour c.args.bytes c.args.count = record { four = search rules; some = c.requires.some; most = c.requires.most } in
    let third = sym c.is_continuation-2.ensures ∙ c.if-not-is_continuation-2.false in
    let scan : EndsInContinuationBytes (drop (4 - c.args.count) c.args.bytes) c.args.count = rw c.if-count-eq2.true (scanned-2 _ _ (rw c.if-count-eq2.true at e) (omega arith) (sym c.is_continuation.ensures ∙ c.if-not-is_continuation.false) third (λ more. absurd (omega arith))) in
    record { decodes = four_all _ _ _ e scan c.unexpected-then-count-eq2.ensures; steps = four_looked-all _ _ _ _ e scan (omega arith) }

pub returns-then-not-is_continuation-3 : goal.returns-then-not-is_continuation-3
returns-then-not-is_continuation-3 c =
    let e : IsEndOfFour c.args.bytes c.args.count = record { four = search rules; some = c.requires.some; most = c.requires.most } in
    let third = sym c.is_continuation-2.ensures ∙ c.if-not-is_continuation-2.false in
    let stops = sym c.is_continuation-3.ensures ∙ c.if-not-is_continuation-3.true in
    let scan = scanned-2 _ _ e (omega arith) (sym c.is_continuation.ensures ∙ c.if-not-is_continuation.false) third (λ more. stops) in
    record { decodes = four_whole _ _ 2 _ e (omega arith) (omega arith) scan (rw (last_three _ e.four) c.three_or_unexpected.ensures); steps = four_looked _ _ 2 _ _ e scan (omega arith) (omega arith) }

pub returns-then-count-eq3 : goal.returns-then-count-eq3
returns-then-count-eq3 c =
    let e : IsEndOfFour c.args.bytes c.args.count = record { four = search rules; some = c.requires.some; most = c.requires.most } in
    let third = sym c.is_continuation-2.ensures ∙ c.if-not-is_continuation-2.false in
    let second = sym c.is_continuation-3.ensures ∙ c.if-not-is_continuation-3.false in
    let scan : EndsInContinuationBytes (drop (4 - c.args.count) c.args.bytes) c.args.count = rw c.if-count-eq3.true (scanned-3 _ _ (rw c.if-count-eq3.true at e) (omega arith) (sym c.is_continuation.ensures ∙ c.if-not-is_continuation.false) third second) in
    record { decodes = four_all _ _ _ e scan c.unexpected-then-count-eq3.ensures; steps = four_looked-all _ _ _ _ e scan (omega arith) }

pub returns : goal.returns
returns c =
    let e : IsEndOfFour c.args.bytes c.args.count = record { four = search rules; some = c.requires.some; most = c.requires.most } in
    let third = sym c.is_continuation-2.ensures ∙ c.if-not-is_continuation-2.false in
    let second = sym c.is_continuation-3.ensures ∙ c.if-not-is_continuation-3.false in
    let scan = scanned-3 _ _ e (omega arith) (sym c.is_continuation.ensures ∙ c.if-not-is_continuation.false) third second in
    record { decodes = four_whole _ _ 3 _ e (omega arith) (omega arith) scan (rw (take_four _ e.four) c.four_or_unexpected.ensures); steps = four_looked _ _ 3 _ _ e scan (omega arith) (omega arith) }
