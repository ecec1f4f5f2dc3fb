use Rattle.std.proofs.Common.{◌≡◌, ◌<◌, ◌≤◌, get_or, arith, sym, ⊎_elim, inl, None}
use Rattle.std.proofs.lemmas.Bool.{cases_lt}
use Rattle.utf_base.specs.Kinds.{fault_kind}
use Rattle.utf_base.proofs.FrontLemmas.{asked-0, asked-1, no_fault_where_code}
use Rattle.text_runs.proofs.InnerLemmas.{asked_len, inner_code, inner_fault, inner_none}
use Rattle.text_runs.proofs.runs.piece_counts.front_inner.Goals as goal

pub returns-then-bytes-lt194 : goal.returns-then-bytes-lt194
returns-then-bytes-lt194 c =
    let w = c.args.bytes.now in
    let below = c.if-bytes-lt194.true in
    ⊎_elim
    (λ (ascii : get_or w 0 0 < 0x80). let asks = asked-1 (get_or w 0 0) ascii in sym (inner_none w (omega arith)))
    (λ (above : 0x80 ≤ get_or w 0 0). let asks = asked-0 (get_or w 0 0) (inl (above, below)) in sym (inner_none w (omega arith)))
    (cases_lt (get_or w 0 0) 0x80)

pub returns-in-Ok : goal.returns-in-Ok
returns-in-Ok c =
    let w = c.args.bytes.now in
    let (stands, len) = c.in-Ok.ensures.decodes in
    let none : fault_kind w ≡ None = no_fault_where_code w _ stands in
    let same = asked_len w _ c.in-Ok.len stands len in
    omega (arith, inner_code w none)

pub returns-in-Err : goal.returns-in-Err
returns-in-Err c = sym (inner_fault c.args.bytes.now _ c.in-Err.ensures.decodes)
