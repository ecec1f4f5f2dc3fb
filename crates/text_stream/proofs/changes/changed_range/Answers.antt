use Rattle.std.proofs.Common.{◌≡◌, ◌⊎◌, ◌+◌, ◌-◌, ◌<◌, ◌≤◌, length, min, arith, inl, inr, ⊎_elim}
use Rattle.std.proofs.lemmas.Bool.{cases_lt}
use Rattle.text_stream.proofs.ChangedRangeLemmas.{pieces_stay}
use Rattle.text_stream.proofs.changes.changed_range.Goals as goal

pub returns-clause-range : goal.returns-clause-range
returns-clause-range c =
    let xs = c.args.bytes.now in
    let s = min c.args.start (min c.args.end (length xs)) in
    let e = min c.args.end (length xs) in
    let from : c.saturating_sub.result ≡ s - 3 = omega arith in
    let to : c.saturating_add.result ≡ e + 3 = omega arith in
    let first = rw from at c.boundary_before.ensures.end in
    let last = rw to at c.boundary_after.ensures.end in
    let before = first.before in
    let far : (c.boundary_after.result ≡ length xs) ⊎ (e + 3 ≤ c.boundary_after.result) =
    ⊎_elim (λ (short : e + 3 < length xs). inr (last.after (omega arith))) (λ (long : length xs ≤ e + 3). inl (last.end long)) (cases_lt (e + 3) (length xs)) in
    record {
      before = omega arith;
      after = ⊎_elim (λ (all : c.boundary_after.result ≡ length xs). omega arith) (λ (near : e + 3 ≤ c.boundary_after.result). omega arith) far;
      start = first;
      end = last;
      stay = pieces_stay c.args.form xs s e _ _ (omega arith) (omega arith) before first.outside far last.within last.outside;
    }
