use Rattle.std.proofs.Common.{◌+◌, ◌-◌, ◌^◌, ◌<◌, ◌≤◌, length, ap, ◌∙◌, arith, ⊎_elim, inl, inr}
use Rattle.std.proofs.lemmas.Bool.{cases_lt}
use Rattle.std.proofs.lemmas.List.{take_all}
use Rattle.std.specs.List.{concat}
use Rattle.text_buffers.proofs.ChunkLists.{spot_within}
use Rattle.text_buffers.proofs.RowLemmas.{spot_of_mark}
use Rattle.text_buffers.proofs.buffers.chunks.Chunks.reach.Goals as goal

pub returns-clause-surrounds : goal.returns-clause-surrounds
returns-clause-surrounds g c =
    let chunks = c.args.self.now in
    let s = c.args.start in
    let e = c.args.end in
    let last = c.find_end-last.result in
    let low = c.requires.near in
    let small = c.len-count.ensures.held.small in
    let mark = c.args.mark in
    let within : last.place ≤ length (concat chunks) = spot_within chunks last.number last.place c.find_end-last.ensures.spot in
    record {
      first = spot_of_mark chunks mark c.requires.mark;
      last = c.find_end-last.ensures.spot;
      in_order = c.find_end-last.ensures.ordered;
      ordered = c.requires.ordered;
      within = c.requires.within;
      before = ⊎_elim (λ (near : s < 3). inl (omega arith)) (λ (far : 3 ≤ s). inr (omega arith)) (cases_lt s 3);
      following =
          ⊎_elim
          (λ (some : last.number < length chunks).
          let high : c.saturating_add.result ≤ last.place = c.find_end-last.ensures.following some in
          ⊎_elim (λ (long : 2 ^ 64 - 1 < e + 3). inl (omega arith)) (λ (short : e + 3 ≤ 2 ^ 64 - 1). inr (omega arith)) (cases_lt (2 ^ 64 - 1) (e + 3)))
          (λ (end : length chunks ≤ last.number).
          let all = ap (λ cs. length (concat cs)) (take_all last.number chunks end) in
          inl (c.find_end-last.ensures.spot.begins ∙ all))
          (cases_lt last.number (length chunks));
    }
