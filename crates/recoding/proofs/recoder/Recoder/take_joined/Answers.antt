use Rattle.std.proofs.Common.{◌≡◌, ◌+◌, ◌-◌, ◌≤◌, ◌++◌, length, min, drop, take, arith, ap, sym, ◌∙◌, length-append, length-drop, length-take}
use Rattle.std.proofs.lemmas.List.{drop-drop, take_all, take_rest}
use Rattle.recoding.specs.Recoded.{Recoding}
use Rattle.recoding.proofs.RoomLemmas.{cut_front}
use Rattle.recoding.proofs.RoomRuns.{FillsPlace-more}
use Rattle.recoding.proofs.Taking.{IsFullBy-joined, IsFullBy-kept, Takes-both, Takes-joined, held_as, never_both}
use Rattle.recoding.proofs.recoder.Recoder.take_joined.Goals.{then-first-via-then-first, then-first-via-else-first+then-part-le3}
use Rattle.recoding.proofs.recoder.Recoder.take_joined.Goals as goal

-- All that is left is at the end of the array.

pub returns-then-first : goal.returns-then-first
returns-then-first c =
    let part = c.args.part.now in
    let first = c.recode_into-first in
    let n = first.result.read in
    let joined = c.join-len.result.0 in
    let len = c.join-len.result.1 in
    let stop = c.min-end.result in
    let from = ap (λ (x : Recoding). x.from) c.self.view_is in
    let to = ap (λ (x : Recoding). x.to) c.self.view_is in
    let held = ap (λ (x : Recoding). length x.held) c.self.view_is in
    let bytes = c.join-len.ensures.bytes ∙ ap (λ (x : Recoding). x.held ++ take 3 part) c.self.view_is in
    let size = c.join-len.ensures.len ∙ ap (λ k. k + min 3 (length part)) held in
    let inside : n ≤ len = omega (arith, first.ensures.runs.within, length-take len joined) in
    let least = c.min-end.ensures in
    let sum : length c.args.self.now.held + (stop - c.len-count.result) ≡ stop = omega (arith, least, size, held, c.len-count.ensures.len, c.len-count.ensures.few) in
    let kept = held_as c.self.view_is c.hold.ensures in
    record {
      takes = Takes-joined joined len stop _ _ from to bytes size first.ensures.runs least sum kept;
      full = λ is. IsFullBy-joined _ c.args.self.now _ part joined len stop n _ _ _ _ from to bytes size inside least sum kept (first.ensures.full is);
      short = first.ensures.short;
      read = λ ends. elim c.then-first.branch [
        | then-first-via-then-first w ↦ never_both _ w.if-first.true ends
        | then-first-via-else-first+then-part-le3 w ↦ omega (arith, least, size, held, c.len-count.ensures.len, first.ensures.waits ends, length-take len joined, ap length bytes, w.if-part-le3.true)
      ];
      waits = λ ends.
          let whole : length (take len joined) ≡ len = omega (arith, ap length bytes, size, length-append c.args.self.now.held (take 3 part), length-take 3 part) in
          let all : c.hold.new.self ≡ drop n (take len joined) =
          c.hold.ensures ∙ cut_front n stop len joined inside (omega (arith, least)) ∙ take_all (stop - n) (drop n (take len joined)) (omega (arith, least, first.ensures.waits ends, whole, length-drop n (take len joined))) in
          rw (all, sym from) (first.ensures.lacks ends);
    }

-- The rest of the part follows.

pub returns : goal.returns
returns c =
    let part = c.args.part.now in
    let first = c.recode_into-first in
    let then = c.recode_into-then in
    let joined = c.join-len.result.0 in
    let len = c.join-len.result.1 in
    let next = then.result.read in
    let end = c.min-end-2.result in
    let start = first.result.read - c.len-count.result in
    let rest = take_rest part start in
    let from = ap (λ (x : Recoding). x.from) c.self.view_is in
    let to = ap (λ (x : Recoding). x.to) c.self.view_is in
    let held = ap (λ (x : Recoding). length x.held) c.self.view_is in
    let bytes = c.join-len.ensures.bytes ∙ ap (λ (x : Recoding). x.held ++ take 3 part) c.self.view_is in
    let size = c.join-len.ensures.len ∙ ap (λ k. k + min 3 (length part)) held in
    let whole : length (take len joined) ≡ len = omega (arith, ap length bytes, size, length-append c.args.self.now.held (take 3 part), length-take 3 part) in
    let at : first.result.read ≡ length c.args.self.now.held + start = omega (arith, whole, size, held, c.len-count.ensures.len, c.if-part-le3.false, first.ensures.waits c.if-first.false) in
    let left : length (drop start part) ≡ length part - start = length-drop start part in
    let shown : length (take (length part - start) (drop start part)) ≡ length part - start = ap length rest ∙ left in
    let least : next + (end - next) ≡ min (length (drop start part)) (next + 3) = omega (arith, c.min-end-2.ensures, shown, left, then.ensures.runs.within) in
    let sum : start + end ≡ start + (next + (end - next)) = omega (arith, least, c.min-end-2.ensures, shown, left, then.ensures.runs.within) in
    let kept = held_as c.self.view_is (rw rest at c.hold-2.ensures) in
    let after : drop (start + end) part ≡ drop (next + (end - next)) (drop start part) = ap (λ x. drop x part) sum ∙ sym (drop-drop (next + (end - next)) start part) in
    record {
      takes = Takes-both FillsPlace-more start (end - next) _ _ from to (rw bytes at first.ensures.runs) at (rw rest at then.ensures.runs) least sum kept;
      full = λ is. rw (sym first.auto.room) (IsFullBy-kept _ c.args.self.now _ part (drop start part) next (end - next) _ _ _ _ from to after kept (rw rest at (then.ensures.full is)));
      short = λ is. rw (sym first.auto.room) (then.ensures.short is);
      read = λ ends. omega (arith, c.min-end-2.ensures, shown, then.ensures.waits ends, at, size, first.ensures.runs.within, whole, c.if-part-le3.false);
      waits = λ ends.
          let all : c.hold-2.new.self ≡ drop next (take (length part - start) (drop start part)) =
          c.hold-2.ensures ∙ take_all (end - next) (drop next (take (length part - start) (drop start part)))
          (omega (arith, c.min-end-2.ensures, shown, then.ensures.waits ends, length-drop next (take (length part - start) (drop start part)))) in
          rw (all, sym from) (then.ensures.lacks ends);
    }
