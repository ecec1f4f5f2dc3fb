use Rattle.std.proofs.Common.{◌≡◌, ◌+◌, ◌-◌, ◌≤◌, ◌++◌, length, min, drop, take, arith, ap, sym, ◌∙◌, length-append, length-drop, length-take}
use Rattle.std.proofs.lemmas.List.{take_all, take_rest}
use Rattle.recoding.specs.Outputs.{Extends-more}
use Rattle.recoding.specs.Recoded.{Recoding}
use Rattle.recoding.proofs.RoomLemmas.{cut_front}
use Rattle.recoding.proofs.Taking.{Takes-both, Takes-joined, held_as}
use Rattle.recoding.proofs.recoder.Recoder.append_joined.Goals as goal

-- All that is left is at the end of the array.

pub returns-then-part-le3-clause-takes : goal.returns-then-part-le3-clause-takes
returns-then-part-le3-clause-takes g c =
    let part = c.args.part.now in
    let first = c.recode_whole-first in
    let joined = c.join-len.result.0 in
    let len = c.join-len.result.1 in
    let from = ap (λ (x : Recoding). x.from) c.self.view_is in
    let to = ap (λ (x : Recoding). x.to) c.self.view_is in
    let held = ap (λ (x : Recoding). length x.held) c.self.view_is in
    let bytes = c.join-len.ensures.bytes ∙ ap (λ (x : Recoding). x.held ++ take 3 part) c.self.view_is in
    let size = c.join-len.ensures.len ∙ ap (λ k. k + min 3 (length part)) held in
    let whole : length (take len joined) ≡ len = omega (arith, ap length bytes, size, length-append c.args.self.now.held (take 3 part), length-take 3 part) in
    Takes-joined joined len len _ _ from to bytes size first.ensures.runs (omega (arith, first.ensures.waits, whole)) (omega (arith, size, c.if-part-le3.true)) (held_as c.self.view_is c.hold.ensures)

pub returns-then-part-le3-clause-waits : goal.returns-then-part-le3-clause-waits
returns-then-part-le3-clause-waits g c =
    let joined = c.join-len.result.0 in
    let len = c.join-len.result.1 in
    let n = c.recode_whole-first.result.read in
    let inside : n ≤ len = omega (arith, c.recode_whole-first.ensures.runs.within, length-take len joined) in
    let all : c.hold.new.self ≡ drop n (take len joined) =
    c.hold.ensures ∙ cut_front n len len joined inside (omega arith) ∙ take_all (len - n) (drop n (take len joined)) (omega (arith, length-take len joined, length-drop n (take len joined))) in
    rw (all, sym (ap (λ (x : Recoding). x.from) c.self.view_is)) c.recode_whole-first.ensures.lacks

-- The rest of the part follows.

pub returns-clause-takes : goal.returns-clause-takes
returns-clause-takes g c =
    let part = c.args.part.now in
    let first = c.recode_whole-first in
    let then = c.recode_whole-then in
    let joined = c.join-len.result.0 in
    let len = c.join-len.result.1 in
    let next = then.result.read in
    let start = first.result.read - c.len-count.result in
    let from = ap (λ (x : Recoding). x.from) c.self.view_is in
    let to = ap (λ (x : Recoding). x.to) c.self.view_is in
    let held = ap (λ (x : Recoding). length x.held) c.self.view_is in
    let bytes = c.join-len.ensures.bytes ∙ ap (λ (x : Recoding). x.held ++ take 3 part) c.self.view_is in
    let size = c.join-len.ensures.len ∙ ap (λ k. k + min 3 (length part)) held in
    let whole : length (take len joined) ≡ len = omega (arith, ap length bytes, size, length-append c.args.self.now.held (take 3 part), length-take 3 part) in
    let at : first.result.read ≡ length c.args.self.now.held + start = omega (arith, whole, size, held, c.len-count.ensures.len, c.if-part-le3.false, first.ensures.waits) in
    let rest = take_rest part start in
    let left : length (drop start part) ≡ length part - start = length-drop start part in
    let shown : length (take (length part - start) (drop start part)) ≡ length part - start = ap length rest ∙ left in
    let m = length part - start - next in
    let least : next + m ≡ min (length (drop start part)) (next + 3) = omega (arith, left, shown, then.ensures.waits, then.ensures.runs.within) in
    let sum : length part ≡ start + (next + m) = omega (arith, left, shown, then.ensures.runs.within, at, size, first.ensures.runs.within, whole, c.if-part-le3.false) in
    let kept = c.hold-2.ensures ∙ ap (λ k. take (k - next) (drop next (take (length part - start) (drop start part)))) shown ∙ ap (λ xs. take m (drop next xs)) rest in
    Takes-both Extends-more start m _ _ from to (rw bytes at first.ensures.runs) at (rw rest at then.ensures.runs) least sum (held_as c.self.view_is kept)

pub returns-clause-waits : goal.returns-clause-waits
returns-clause-waits g c =
    let then = c.recode_whole-then in
    let all = c.hold-2.ensures ∙ take_rest _ then.result.read in
    rw (all, sym (ap (λ (x : Recoding). x.from) c.self.view_is)) then.ensures.lacks
