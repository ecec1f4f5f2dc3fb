use Rattle.std.proofs.Common.{◌≡◌, ◌+◌, ◌-◌, ◌++◌, [], length, take, drop, arith, refl, ap, sym, ◌∙◌, append-nil, length-append, length-drop}
use Rattle.std.proofs.lemmas.List.{drop-drop, drop_all, take_rest}
use Rattle.recoding.specs.Recoded.{Recoding}
use Rattle.recoding.specs.Strict.{AwaitsKind, BeginsChar, BeginsFault}
use Rattle.recoding.proofs.StrictSteps.{EndsFeed-fault, fault_parts, pass_left}
use Rattle.recoding.proofs.Taking.{held_as}
use Rattle.recoding.proofs.recoder.Recoder.end_run.Goals as goal

pub returns-in-Char : goal.returns-in-Char
returns-in-Char c =
    let r = c.args.self.now in
    let part = c.args.part.now in
    let n = c.args.run.read in
    let now = c.drop_front.new.self in
    let held : now ≡ drop n r.held = c.drop_front.ensures.held ∙ ap (λ (x : Recoding). drop n x.held) c.self.view_is in
    let more : c.drop_front.result ≡ n - length r.held = c.drop_front.ensures.more ∙ ap (λ (x : Recoding). n - length x.held) c.self.view_is in
    let left = pass_left n c.drop_front.result r.held now part held more in
    let d : BeginsChar r.from (drop n (r.held ++ part)) _ _ = rw c.in-Char.is at c.requires.first in
    record {
      fault = [];
      left = left;
      ends = λ room longer. (refl, record { scalar = _; len = _; begins = rw left at d; longer = rw c.in-Char.is at longer });
      within = omega (arith, more, c.requires.within);
      same = held_as c.self.view_is refl;
      few = omega (arith, ap length held, length-drop n r.held, c.requires.few);
    }

pub overflow_add-run : goal.overflow_add-run
overflow_add-run c =
    let f : BeginsFault c.args.self.now.from (drop c.args.run.read (c.args.self.now.held ++ c.args.part.now)) c.in-Fault.kind c.in-Fault.len = rw c.in-Fault.is at c.requires.first in
    omega (arith, f.within, c.requires.few, length-drop c.args.run.read (c.args.self.now.held ++ c.args.part.now), length-append c.args.self.now.held c.args.part.now)

pub returns-in-Fault : goal.returns-in-Fault
returns-in-Fault c =
    let r = c.args.self.now in
    let part = c.args.part.now in
    let n = c.args.run.read in
    let len = c.in-Fault.len in
    let read = c.drop_front-read.result in
    let now = c.drop_front-read.new.self in
    let held : now ≡ drop (n + len) r.held = c.drop_front-read.ensures.held ∙ ap (λ (x : Recoding). drop (n + len) x.held) c.self.view_is in
    let more : read ≡ n + len - length r.held = c.drop_front-read.ensures.more ∙ ap (λ (x : Recoding). n + len - length x.held) c.self.view_is in
    let w = drop n (r.held ++ part) in
    let f : BeginsFault r.from w c.in-Fault.kind len = rw c.in-Fault.is at c.requires.first in
    let left : drop len w ≡ now ++ drop read part = drop-drop len n (r.held ++ part) ∙ pass_left (n + len) read r.held now part held more in
    record {
      fault = take len w;
      left = fault_parts len w now (drop read part) left;
      ends = λ room longer. rw (c.faulty.ensures, c.len.ensures.len) (EndsFeed-fault r.from r.to w now (drop read part) c.in-Fault.kind len room f left);
      within = omega (arith, more, c.requires.within, f.within, length-drop n (r.held ++ part), length-append r.held part);
      same = held_as c.self.view_is refl;
      few = omega (arith, ap length held, length-drop (n + len) r.held, c.requires.few);
    }

pub returns-in-Undecided : goal.returns-in-Undecided
returns-in-Undecided c =
    let r = c.args.self.now in
    let part = c.args.part.now in
    let n = c.args.run.read in
    let passed = c.drop_front-read-in-Undecided in
    let now = c.shift.new.self in
    let before : passed.new.self ≡ drop n r.held = passed.ensures.held ∙ ap (λ (x : Recoding). drop n x.held) c.self.view_is in
    let more : passed.result ≡ n - length r.held = passed.ensures.more ∙ ap (λ (x : Recoding). n - length x.held) c.self.view_is in
    let u : AwaitsKind r.from (drop n (r.held ++ part)) = rw c.in-Undecided.is at c.requires.first in
    let left = pass_left n passed.result r.held _ part before more in
    let none : drop (length part) part ≡ [] = drop_all (length part) part (omega arith) in
    let all : drop n (r.held ++ part) ≡ now = left ∙ ap (λ xs. passed.new.self ++ xs) (sym (take_rest part passed.result)) ∙ sym c.shift.ensures in
    record {
      fault = [];
      left = all ∙ sym (append-nil now) ∙ ap (λ xs. now ++ xs) (sym none);
      ends = λ room longer. (refl, none, rw all at u);
      within = omega arith;
      same = held_as c.self.view_is refl;
      few = omega (arith, u.few, ap length all);
    }
