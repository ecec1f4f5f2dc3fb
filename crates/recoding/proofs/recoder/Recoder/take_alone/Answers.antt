use Rattle.std.proofs.Common.{drop, arith, ap, sym, ◌≡◌, ◌∙◌, ◌-◌, length-drop}
use Rattle.std.proofs.lemmas.List.{take_all}
use Rattle.recoding.proofs.Taking.{IsFullBy-run, Takes-run, held_as}
use Rattle.recoding.proofs.recoder.Recoder.take_alone.Goals as goal

pub returns : goal.returns
returns c =
    let part = c.args.part.now in
    let done = c.recode_into-done in
    let n = done.result.read in
    let end = c.min-end.result in
    let from = ap (λ x. x.from) c.self.view_is in
    let to = ap (λ x. x.to) c.self.view_is in
    let kept = held_as c.self.view_is c.hold.ensures in
    record {
      takes = Takes-run _ _ from to c.requires.none done.ensures.runs c.min-end.ensures kept;
      full = λ is. IsFullBy-run _ c.args.self.now _ part n end _ _ _ from to (omega (arith, done.ensures.runs.within)) kept (done.ensures.full is);
      short = done.ensures.short;
      read = λ ends. omega (arith, c.min-end.ensures, done.ensures.waits ends);
      waits = λ ends.
          let all : c.hold.new.self ≡ drop n part = c.hold.ensures ∙ take_all (end - n) (drop n part) (omega (arith, c.min-end.ensures, done.ensures.waits ends, length-drop n part)) in
          rw (all, sym from) (done.ensures.lacks ends);
    }
