use Rattle.std.proofs.Common.{◌≡◌, ◌∙◌, ◌++◌, ◌∷◌, ◌+◌, ◌-◌, ap, sym, refl, take, drop, length, append_assoc}
use Rattle.std.proofs.lemmas.List.{drop-drop}
use borrow.Rule.Slice.PartMut.{put_mid}
use Rattle.std.specs.List.{flat_map}
use Rattle.utf_base.specs.Code.{utf8}
use Rattle.encode_unicode.specs.Sources.{Splitting, unsent}
use Rattle.utf_base.proofs.JoinedLengths.{some_utf8}
use Rattle.encode_unicode.proofs.Refills.{refilled, refilled_from, less_left}
use Rattle.encode_unicode.proofs.utf8_splitter.Utf8CharSplitter.read.Goals as goal

pub loop-count-init : goal.loop-count-init
loop-count-init g c =
    let first = refilled c.take-count.ensures.count c.take-count.ensures.written c.take-count.ensures.left in
    record {
      within = first.within;
      can = rw (← c.self.view_is) at c.requires;
      none = first.none;
      after = first.after;
      same = λ rest listed.
          sym (append_assoc (take c.take-count.result c.take-count.new.buf) c.take-count.new.self (flat_map utf8 (rest c.self.inside.source)))
          ∙ ap (λ xs. xs ++ flat_map utf8 (rest c.self.inside.source)) first.front
          ∙ ap (λ (v : Splitting g.row.I.Denot). unsent utf8 rest v) c.self.view_is;
    }

pub loop-count-preserved : goal.loop-count-preserved
loop-count-preserved g c =
    let n = c.loop-count.count in
    let k = c.send-begun.result.1 in
    let put = put_mid n (length c.loop-count.buf - n) c.loop-count.buf c.send-begun.new.buf in
    let more = refilled_from c.loop-count.buf c.send-begun.new.buf (utf8 c.in-Some.c) c.send-begun.result.0 c.loop-count.count c.send-begun.result.1 c.loop-count.invariant.within
    (refilled c.send-begun.ensures.count c.send-begun.ensures.written c.send-begun.ensures.left) in
    record {
      within = more.within;
      can = c.in-Some.ensures.goes.keeps;
      none = more.none;
      after = more.after ∙ sym (drop-drop k n c.loop-count.buf) ∙ ap (drop k) c.loop-count.invariant.after ∙ drop-drop k n c.args.buf.now;
      same = λ rest listed.
          let next : rest c.loop-count.self-inside.source ≡ c.in-Some.c ∷ rest c.next.new.self = listed _ _ _ c.in-Some.ensures.steps in
          let joined : c.loop-count.self-inside.begun ++ flat_map utf8 (rest c.loop-count.self-inside.source) ≡ utf8 c.in-Some.c ++ flat_map utf8 (rest c.next.new.self)
          = rw (c.loop-count.invariant.none c.loop-count-test.true, next) refl in
          sym (append_assoc (take (n + k) put) c.send-begun.result.0 (flat_map utf8 (rest c.next.new.self)))
          ∙ ap (λ xs. xs ++ flat_map utf8 (rest c.next.new.self)) more.front
          ∙ append_assoc (take n c.loop-count.buf) (utf8 c.in-Some.c) (flat_map utf8 (rest c.next.new.self))
          ∙ ap (λ xs. take n c.loop-count.buf ++ xs) (sym joined)
          ∙ c.loop-count.invariant.same rest listed;
    }

pub loop-count-smaller : goal.loop-count-smaller
loop-count-smaller g c =
    let n = c.loop-count.count in
    let k = c.send-begun.result.1 in
    let part = refilled c.send-begun.ensures.count c.send-begun.ensures.written c.send-begun.ensures.left in
    let some = some_utf8 c.in-Some.c in
    less_left c.loop-count.buf c.send-begun.new.buf (utf8 c.in-Some.c) n k c.loop-count-test.true some c.send-begun.ensures.count part.len
