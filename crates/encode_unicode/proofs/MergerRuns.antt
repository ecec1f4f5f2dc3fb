-- A run of a merger, derived from the run of its source.
use Rattle.std.proofs.Common.{◌≡◌, ℕ, suc, ◌+◌, ◌<◌, ◌≤◌, Bool, true, false, cond, List, [], ◌∷◌, ◌++◌, length, drop, get_or, Option, Some, None, Result, Ok, Err, refl, ap, sym, subst, ◌∙◌, arith, length-append, length-drop, append_assoc, append-nil}
use Rattle.std.specs.Iterator.{Yields, DrainsIf}
use Rattle.std.specs.Iterator.Runs.{Run, EachRunFrom, ItemsAre, SomeRun}
use Rattle.std.specs.Prelude.{option_map, slice_get, slice_index_or}
use Rattle.std.proofs.iter.runs.Lists.{nth_read, slice_get_within}
use Rattle.std.proofs.iter.runs.Made.{at-is, run, took}
use Rattle.std.proofs.lemmas.List.{nil_from_length, take-append-drop}
use Rattle.utf_base.specs.Scalar.{IsScalar}
use Rattle.encode_unicode.specs.Mergers.{Gave, Merging, MergerNext, IsMergerRun, TakesFront, unasked}
use Rattle.encode_unicode.specs.Pieces.{Gives}
use Rattle.encode_unicode.specs.Sources.{IsListed}
use Rattle.encode_unicode.proofs.MergerSteps.{gave_more, gave_none}
use Rattle.encode_unicode.proofs.PieceRuns.{listed_run}
use Rattle.encode_unicode.proofs.RunTests.{first_of}
use Rattle.encode_unicode.proofs.SplitterRuns.{gives_front}

-- nothing is read if the source had ended
gave_ended : {S A : Type 0} (steps : S → Option A → S → Type 0) (s t : S) (e f : Bool) (xs : List A) → e ≡ true → Gave steps s e xs t f → (xs ≡ []) × (t ≡ s) × (f ≡ true)
gave_ended steps s t true f xs ends g = g
gave_ended steps s t false f xs ends g = absurd (cc ends)

-- calls from s gave xs and, if the source has ended or a last call ends it, then `None`
drained : {S A : Type 0} (steps : S → Option A → S → Type 0) (s t : S) (w e : Bool) (xs : List A) → Gave steps s false xs t e → (w ≡ true → (u : S) × Gave steps t e [] u true)
    → DrainsIf steps (cond w true e ≡ true) s xs
drained steps s t w true xs g last = (g.0, g.1, λ _. (t, g.2))
drained steps s t true false xs g last = let end = last refl in (t, g, λ _. (end.0, rw end.1.1 end.1.2))
drained steps s t false false xs g last = (t, g, λ e. absurd (cc e))

-- the front of a list, and what follows it
front_of : {T : Type 0} {source : T → Option ℕ → T → Type 0} (q : Run source) (xs : List ℕ) → ((k : ℕ) (d : ℕ) → k < q.len → option_map (λ y. y) (q.at k) ≡ Some (slice_index_or xs k d)) → q.len ≤ length xs
    → xs ≡ q.items ++ drop q.len xs
front_of q xs places short =
    let front = first_of q.items xs q.len (sym q.long) (λ k x e. there k x e) in
    sym (take-append-drop q.len xs) ∙ ap (λ zs. zs ++ drop q.len xs) (sym front)
  where
    there : (k : ℕ) (x : ℕ) → slice_get q.items k ≡ Some x → slice_get xs k ≡ Some x
    there k x e =
        let within : k < q.len = omega (arith, q.long, slice_get_within q.items k x e) in
        let at : q.at k ≡ Some x = at-is q k ∙ e in
        let same : Some x ≡ Some (get_or xs k x) = ap (option_map (λ y. y)) (sym at) ∙ places k x within in
        nth_read xs k x (omega arith) ∙ sym same

module _ {S E : Type 0} (code : ℕ → List ℕ) (kind : List ℕ → Option E) (Held : List ℕ → Type 0) (steps : S → Option ℕ → S → Type 0) (answers : List ℕ → List (Result ℕ E))
    (some : (s : ℕ) → IsScalar s → 0 < length (code s)) (none_left : answers [] ≡ []) (one_more : (xs ys : List ℕ) (r : Result ℕ E) → TakesFront code kind xs (Some r) ys → answers xs ≡ r ∷ answers ys) where
  -- a result takes at least one element
  shorter : (xs ys : List ℕ) (r : Result ℕ E) → TakesFront code kind xs (Some r) ys → suc (length ys) ≤ length xs
  shorter xs ys (Ok s) h = omega (arith, some s h.0, ap length h.1, length-append (code s) ys)
  shorter xs ys (Err k) h = omega (arith, ap length h.1)

  -- the results of calls of a merger, and the items that its source gave to them
  record Answered (m : Merging S) (rs : List (Result ℕ E)) (n : Merging S) : Type 0 where
    ys : List ℕ
    gave : Gave steps m.source m.ended ys n.source n.ended
    cut : (later : List ℕ) → (n.ended ≡ true → later ≡ []) → answers (m.held ++ (ys ++ later)) ≡ rs ++ answers (n.held ++ later)
    short : length rs + length n.held ≤ length m.held + length ys

  answered : (rs : List (Result ℕ E)) (m n : Merging S) → Yields (MergerNext code kind Held steps) m rs n → Answered m rs n
  answered [] m n y = subst (Answered m []) y (record { ys = []; gave = gave_none steps m.source m.ended; cut = λ later ends. refl; short = omega arith })
  answered (r ∷ rs) m n y =
      let mid = y.0 in
      let one = y.1.reads in
      let rest = answered rs mid n y.2 in
      let none : mid.ended ≡ true → (rest.ys ≡ []) × (n.ended ≡ true) = λ ends. let still = gave_ended steps mid.source n.source mid.ended n.ended rest.ys ends rest.gave in (still.0, still.2) in
      let less = shorter (m.held ++ (one.given ++ [])) (mid.held ++ []) r (one.settles [] (λ ends. refl)) in
      record {
        ys = one.given ++ rest.ys;
        gave = gave_more steps m.source mid.source n.source m.ended mid.ended n.ended one.given rest.ys one.gave rest.gave;
        cut = λ later ends.
            let nothing : mid.ended ≡ true → rest.ys ++ later ≡ [] = λ over. let e = none over in rw (e.0, ends e.1) refl in
            ap (λ zs. answers (m.held ++ zs)) (append_assoc one.given rest.ys later)
            ∙ one_more (m.held ++ (one.given ++ (rest.ys ++ later))) (mid.held ++ (rest.ys ++ later)) r (one.settles (rest.ys ++ later) nothing)
            ∙ ap (λ zs. r ∷ zs) (rest.cut later ends);
        short = omega (arith, rest.short, less, length-append m.held (one.given ++ []), length-append one.given [], length-append mid.held [], length-append one.given rest.ys);
      }

  -- the last call of a whole run: nothing was buffered, and the source gave nothing more
  record Ended (n : Merging S) : Type 0 where
    held : n.held ≡ []
    after : S
    gave : Gave steps n.source n.ended [] after true

  ended : (n u : Merging S) → MergerNext code kind Held steps n None u → Ended n
  ended n u h =
      let none = h.reads.settles [] (λ ends. refl) in
      let len : length (n.held ++ (h.reads.given ++ [])) ≡ 0 = ap length none.0 in
      let held : n.held ≡ [] = nil_from_length n.held (omega (arith, length-append n.held (h.reads.given ++ []))) in
      let given : h.reads.given ≡ [] = nil_from_length h.reads.given (omega (arith, length-append n.held (h.reads.given ++ []), length-append h.reads.given [])) in
      record { held = held; after = u.source; gave = subst (λ ys. Gave steps n.source n.ended ys u.source true) given (subst (λ f. Gave steps n.source n.ended h.reads.given u.source f) h.ends h.reads.gave) }

  pub merger_runs : (s : S) (m : Merging S) → m ≡ unasked s → EachRunFrom (MergerNext code kind Held steps) m (λ p. SomeRun steps s (λ q. IsMergerRun answers p q))
  merger_runs s m e p seen from =
      let ran = took p in
      let n = ran.0 in
      let begun : p.from ≡ unasked s = from ∙ e in
      let a : Answered (unasked s) p.items n = answered p.items (unasked s) n (subst (λ v. Yields (MergerNext code kind Held steps) v p.items n) begun ran.1) in
      let last : p.whole ≡ true → Ended n = λ whole. let end = ran.2 whole in ended n end.0 end.1 in
      let q = run steps s a.ys (cond p.whole true n.ended) (drained steps s n.source p.whole n.ended a.ys a.gave (λ whole. let end = last whole in (end.after, end.gave))) in
      let over : p.whole ≡ true → q.whole ≡ true = λ whole. either p.whole n.ended whole in
      let over_source : n.ended ≡ true → q.whole ≡ true = λ ends. both p.whole n.ended ends in
      let no_more : p.whole ≡ true → (more : List ℕ) → more ≡ [] → answers (n.held ++ more) ≡ [] = λ whole more none. rw ((last whole).held, none) none_left in (
        q,
        refl,
        (
          over,
          omega (arith, p.long, a.short),
          (λ whole.
              sym (ap answers (sym (append-nil a.ys)) ∙ a.cut [] (λ ends. refl) ∙ ap (λ zs. p.items ++ zs) (no_more whole [] refl) ∙ append-nil p.items)),
          (λ xs short all places.
              let more = drop q.len xs in
              let cut : xs ≡ a.ys ++ more = front_of q xs places short in
              let none : q.whole ≡ true → more ≡ [] = λ whole. nil_from_length more (omega (arith, all whole, length-drop q.len xs)) in
              gives_front p (answers xs) (answers (n.held ++ more)) (ap answers cut ∙ a.cut more (λ ends. none (over_source ends)))
              (λ whole. ap length (no_more whole more (none (over whole))))),
        ),
      )
    where
      both : (w e : Bool) → e ≡ true → cond w true e ≡ true
      both true e h = refl
      both false e h = h

      either : (w e : Bool) → w ≡ true → cond w true e ≡ true
      either true e h = refl
      either false e h = absurd (cc h)

  -- a merger over a source whose list is known
  pub listed_merger_runs : (s : S) (m : Merging S) → m ≡ unasked s → (rest : S → List ℕ) → IsListed steps rest → EachRunFrom (MergerNext code kind Held steps) m (λ p. Gives p (answers (rest s)))
  listed_merger_runs s m e rest listed p seen from =
      let ran = merger_runs s m e p seen from in
      let items : ItemsAre ran.0 (rest s) = subst (λ v. ItemsAre ran.0 (rest v)) ran.1 (listed_run steps rest listed ran.0 ran.0.seen).0 in
      ran.2.3 (rest s) items.0 items.1 items.2
