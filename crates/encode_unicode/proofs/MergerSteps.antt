-- The elements that one call of a merger reads, and its result. All of it is generic in the code.
use Rattle.std.proofs.Common.{◌≡◌, ℕ, suc, subst, List, [], ◌∷◌, ◌++◌, Some, None, Ok, Bool, true, false, length, refl, ap, sym, ◌∙◌, arith, length-append, append_assoc, append-nil}
use Rattle.std.specs.Iterator.{Count, MakesProgress, Yields}
use Rattle.std.specs.Prelude.{Option, Result, MatchOption}
use Rattle.utf_base.specs.Decoded.{unless_fault}
use Rattle.encode_unicode.specs.HeldWord.{Kept}
use Rattle.encode_unicode.specs.Mergers.{Gave, Merging, MergerNext, TakesFront, still, unread_count}
use Rattle.encode_unicode.specs.Reading.{Answers, ReadsElements, TakesFirst}

-- calls that follow one another
pub yields_joined : {S A : Type 0} (steps : S → Option A → S → Type 0) (s t u : S) (xs ys : List A) → Yields steps s xs t → Yields steps t ys u → Yields steps s (xs ++ ys) u
yields_joined steps s t u [] ys one two = rw one two
yields_joined steps s t u (x ∷ xs) ys one two = (one.0, one.1, yields_joined steps one.0 t u xs ys one.2 two)

pub gave_none : {S A : Type 0} (steps : S → Option A → S → Type 0) (s : S) (e : Bool) → Gave steps s e [] s e
gave_none steps s true = (refl, refl, refl)
gave_none steps s false = refl

pub gave_more : {S A : Type 0} (steps : S → Option A → S → Type 0) (s t u : S) (e f g : Bool) (xs ys : List A) → Gave steps s e xs t f → Gave steps t f ys u g → Gave steps s e (xs ++ ys) u g
gave_more steps s t u true true g xs ys one two = (rw (one.0, two.0) refl, two.1 ∙ one.1, two.2)
gave_more steps s t u true false g xs ys one two = absurd (cc one.2)
gave_more steps s t u false true true xs ys one two = rw (two.0, two.1, append-nil xs) one
gave_more steps s t u false true false xs ys one two = absurd (cc two.2)
gave_more steps s t u false false true xs ys one two = (two.0, yields_joined steps s t two.0 xs ys one two.1, two.2)
gave_more steps s t u false false false xs ys one two = yields_joined steps s t u xs ys one two

pub reads_none : {S A : Type 0} {can_next : S → Type 0} {remaining : S → Count} {steps : S → Option A → S → Type 0} {s : S} {e : Bool} → (e ≡ false → can_next s) → ReadsElements can_next remaining steps s e [] s e
reads_none {S} {A} {can_next} {remaining} {steps} {s} {e} can = record {
  gives = λ rest listed. refl;
  gave = gave_none steps s e;
  can = can;
  stays = λ ends. (ends, refl);
  spent = λ rest listed spent. spent;
  fewer = λ finite. (finite, omega arith);
}

pub reads_more : {S A : Type 0} {can_next : S → Type 0} {remaining : S → Count} {steps : S → Option A → S → Type 0} {s t u : S} {e f g : Bool} {xs ys : List A}
    → ReadsElements can_next remaining steps s e xs t f → ReadsElements can_next remaining steps t f ys u g → ReadsElements can_next remaining steps s e (xs ++ ys) u g
reads_more {S} {A} {can_next} {remaining} {steps} {s} {t} {u} {e} {f} {g} {xs} {ys} one two = record {
  gives = λ rest listed. one.gives rest listed ∙ ap (λ zs. xs ++ zs) (two.gives rest listed) ∙ sym (append_assoc xs ys (still rest u g));
  gave = gave_more steps s t u e f g xs ys one.gave two.gave;
  can = two.can;
  stays = λ ends. let a = one.stays ends in let b = two.stays a.0 in (b.0, b.1 ∙ a.1);
  spent = λ rest listed spent. two.spent rest listed (one.spent rest listed spent);
  fewer = λ finite.
      let a = one.fewer finite in
      let b = two.fewer a.0 in
      let len = length-append xs ys in
      (b.0, omega arith);
}

-- a source that has ended gives nothing
nothing_still : {S A : Type 0} (rest : S → List A) (s : S) (e : Bool) → e ≡ true → still rest s e ≡ []
nothing_still rest s e ends = rw ends refl

-- One call of `next`: the elements `held` and those that are read first, xs, begin with the one that the
-- result is for.
pub merger_next : {S E : Type 0} (code : ℕ → List ℕ) (kind : List ℕ → Option E) (Held : List ℕ → Type 0) {can_next : S → Type 0} {remaining : S → Count} {steps : S → Option ℕ → S → Type 0}
    {held xs : List ℕ} {s u t : S} {e d f : Bool} {first : ℕ} {old : List ℕ} {r : Result ℕ E} {new : List ℕ}
    → ReadsElements can_next remaining steps s e xs u d → held ++ xs ≡ first ∷ old → Answers code kind can_next remaining steps first old u d r new t f → Held new
    → MergerNext code kind Held steps (record { held = held; source = s; ended = e }) (Some r) (record { held = new; source = t; ended = f })
merger_next code kind Held {can_next} {remaining} {steps} {held} {xs} {s} {u} {t} {e} {d} {f} {first} {old} {r} {new} reads begins a keeps = record {
  takes = λ rest listed.
      let all : held ++ still rest s e ≡ (first ∷ old ++ a.more) ++ still rest t f
      = ap (λ zs. held ++ zs) (reads.gives rest listed)
      ∙ sym (append_assoc held xs (still rest u d))
      ∙ ap (λ zs. zs ++ still rest u d) begins
      ∙ ap (λ zs. (first ∷ old) ++ zs) (a.reads.gives rest listed)
      ∙ sym (append_assoc (first ∷ old) a.more (still rest t f)) in
      subst (λ zs. TakesFront code kind zs (Some r) (new ++ still rest t f)) (sym all) (a.settles (still rest t f) (nothing_still rest t f));
  reads = record {
    given = xs ++ a.more;
    gave = gave_more steps s u t e d f xs a.more reads.gave a.reads.gave;
    settles = λ later none.
        let all : held ++ ((xs ++ a.more) ++ later) ≡ (first ∷ old ++ a.more) ++ later
        = ap (λ zs. held ++ zs) (append_assoc xs a.more later) ∙ sym (append_assoc held xs (a.more ++ later)) ∙ ap (λ zs. zs ++ (a.more ++ later)) begins ∙ sym (append_assoc (first ∷ old) a.more later) in
        subst (λ zs. TakesFront code kind zs (Some r) (new ++ later)) (sym all) (a.settles later none);
  };
  held = keeps;
  none_held = a.clear;
  ends = tt;
  stays = λ ends. let p = reads.stays ends in let q = a.reads.stays p.0 in (q.0, q.1 ∙ p.1);
  spent = λ rest listed spent. a.reads.spent rest listed (reads.spent rest listed spent);
}

-- the merger has fewer elements left
pub merger_nearer : {S E : Type 0} (code : ℕ → List ℕ) (kind : List ℕ → Option E) {can_next : S → Type 0} {remaining : S → Count} {steps : S → Option ℕ → S → Type 0}
    {held xs : List ℕ} {s u t : S} {e d f : Bool} {first : ℕ} {old : List ℕ} {r : Result ℕ E} {new : List ℕ}
    → ReadsElements can_next remaining steps s e xs u d → held ++ xs ≡ first ∷ old → Answers code kind can_next remaining steps first old u d r new t f
    → MakesProgress (λ (m : Merging S). m.ended ≡ false → can_next m.source) (unread_count remaining) (record { held = held; source = s; ended = e }) (Some r) (record { held = new; source = t; ended = f })
merger_nearer code kind {can_next} {remaining} {steps} {held} {xs} {s} {u} {t} {e} {d} {f} {first} {old} reads begins a = record {
  on = λ finite.
      let one = reads.fewer finite in
      let two = a.reads.fewer one.0 in
      let len : length (held ++ xs) ≡ suc (length old) = ap length begins in
      let both = length-append held xs in
      (a.reads.can, two.0, omega arith);
  keeps = a.reads.can;
  rests = λ finite. tt;
}

-- the first of the unread elements is one that is buffered

pub takes_held : {S : Type 0} (Held : List ℕ → Type 0) (can_next : S → Type 0) (remaining : S → Count) (steps : S → Option ℕ → S → Type 0) {old : List ℕ} {s : S} {e : Bool} (r : Option ℕ) {new : List ℕ} {f : Bool}
    → (e ≡ false → can_next s) → (old ≡ [] → e ≡ true) → f ≡ e → MatchOption r ((old ≡ []) × (new ≡ [])) (λ x. old ≡ x ∷ new) → Held new
    → TakesFirst Held can_next remaining steps (record { held = old; ended = e }) s r (record { held = new; ended = f }) s
takes_held Held can_next remaining steps None can busy same h keeps = (rw same (reads_none can), h.0, h.1, same ∙ busy h.0)
takes_held Held can_next remaining steps {old} (Some x) can busy same h keeps = record {
  more = [];
  reads = rw same (reads_none can);
  begins = append-nil old ∙ h;
  held = keeps;
}

-- once it was taken, fewer are left
pub first_nearer : {S : Type 0} (Held : List ℕ → Type 0) (can_next : S → Type 0) (remaining : S → Count) (steps : S → Option ℕ → S → Type 0) (k : Kept) (s : S) (r : Option ℕ) (l : Kept) (t : S)
    → TakesFirst Held can_next remaining steps k s r l t
    → MakesProgress (λ (m : Merging S). m.ended ≡ false → can_next m.source) (unread_count remaining) (record { held = k.held; source = s; ended = k.ended }) r (record { held = l.held; source = t; ended = l.ended })
first_nearer Held can_next remaining steps k s None l t h = record {
  on = λ finite. tt;
  keeps = tt;
  rests = λ finite. (h.0.fewer finite).0;
}
first_nearer Held can_next remaining steps k s (Some x) l t h = record {
  on = λ finite.
      let read = h.reads.fewer finite in
      let len : length (k.held ++ h.more) ≡ suc (length l.held) = ap length h.begins in
      let both = length-append k.held h.more in
      (h.reads.can, read.0, omega arith);
  keeps = h.reads.can;
  rests = λ finite. tt;
}

-- the value if there is no fault
pub value_of_answer : {A E : Type 0} (fault : Option E) (x c : A) → unless_fault fault x ≡ Ok c → x ≡ c
value_of_answer None x c h = cc
value_of_answer (Some e) x c h = cc
