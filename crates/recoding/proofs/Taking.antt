-- Parts that a recoder takes together with its carried-over bytes, step by step, and the results for its
-- callers.
use Rattle.std.proofs.Common.{◌≡◌, ℕ, ◌+◌, ◌-◌, ◌<◌, ◌≤◌, ⊎_elim, Bool, true, false, rules, List, [], ◌++◌, Option, length, min, take, drop, arith, refl, ap, ap₂, sym, ◌∙◌, subst, append_assoc, length-append, length-drop, length-take, take-append-drop}
use Rattle.std.proofs.lemmas.Bool.{cases_lt}
use Rattle.std.proofs.Math.Seq.{drop-append-add, take-append-add}
use Rattle.std.proofs.lemmas.List.{append-nil, drop_all, drop-append-le, drop-drop, take_all, take_rest, take-take}
use Rattle.std.specs.Prelude.{IsTrue, IsFalse, Vec, vec_capacity}
use Rattle.recoding.specs.declared.form.Form.{Form}
use Rattle.recoding.specs.declared.way.Way.{Way}
use Rattle.recoding.specs.declared.repair.Repair.{Repair}
use Rattle.recoding.specs.declared.way.Way.TheVariants.{Faults, Subparts, Table}
use Rattle.recoding.specs.Faults.{AddsUp, CountsFed, Replaces, ReplacesLast, fault_count, saturated}
use Rattle.recoding.specs.LossyBytes.{AddsAllLossy, AddsLastLossy, AddsLossy, FeedsLossy, FinishesLossy, lossy, lossy_outcome}
use Rattle.recoding.specs.Outputs.{Extends}
use Rattle.recoding.specs.Recoded.{Feeds, Finishes, IsRecoded, Lacks, Recoding}
use Rattle.recoding.specs.Repaired.{AddsAllRepaired, AddsLastRepaired, AddsRepaired, FeedsRepaired, FinishesRepaired, repaired, repaired_outcome}
use Rattle.recoding.specs.Replacing.{Becomes, BeginsLast, FillsPlace, IsFullBy, IsLastFullBy, NextIsLonger, Recodes, Takes, TakesAll, TakesLast, at_place, code_of, list_by, reads_by}
use Rattle.recoding.specs.Rooms.{ComesNearer, FeedsInto, FinishesInto, IsAmple}
use Rattle.recoding.proofs.Advancing.{Replaces-of}
use Rattle.recoding.proofs.Becoming.{Becomes-where, continues_of, ends_short, ends_some, ends_within, leaves_of, list_last}
use Rattle.recoding.proofs.Growing.{length_written, recoded_nothing}
use Rattle.recoding.proofs.LossyLists.{nothing_is_lossy}
use Rattle.recoding.proofs.Repairing.{nothing_is_repaired}
use Rattle.recoding.proofs.Recodes.{Recodes-front, Recodes-then}
use Rattle.recoding.proofs.RoomLemmas.{Decides-more, cut_front}

-- a recoder whose carried-over bytes were replaced
pub held_as : {r s : Recoding} {xs ys : List ℕ} → s ≡ r → xs ≡ ys → record (s) { held = xs } ≡ record (r) { held = ys }
held_as {r} {s} {xs} {ys} e f = ap₂ (λ (x : Recoding) zs. record (x) { held = zs }) e f

-- a run over some bytes left such ones, of which some are carried over, before the rest of the part
pub IsFullBy-kept : (way : Way) (s v : Recoding) (part w : List ℕ) (n m end room : ℕ) (from to : Form) → from ≡ s.from → to ≡ s.to → drop end part ≡ drop (n + m) w → v ≡ record (s) { held = take m (drop n w) }
    → NextIsLonger way from to (drop n w) room → IsFullBy way v part end room
IsFullBy-kept way s v part w n m end room from to e i after same full =
    let xs : List ℕ = drop n w in
    let rest : drop m xs ≡ drop end part = drop-drop m n w ∙ sym after in
    let left : xs ≡ take m xs ++ drop end part = sym (take-append-drop m xs) ∙ ap (λ ys. take m xs ++ ys) rest in
    let here : NextIsLonger way s.from s.to xs room = subst (λ y. NextIsLonger way s.from y xs room) i (subst (λ y. NextIsLonger way y to xs room) e full) in
    rw same (subst (λ ys. NextIsLonger way s.from s.to ys room) left here)

-- a run over a part did
pub IsFullBy-run : (way : Way) (s v : Recoding) (part : List ℕ) (n end room : ℕ) (from to : Form) → from ≡ s.from → to ≡ s.to → n ≤ end → v ≡ record (s) { held = take (end - n) (drop n part) }
    → NextIsLonger way from to (drop n part) room → IsFullBy way v part end room
IsFullBy-run way s v part n end room from to e i le same full =
    let whole : end ≡ n + (end - n) = omega arith in
    IsFullBy-kept way s v part part n (end - n) end room from to e i (ap (λ m. drop m part) whole) same full

-- a call with the front of the part did
pub IsFullBy-front : (way : Way) (v : Recoding) (part : List ℕ) (p end room : ℕ) → end ≤ length (take p part) → IsFullBy way v (take p part) end room → IsFullBy way v part end room
IsFullBy-front way v part p end room inside long =
    let left : List ℕ = v.held ++ drop end (take p part) in
    let d = long.begins in
    let rest : drop end (take p part) ++ drop p part ≡ drop end part = sym (drop-append-le end (take p part) (drop p part) inside) ∙ ap (drop end) (take-append-drop p part) in
    let more : NextIsLonger way v.from v.to (left ++ drop p part) room = record { scalar = long.scalar; len = long.len; begins = Decides-more (reads_by way v.from) left (drop p part) long.scalar long.len d; longer = long.longer } in
    subst (λ ys. NextIsLonger way v.from v.to ys room) (append_assoc v.held (drop end (take p part)) (drop p part) ∙ ap (λ ys. v.held ++ ys) rest) more

-- a run over the carried-over bytes and the first three of the part, at the front of an array, did
pub IsFullBy-joined : (way : Way) (r v : Recoding) (part joined : List ℕ) (len stop n end room : ℕ) (from to : Form) → from ≡ r.from → to ≡ r.to → take len joined ≡ r.held ++ take 3 part → len ≡ length r.held + min 3 (length part)
    → n ≤ len → stop ≡ min len (n + 3) → length r.held + end ≡ stop → v ≡ record (r) { held = take (stop - n) (drop n joined) } → NextIsLonger way from to (drop n (take len joined)) room → IsFullBy way v part end room
IsFullBy-joined way r v part joined len stop n end room from to e i bytes size inside least sum same full =
    let w : List ℕ = r.held ++ take 3 part in
    let all : length r.held + end ≡ n + (stop - n) = omega arith in
    let after : drop end (take 3 part) ≡ drop (n + (stop - n)) w = sym (drop-append-add r.held (take 3 part) end) ∙ ap (λ x. drop x w) all in
    let kept : take (stop - n) (drop n joined) ≡ take (stop - n) (drop n w) = cut_front n stop len joined inside (omega arith) ∙ ap (λ xs. take (stop - n) (drop n xs)) bytes in
    let here : IsFullBy way v (take 3 part) end room =
    IsFullBy-kept way r v (take 3 part) w n (stop - n) end room from to e i after (same ∙ ap (λ xs. record (r) { held = xs }) kept) (subst (λ xs. NextIsLonger way from to (drop n xs) room) bytes full) in
    IsFullBy-front way v part 3 end room (omega (arith, length-take 3 part)) here

pub never_both : {P : Type 0} (b : Bool) → IsTrue b → IsFalse b → P
never_both b is isnt = absurd cc

-- A part of the input, after the carried-over bytes.

module _ {O : Type 0} {appends : O → List ℕ → O → Type 0} {way : Way} where
  -- a run over the carried-over bytes and a part, which left some that are carried over
  pub Takes-kept : {s v : Recoding} {part : List ℕ} {old new : O} {n end k : ℕ} (w : List ℕ) (m : ℕ) (from to : Form) → from ≡ s.from → to ≡ s.to → s.held ++ part ≡ w → Recodes appends way from to w old new n k
      → n + m ≡ min (length w) (n + 3) → length s.held + end ≡ n + m → v ≡ record (s) { held = take m (drop n w) } → Takes appends way s part old new end k v
  Takes-kept {s} {v} {part} {old} {new} {n} {end} {k} w m from to e i whole g least sum same =
      let h : Recodes appends way s.from s.to w old new n k = subst (λ y. Recodes appends way s.from y w old new n k) i (subst (λ y. Recodes appends way y to w old new n k) e g) in
      let inside = h.within in
      let at : v.held ≡ take m (drop n w) = ap (λ x. x.held) same in
      let len : length w ≡ length s.held + length part = omega (arith, ap length whole, length-append s.held part) in
      let front : s.held ++ take end part ≡ take (n + m) w = sym (take-append-add s.held part end) ∙ ap₂ (λ x ys. take x ys) sum whole in
      let cut : take (n + m) w ≡ take (n + 3) w =
      ⊎_elim (λ (lt : length w < n + 3). take_all (n + m) w (omega arith) ∙ sym (take_all (n + 3) w (omega arith))) (λ (ge : n + 3 ≤ length w). let all : n + m ≡ n + 3 = omega arith in ap (λ x. take x w) all) (cases_lt (length w) (n + 3)) in
      let held : take 3 (drop n w) ≡ v.held =
      ⊎_elim
      (λ (lt : length w < n + 3). take_all 3 (drop n w) (omega (arith, length-drop n w)) ∙ sym (take_all m (drop n w) (omega (arith, length-drop n w))))
      (λ (ge : n + 3 ≤ length w). let all : 3 ≡ m = omega arith in ap (λ x. take x (drop n w)) all)
      (cases_lt (length w) (n + 3)) ∙ sym at in
      let some : length v.held ≡ m = omega (arith, ap length at, length-take m (drop n w), length-drop n w) in
      record {
        grown = h.grown;
        appended = h.appended;
        within = omega arith;
        short = omega (arith, h.short);
        fewer = omega (arith, h.few);
        becomes = Becomes-where (s.held ++ take end part) v.held (sym cut ∙ sym front) held h.becomes;
        from = ap (λ x. x.from) same;
        to = ap (λ x. x.to) same;
        replaced = ap (λ x. x.replaced) same;
        few = omega arith;
      }

  -- a run over a part, if nothing is carried over
  pub Takes-run : {s v : Recoding} {part : List ℕ} {old new : O} {n end k : ℕ} (from to : Form) → from ≡ s.from → to ≡ s.to → length s.held ≡ 0 → Recodes appends way from to part old new n k
      → end ≡ min (length part) (n + 3) → v ≡ record (s) { held = take (end - n) (drop n part) } → Takes appends way s part old new end k v
  Takes-run {s} {v} {part} {old} {new} {n} {end} {k} from to e i none g least same =
      let inside = g.within in
      let nothing : s.held ≡ [] = drop_all 0 s.held (omega arith) in
      Takes-kept part (end - n) from to e i (ap (λ xs. xs ++ part) nothing) g (omega arith) (omega arith) same

  -- a call with the front of the part
  pub Takes-front : {r s : Recoding} {part : List ℕ} {old new : O} {read k : ℕ} (p : ℕ) → Takes appends way r (take p part) old new read k s → Takes appends way r part old new read k s
  Takes-front {r} {s} {part} {read = read} p f =
      let inside = f.within in
      let few : read ≤ p = omega (arith, length-take p part) in
      record {
        grown = f.grown;
        appended = f.appended;
        within = omega (arith, length-take p part);
        short = f.short;
        fewer = f.fewer;
        becomes = Becomes-where (r.held ++ take read part) s.held (ap (λ xs. r.held ++ xs) (take-take read p part few)) refl f.becomes;
        from = f.from;
        to = f.to;
        replaced = f.replaced;
        few = f.few;
      }

  -- a run over the carried-over bytes and the first three of the part, at the front of an array
  pub Takes-joined : {r v : Recoding} {part : List ℕ} {old new : O} {n end k : ℕ} (joined : List ℕ) (len stop : ℕ) (from to : Form) → from ≡ r.from → to ≡ r.to → take len joined ≡ r.held ++ take 3 part → len ≡ length r.held + min 3 (length part)
      → Recodes appends way from to (take len joined) old new n k → stop ≡ min len (n + 3) → length r.held + end ≡ stop → v ≡ record (r) { held = take (stop - n) (drop n joined) } → Takes appends way r part old new end k v
  Takes-joined {r} {v} {part} {old} {new} {n} {end} {k} joined len stop from to e i bytes size g least sum same =
      let w : List ℕ = r.held ++ take 3 part in
      let h : Recodes appends way from to w old new n k = subst (λ xs. Recodes appends way from to xs old new n k) bytes g in
      let inside = h.within in
      let whole : length w ≡ len = omega (arith, length-append r.held (take 3 part), length-take 3 part) in
      let kept : take (stop - n) (drop n joined) ≡ take (stop - n) (drop n w) = cut_front n stop len joined (omega arith) (omega arith) ∙ ap (λ xs. take (stop - n) (drop n xs)) bytes in
      Takes-front 3 (Takes-kept w (stop - n) from to e i refl h (omega arith) (omega arith) (same ∙ ap (λ xs. record (r) { held = xs }) kept))

  -- and another run over the rest of the part
  pub Takes-both : ((a b c : O) (xs ys : List ℕ) → appends a xs b → appends b ys c → appends a (xs ++ ys) c) → {r v : Recoding} {part : List ℕ} {old mid new : O} {n next end j k : ℕ} (start m : ℕ) (from to : Form)
      → from ≡ r.from → to ≡ r.to → Recodes appends way from to (r.held ++ take 3 part) old mid n j → n ≡ length r.held + start → Recodes appends way from to (drop start part) mid new next k
      → next + m ≡ min (length (drop start part)) (next + 3) → end ≡ start + (next + m) → v ≡ record (r) { held = take m (drop next (drop start part)) } → Takes appends way r part old new end (j + k) v
  Takes-both law {r} {v} {part} {old} {mid} {new} {n} {next} {end} {j} {k} start m from to e i f at g least sum same =
      let w : List ℕ = r.held ++ part in
      let first : Recodes appends way from to w old mid n j = Recodes-front (length r.held + 3) (subst (λ xs. Recodes appends way from to xs old mid n j) (sym (take-append-add r.held part 3)) f) in
      let left : drop n w ≡ drop start part = ap (λ x. drop x w) at ∙ drop-append-add r.held part start in
      let second : Recodes appends way from to (take (length w - n) (drop n w)) mid new next k = subst (λ xs. Recodes appends way from to xs mid new next k) (sym left ∙ sym (take_rest w n)) g in
      let both : Recodes appends way from to w old new (n + next) (j + k) = Recodes-then law first second in
      let kept : take m (drop next (drop start part)) ≡ take m (drop (n + next) w) = ap (λ xs. take m (drop next xs)) (sym left) ∙ ap (take m) (drop-drop next n w) in
      let len : length w ≡ length r.held + length part = length-append r.held part in
      let rest : length (drop start part) ≡ length part - start = length-drop start part in
      let inside = first.within in
      Takes-kept w m from to e i refl both (omega arith) (omega arith) (same ∙ ap (λ xs. record (r) { held = xs }) kept)

  -- If there is capacity for all, no code is longer than it.

  pub never_full : {room : O → ℕ} → ((a b : O) (xs : List ℕ) → appends a xs b → room a ≤ room b + length xs) → {r s : Recoding} {part : List ℕ} {a b : O} {read k : ℕ} → Takes appends way r part a b read k s
      → IsAmple (room a) (length r.held + length part) → IsFullBy way s part read (room b) → ⊥
  never_full law {r} {s} {part} {a} {b} {read} f enough long =
      let d = long.begins in
      omega (
        arith,
        f.short,
        f.within,
        law a b f.grown f.appended,
        long.longer,
        d.within,
        length_written s.to long.scalar long.len d.some d.wide,
        length-append s.held (drop read part),
        length-drop read part,
      )

  pub never_full_last : {room : O → ℕ} → ((a b : O) (xs : List ℕ) → appends a xs b → room a ≤ room b + length xs) → {r s : Recoding} {a b : O} {k : ℕ} → TakesLast appends way r a b k s
      → IsAmple (room a) (length r.held) → IsLastFullBy way s (room b) → ⊥
  never_full_last law {r} {s} {a} {b} f enough long =
      let d = long.begins in
      omega (arith, f.short, law a b f.grown f.appended, long.longer, d.within, length_written s.to long.scalar long.len d.some d.wide)

  -- The end.

  pub TakesLast-none : ((a : O) → appends a [] a) → (r : Recoding) {out : O} → TakesLast appends way r out out 0 r
  TakesLast-none none r {out} = record { grown = []; appended = none out; short = omega arith; fewer = omega arith; same = refl; counts = omega arith; from = refl; to = refl; replaced = refl }

  pub TakesLast-piece : ((a b c : O) (xs ys : List ℕ) → appends a xs b → appends b ys c → appends a (xs ++ ys) c) → {r s v : Recoding} {old mid new : O} {n j k : ℕ} (c : Option ℕ) (from to : Form)
      → from ≡ r.from → to ≡ r.to → TakesLast appends way r old mid j s → BeginsLast way from s.held c n k → appends mid (code_of to c) new
      → v ≡ record (s) { held = drop n s.held } → TakesLast appends way r old new (j + k) v
  TakesLast-piece law {r} {s} {v} {old} {mid} {new} {n} {j} {k} c from to e i f begins put same =
      let some = ends_some begins in
      let inside = ends_within begins in
      let at : v.held ≡ drop n s.held = ap (λ x. x.held) same in
      let put_here : appends mid (code_of r.to c) new = subst (λ y. appends mid (code_of y c) new) i put in
      let here : BeginsLast way r.from s.held c n k = subst (λ y. BeginsLast way y s.held c n k) e begins in
      record {
        grown = f.grown ++ code_of r.to c;
        appended = law old mid new f.grown (code_of r.to c) f.appended put_here;
        short = omega (arith, f.short, ends_short r.to begins, length-append f.grown (code_of r.to c), ap length at, length-drop n s.held);
        fewer = omega (arith, f.fewer, begins.few, ap length at, length-drop n s.held);
        same =
            f.same ∙ ap (λ xs. f.grown ++ xs) (list_last way r.from r.to s.held c n here.leads ∙ ap (λ xs. code_of r.to c ++ list_by way r.from r.to xs) (sym at))
            ∙ sym (append_assoc f.grown (code_of r.to c) (list_by way r.from r.to v.held));
        counts = omega (arith, f.counts, here.counts, ap (fault_count r.from) at);
        from = ap (λ x. x.from) same ∙ f.from;
        to = ap (λ x. x.to) same ∙ f.to;
        replaced = ap (λ x. x.replaced) same ∙ f.replaced;
      }

-- Taking a part to one type of output, as taking it to another.

pub Takes-as : {O P : Type 0} {appends : O → List ℕ → O → Type 0} {other : P → List ℕ → P → Type 0} {way : Way} {r s : Recoding} {part : List ℕ} {a b : O} {c d : P} {n k : ℕ}
    → ((xs : List ℕ) → appends a xs b → other c xs d) → Takes appends way r part a b n k s → Takes other way r part c d n k s
Takes-as turn f = record {
  grown = f.grown;
  appended = turn f.grown f.appended;
  within = f.within;
  short = f.short;
  fewer = f.fewer;
  becomes = f.becomes;
  from = f.from;
  to = f.to;
  replaced = f.replaced;
  few = f.few;
}

pub TakesLast-as : {O P : Type 0} {appends : O → List ℕ → O → Type 0} {other : P → List ℕ → P → Type 0} {way : Way} {r s : Recoding} {a b : O} {c d : P} {k : ℕ}
    → ((xs : List ℕ) → appends a xs b → other c xs d) → TakesLast appends way r a b k s → TakesLast other way r c d k s
TakesLast-as turn f = record {
  grown = f.grown;
  appended = turn f.grown f.appended;
  short = f.short;
  fewer = f.fewer;
  same = f.same;
  counts = f.counts;
  from = f.from;
  to = f.to;
  replaced = f.replaced;
}

pub false_unless : (b : Bool) → (IsTrue b → ⊥) → IsFalse b
false_unless true never = absurd (never (search rules))
false_unless false never = search rules

-- capacity that was reserved before
reserved : {Z : Type 0} {old mid : Vec ℕ Z} → mid.items ≡ old.items → vec_capacity old ≤ vec_capacity mid → (xs : List ℕ) (new : Vec ℕ Z) → Extends mid xs new → Extends old xs new
reserved same more xs new put = record { items = put.items ∙ ap (λ ys. ys ++ xs) same; capacity = omega (arith, put.capacity, more) }

pub Takes-reserved : {Z : Type 0} {way : Way} {old mid new : Vec ℕ Z} {r s : Recoding} {part : List ℕ} {n k : ℕ} → mid.items ≡ old.items → vec_capacity old ≤ vec_capacity mid
    → Takes Extends way r part mid new n k s → Takes Extends way r part old new n k s
Takes-reserved {new = new} same more f = Takes-as (λ xs put. reserved same more xs new put) f

-- The results of `feed` for its callers.

pub all_feeds : {Z : Type 0} (r : Recoding) (part : List ℕ) (old new : Vec ℕ Z) (s : Recoding) → TakesAll r part old new s → Feeds r part old.items new.items s
all_feeds r part old new s (n, t, f, lacks, e) =
    let whole : take (length part) part ≡ part = take_all (length part) part (omega arith) in
    let put = f.appended in
    rw e (record { grows = record { grown = f.grown; appended = put.items; continues = rw whole at (continues_of f.becomes) }; from = f.from; to = f.to; few = f.few })

-- the number of faults that were replaced
replaces : {O : Type 0} {appends : O → List ℕ → O → Type 0} {way : Way} {r s t : Recoding} {part : List ℕ} {old new : O} {read n m : ℕ} → Takes appends way r part old new read n s
    → t ≡ record (s) { replaced = m } → Replaces r (take read part) n t
replaces {r = r} {t = t} {part = part} {read = read} {n = n} f e = Replaces-of r t r.from (take read part) _ _ n refl (ap (λ x. x.from) e ∙ f.from) refl (ap (λ x. x.held) e) f.becomes.counts

pub all_counted : {Z : Type 0} (r : Recoding) (part : List ℕ) (old new : Vec ℕ Z) (s : Recoding) → TakesAll r part old new s → CountsFed r part s
all_counted r part old new s (n, t, f, lacks, e) =
    let whole : take (length part) part ≡ part = take_all (length part) part (omega arith) in
    (n, rw whole at (replaces f e), ap (λ x. x.replaced) e ∙ ap (λ m. saturated (m + n)) f.replaced)

pub all_lacks : {Z : Type 0} (r : Recoding) (part : List ℕ) (old new : Vec ℕ Z) (s : Recoding) → TakesAll r part old new s → Lacks r.from s.held
all_lacks r part old new s (n, t, f, lacks, e) = rw e lacks

-- the results of `finish` for its callers
pub all_finished : {Z : Type 0} {r s : Recoding} {old new : Vec ℕ Z} {n : ℕ} → TakesLast Extends Faults r old new n s → s.held ≡ [] → Finishes r old.items new.items
all_finished {r = r} {s = s} f none =
    let put = f.appended in
    record {
      grown = f.grown;
      appended = put.items;
      recoded = rw (append-nil f.grown) at (leaves_of r.from r.to r.held f.grown s.held f.same [] (subst (λ xs. IsRecoded r.from r.to xs []) (sym none) (recoded_nothing r.from r.to)));
    }

-- if nothing is carried over, nothing is written for it
pub Finishes-none : (r : Recoding) (old : List ℕ) → length r.held ≡ 0 → Finishes r old old
Finishes-none r old none =
    let nothing : r.held ≡ [] = drop_all 0 r.held (omega arith) in
    record { grown = []; appended = sym (append-nil old); recoded = rw nothing (recoded_nothing r.from r.to) }

-- Finishing into a buffer of a fixed size, if nothing is carried over.

FillsPlace-room : (a b : List ℕ × ℕ) (xs : List ℕ) → FillsPlace a xs b → length a.0 - a.1 ≤ length b.0 - b.1 + length xs
FillsPlace-room a b xs f = omega (arith, f.whole, f.len)

module _ {way : Way} {r s : Recoding} {part old new : List ℕ} {read wrote n : ℕ} (f : Takes FillsPlace way r part (at_place old 0) (at_place new wrote) read n s) where
  fits_old : wrote ≤ length old
  fits_old = let fills = f.appended in omega (arith, fills.fits, fills.whole)

  -- With capacity for one code, each call on some bytes comes nearer to their end.
  pub comes_nearer : {m : ℕ} (t : Recoding) (full : Bool) → t ≡ record (s) { replaced = m } → (IsTrue full → length old < wrote + 4) → (IsFalse full → read ≡ length part) → ComesNearer part old read r t
  comes_nearer t true e short whole room some =
      let scant = short (search rules) in
      let fills = f.appended in
      omega (arith, f.short, f.within, fills.len, ap (λ x. length x.held) e)
  comes_nearer t false e short whole room some =
      let all = whole (search rules) in
      omega (arith, f.short, f.within, ap (λ x. length x.held) e)

  -- with capacity for one code, each call on some bytes writes or reads something
  pub moves : (full : Bool) → (IsTrue full → length old < wrote + 4) → (IsFalse full → read ≡ length part) → 4 ≤ length old → 0 < length part → 0 < read + wrote
  moves true short whole room some = let scant = short (search rules) in omega arith
  moves false short whole room some = let all = whole (search rules) in omega arith

  pub enough_room : (full : Bool) → (IsTrue full → IsFullBy way s part read (length old - wrote)) → IsAmple (length old) (length r.held + length part) → IsFalse full
  enough_room full is enough =
      let fills = f.appended in
      let same : length new - wrote ≡ length old - wrote = omega (arith, fills.whole) in
      let all : IsAmple (length old - 0) (length r.held + length part) = omega (arith, enough) in
      false_unless full (λ yes. never_full {room = λ x. length x.0 - x.1} FillsPlace-room f all (rw (sym same) at (is yes)))

pub fed_into : {r s t : Recoding} {part old new : List ℕ} {read wrote n m : ℕ} → Takes FillsPlace Faults r part (at_place old 0) (at_place new wrote) read n s → t ≡ record (s) { replaced = m }
    → FeedsInto r part old new read wrote t
fed_into f e =
    let fills = f.appended in
    rw e (record {
      within = f.within;
      feeds = λ out. record { grows = record { grown = f.grown; appended = ap (λ xs. out ++ xs) fills.front; continues = continues_of f.becomes }; from = f.from; to = f.to; few = f.few };
      fits = fits_old f;
    })

pub replaces_into : {way : Way} {r s t : Recoding} {part old new : List ℕ} {read wrote n m : ℕ} → Takes FillsPlace way r part (at_place old 0) (at_place new wrote) read n s → t ≡ record (s) { replaced = m }
    → Replaces r (take read part) n t
replaces_into f e = replaces f e

pub counted : {O : Type 0} {appends : O → List ℕ → O → Type 0} {way : Way} {r s t : Recoding} {part : List ℕ} {old new : O} {read n : ℕ} → Takes appends way r part old new read n s
    → t ≡ record (s) { replaced = saturated (s.replaced + n) } → AddsUp r n t
counted {n = n} f e = ap (λ x. x.replaced) e ∙ ap (λ m. saturated (m + n)) f.replaced

outcome_taken : (r s : Recoding) (bytes grown : List ℕ) → s.from ≡ r.from → s.to ≡ r.to → {n : ℕ} → Becomes Subparts r.from r.to (r.held ++ bytes) grown n s.held → AddsLossy r bytes grown s
unfolding lossy_outcome
outcome_taken r s bytes grown e f h out later =
    let rest : List ℕ = lossy r.from r.to (s.held ++ later) in
    let same : lossy s.from s.to (s.held ++ later) ≡ rest = ap (λ x. lossy x s.to (s.held ++ later)) e ∙ ap (λ x. lossy r.from x (s.held ++ later)) f in
    ap (λ xs. (out ++ grown) ++ xs) same ∙ append_assoc out grown rest ∙ ap (λ xs. out ++ xs) (sym (h.same later) ∙ ap (lossy r.from r.to) (append_assoc r.held bytes later))

outcome_repaired : (repair : Repair) (r s : Recoding) (bytes grown : List ℕ) → s.from ≡ r.from → s.to ≡ r.to → {n : ℕ} → Becomes (Table repair) r.from r.to (r.held ++ bytes) grown n s.held
    → AddsRepaired repair.chars.now r bytes grown s
unfolding repaired_outcome
outcome_repaired repair r s bytes grown e f h out later =
    let table : List ℕ = repair.chars.now in
    let rest : List ℕ = repaired table r.from r.to (s.held ++ later) in
    let same : repaired table s.from s.to (s.held ++ later) ≡ rest = ap (λ x. repaired table x s.to (s.held ++ later)) e ∙ ap (λ x. repaired table r.from x (s.held ++ later)) f in
    ap (λ xs. (out ++ grown) ++ xs) same ∙ append_assoc out grown rest ∙ ap (λ xs. out ++ xs) (sym (h.same later) ∙ ap (repaired table r.from r.to) (append_assoc r.held bytes later))

pub fed_repaired : (repair : Repair) {r s t : Recoding} {part old new : List ℕ} {read wrote n m : ℕ} → Takes FillsPlace (Table repair) r part (at_place old 0) (at_place new wrote) read n s → t ≡ record (s) { replaced = m }
    → FeedsRepaired repair.chars.now r part old new read wrote t
unfolding repaired_outcome
fed_repaired repair {r} {s} {part = part} {read = read} f e =
    let fills = f.appended in
    rw e (record {
      within = f.within;
      adds = rw fills.front (outcome_repaired repair r s (take read part) f.grown f.from f.to f.becomes);
      from = f.from;
      to = f.to;
      few = f.few;
      fits = fits_old f;
    })

pub fed_lossily : {r s t : Recoding} {part old new : List ℕ} {read wrote n m : ℕ} → Takes FillsPlace Subparts r part (at_place old 0) (at_place new wrote) read n s → t ≡ record (s) { replaced = m }
    → FeedsLossy r part old new read wrote t
unfolding lossy_outcome
fed_lossily {r} {s} {part = part} {read = read} f e =
    let fills = f.appended in
    rw e (record {
      within = f.within;
      adds = rw fills.front (outcome_taken r s (take read part) f.grown f.from f.to f.becomes);
      from = f.from;
      to = f.to;
      few = f.few;
      fits = fits_old f;
    })

-- At the end.

module _ {way : Way} {r s : Recoding} {old new : List ℕ} {wrote n : ℕ} (f : TakesLast FillsPlace way r (at_place old 0) (at_place new wrote) n s) where
  pub enough_room_at_end : (full : Bool) → (IsTrue full → IsLastFullBy way s (length old - wrote)) → IsAmple (length old) (length r.held) → IsFalse full
  enough_room_at_end full is enough =
      let fills = f.appended in
      let same : length new - wrote ≡ length old - wrote = omega (arith, fills.whole) in
      let all : IsAmple (length old - 0) (length r.held) = omega (arith, enough) in
      false_unless full (λ yes. never_full_last {room = λ x. length x.0 - x.1} FillsPlace-room f all (rw (sym same) at (is yes)))

pub finished_into : {r s t : Recoding} {old new : List ℕ} {wrote n m : ℕ} → TakesLast FillsPlace Faults r (at_place old 0) (at_place new wrote) n s → t ≡ record (s) { replaced = m }
    → FinishesInto r old new wrote t
finished_into {r} {s} f e =
    let fills = f.appended in
    let short = f.short in
    rw e (record { leaves = rw fills.front (leaves_of r.from r.to r.held f.grown s.held f.same); from = f.from; to = f.to; few = omega (arith, f.fewer); fits = omega (arith, fills.fits, fills.whole) })

pub replaces_last : {way : Way} {r s t : Recoding} {old new : List ℕ × ℕ} {n m : ℕ} → TakesLast FillsPlace way r old new n s → t ≡ record (s) { replaced = m } → ReplacesLast r n t
replaces_last {r = r} {t = t} {n = n} f e = f.counts ∙ ap (λ k. n + k) (ap₂ (λ x xs. fault_count x xs) (sym (ap (λ x. x.from) e ∙ f.from)) (sym (ap (λ x. x.held) e)))

pub counted_last : {way : Way} {r s t : Recoding} {old new : List ℕ × ℕ} {n : ℕ} → TakesLast FillsPlace way r old new n s → t ≡ record (s) { replaced = saturated (s.replaced + n) } → AddsUp r n t
counted_last {n = n} f e = ap (λ x. x.replaced) e ∙ ap (λ m. saturated (m + n)) f.replaced

-- all carried-over bytes were written
pub Finishes-of : (r s : Recoding) (old new : List ℕ) (wrote : ℕ) → FinishesInto r old new wrote s → s.held ≡ [] → (out : List ℕ) → Finishes r out (out ++ take wrote new)
Finishes-of r s old new wrote f none out = record {
  grown = take wrote new;
  appended = refl;
  recoded = rw (append-nil (take wrote new)) at (f.leaves [] (subst (λ xs. IsRecoded r.from r.to xs []) (sym none) (recoded_nothing r.from r.to)));
}

outcome_ended : (r s : Recoding) (grown : List ℕ) → s.from ≡ r.from → s.to ≡ r.to → lossy r.from r.to r.held ≡ grown ++ lossy r.from r.to s.held → AddsLastLossy r grown s
unfolding lossy_outcome
outcome_ended r s grown e f h out =
    let rest : List ℕ = lossy r.from r.to s.held in
    let same : lossy s.from s.to (s.held ++ []) ≡ rest = ap (lossy s.from s.to) (append-nil s.held) ∙ ap (λ x. lossy x s.to s.held) e ∙ ap (λ x. lossy r.from x s.held) f in
    ap (λ xs. (out ++ grown) ++ xs) same ∙ append_assoc out grown rest ∙ ap (λ xs. out ++ xs) (sym h ∙ ap (lossy r.from r.to) (sym (append-nil r.held)))

pub finished_lossily : {r s t : Recoding} {old new : List ℕ} {wrote n m : ℕ} → TakesLast FillsPlace Subparts r (at_place old 0) (at_place new wrote) n s → t ≡ record (s) { replaced = m }
    → FinishesLossy r old new wrote t
unfolding lossy_outcome
finished_lossily {r} {s} f e =
    let fills = f.appended in
    let short = f.short in
    rw e (record {
      adds = rw fills.front (outcome_ended r s f.grown f.from f.to f.same);
      from = f.from;
      to = f.to;
      few = omega (arith, f.fewer);
      fits = omega (arith, fills.fits, fills.whole);
    })

-- if nothing is carried over any more, all is written
pub lossy_done : (r s : Recoding) (grown : List ℕ) → s.held ≡ [] → AddsLastLossy r grown s → AddsAllLossy r grown
unfolding lossy_outcome
lossy_done r s grown none h out =
    let nothing : lossy s.from s.to (s.held ++ []) ≡ [] = ap (λ xs. lossy s.from s.to (xs ++ [])) none ∙ nothing_is_lossy s.from s.to in
    sym (append-nil (out ++ grown)) ∙ ap (λ xs. (out ++ grown) ++ xs) (sym nothing) ∙ h out

outcome_repaired_last : (table : List ℕ) (r s : Recoding) (grown : List ℕ) → s.from ≡ r.from → s.to ≡ r.to → repaired table r.from r.to r.held ≡ grown ++ repaired table r.from r.to s.held → AddsLastRepaired table r grown s
unfolding repaired_outcome
outcome_repaired_last table r s grown e f h out =
    let rest : List ℕ = repaired table r.from r.to s.held in
    let same : repaired table s.from s.to (s.held ++ []) ≡ rest = ap (repaired table s.from s.to) (append-nil s.held) ∙ ap (λ x. repaired table x s.to s.held) e ∙ ap (λ x. repaired table r.from x s.held) f in
    ap (λ xs. (out ++ grown) ++ xs) same ∙ append_assoc out grown rest ∙ ap (λ xs. out ++ xs) (sym h ∙ ap (repaired table r.from r.to) (sym (append-nil r.held)))

pub finished_repaired : (repair : Repair) {r s t : Recoding} {old new : List ℕ} {wrote n m : ℕ} → TakesLast FillsPlace (Table repair) r (at_place old 0) (at_place new wrote) n s → t ≡ record (s) { replaced = m }
    → FinishesRepaired repair.chars.now r old new wrote t
unfolding repaired_outcome
finished_repaired repair {r} {s} f e =
    let fills = f.appended in
    let short = f.short in
    rw e (record {
      adds = rw fills.front (outcome_repaired_last repair.chars.now r s f.grown f.from f.to f.same);
      from = f.from;
      to = f.to;
      few = omega (arith, f.fewer);
      fits = omega (arith, fills.fits, fills.whole);
    })

pub repaired_done : (table : List ℕ) (r s : Recoding) (grown : List ℕ) → s.held ≡ [] → AddsLastRepaired table r grown s → AddsAllRepaired table r grown
unfolding repaired_outcome
repaired_done table r s grown none h out =
    let nothing : repaired table s.from s.to (s.held ++ []) ≡ [] = ap (λ xs. repaired table s.from s.to (xs ++ [])) none ∙ nothing_is_repaired table s.from s.to in
    sym (append-nil (out ++ grown)) ∙ ap (λ xs. (out ++ grown) ++ xs) (sym nothing) ∙ h out
