-- Transcoding to the end of an output, step by step, and the results for its callers.
use Rattle.std.proofs.Common.{◌≡◌, ℕ, ◌+◌, ◌-◌, ◌*◌, ◌<◌, ◌≤◌, ⊎_elim, Bool, true, false, Option, Some, List, [], ◌++◌, length, min, take, drop, arith, rules, ap, ap₂, sym, subst, ◌∙◌, length-append, length-drop, length-take, take-append-drop}
use Rattle.std.proofs.Math.Seq.{take-append-add}
use Rattle.std.proofs.lemmas.Bool.{cases_lt}
use Rattle.std.proofs.lemmas.List.{append-nil, drop_all, drop-append-le, drop-drop, take_all, take-append-le, take_rest}
use Rattle.std.specs.Prelude.{IsTrue, IsFalse, Vec, vec_len, vec_capacity}
use Rattle.recoding.specs.declared.form.Form.{Form}
use Rattle.recoding.specs.declared.room.Room.{Room}
use Rattle.recoding.specs.declared.way.Way.{Way}
use Rattle.recoding.specs.Recoded.{written, Lacks}
use Rattle.recoding.specs.Replacing.{BeginsBy, CodeIsLonger, FillsPlace, NextIsLonger, Reaches, Recodes, at_place, code_of}
use Rattle.recoding.specs.declared.engine.Reached.{Reached}
use Rattle.recoding.specs.Outputs.{Extends}
use Rattle.recoding.specs.FilledRooms.{FillsRoom}
use Rattle.recoding.specs.Rooms.{HasRoomFor}
use Rattle.recoding.specs.Strict.{PutsText}
use Rattle.recoding.proofs.Becoming.{Becomes-more, Becomes-none, Becomes-where, NextIsLonger-of, begins_short, begins_within, next_piece, next_text, run_after}
use Rattle.recoding.proofs.FrontBytes.{lacks_all}
use Rattle.recoding.proofs.Growing.{length_written}
use Rattle.recoding.proofs.TextRuns.{text_room}

take_both : (m : ℕ) (xs ys : List ℕ) → take m xs ++ take (m - length xs) ys ≡ take m (xs ++ ys)
take_both m xs ys =
    ⊎_elim
    (λ (lt : m < length xs). let none : m - length xs ≡ 0 = omega arith in rw none (append-nil (take m xs) ∙ sym (take-append-le m xs ys (omega arith))))
    (λ (ge : length xs ≤ m).
    let whole : length xs + (m - length xs) ≡ m = omega arith in
    ap (λ zs. zs ++ take (m - length xs) ys) (take_all m xs ge) ∙ sym (take-append-add xs ys (m - length xs)) ∙ ap (λ k. take k (xs ++ ys)) whole)
    (cases_lt m (length xs))

-- the first m elements, of which some are among the first n
front_more : (n m : ℕ) (xs : List ℕ) → take m (take n xs) ++ take (m - length (take n xs)) (drop n xs) ≡ take m xs
front_more n m xs = take_both m (take n xs) (drop n xs) ∙ ap (take m) (take-append-drop n xs)

-- three elements after others
left_more : (n read : ℕ) (xs : List ℕ) → read ≤ length (take n xs) → take 3 (drop read (take n xs)) ++ take (read + 3 - length (take n xs)) (drop n xs) ≡ take 3 (drop read xs)
left_more n read xs inside =
    let front : List ℕ = take n xs in
    let rest : List ℕ = drop read front in
    let len : 3 - length rest ≡ read + 3 - length front = omega (arith, length-drop read front) in
    let whole : rest ++ drop n xs ≡ drop read xs = sym (drop-append-le read front (drop n xs) inside) ∙ ap (drop read) (take-append-drop n xs) in
    ap (λ k. take 3 rest ++ take k (drop n xs)) (sym len) ∙ take_both 3 rest (drop n xs) ∙ ap (take 3) whole

module _ {O : Type 0} {appends : O → List ℕ → O → Type 0} {way : Way} {from to : Form} {bytes : List ℕ} where
  -- nothing is transcoded yet
  pub Recodes-none : ((a : O) → appends a [] a) → {out : O} → Recodes appends way from to bytes out out 0 0
  Recodes-none none {out} = record {
    grown = [];
    appended = none out;
    within = omega arith;
    short = omega arith;
    few = omega arith;
    becomes = Becomes-none way from to (take 3 bytes);
  }

  -- the bytes that another step left
  pub Recodes-then : ((a b c : O) (xs ys : List ℕ) → appends a xs b → appends b ys c → appends a (xs ++ ys) c) → {old mid new : O} {p n j k : ℕ}
      → Recodes appends way from to bytes old mid p j → Recodes appends way from to (take (length bytes - p) (drop p bytes)) mid new n k → Recodes appends way from to bytes old new (p + n) (j + k)
  Recodes-then more {old} {mid} {new} {p} {n} f rest =
      let g = rw (take_rest bytes p) at rest in
      record {
        grown = f.grown ++ g.grown;
        appended = more old mid new f.grown g.grown f.appended g.appended;
        within = omega (arith, f.within, g.within, length-drop p bytes);
        short = omega (arith, f.short, g.short, length-append f.grown g.grown);
        few = omega (arith, f.few, g.few);
        becomes = run_after bytes p n f.becomes g.becomes;
      }

  -- text that another step left
  pub Recodes-text : ((a b c : O) (xs ys : List ℕ) → appends a xs b → appends b ys c → appends a (xs ++ ys) c) → {old mid new : O} {p n k : ℕ}
      → Recodes appends way from to bytes old mid p k → PutsText appends from to (take (length bytes - p) (drop p bytes)) mid new n → Recodes appends way from to bytes old new (p + n) k
  Recodes-text more {old} {mid} {new} {p} {n} {k} f rest =
      let within = rest.within in
      let run : Recodes appends way from to (take (length bytes - p) (drop p bytes)) mid new n 0 = record {
        grown = rest.grown;
        appended = rest.appended;
        within = rest.within;
        short = omega (arith, text_room rest.transcodes, length-take n (take (length bytes - p) (drop p bytes)));
        few = omega arith;
        becomes = next_text (take (length bytes - p) (drop p bytes)) n rest.transcodes;
      } in
      let same : k + 0 ≡ k = omega arith in
      subst (λ m. Recodes appends way from to bytes old new (p + n) m) same (Recodes-then more f run)

  -- one piece, decided by four bytes
  pub Recodes-code : ((a b c : O) (xs ys : List ℕ) → appends a xs b → appends b ys c → appends a (xs ++ ys) c) → {old mid new : O} {p n j k : ℕ} (c : Option ℕ)
      → Recodes appends way from to bytes old mid p j → BeginsBy way from (take 4 (drop p bytes)) c n k → appends mid (code_of to c) new → Recodes appends way from to bytes old new (p + n) (j + k)
  Recodes-code more {old} {mid} {new} {p} {n} c f begins put =
      let few = begins_short to begins in
      record {
        grown = f.grown ++ code_of to c;
        appended = more old mid new f.grown (code_of to c) f.appended put;
        within = omega (arith, f.within, begins_within begins, length-drop p bytes, length-take 4 (drop p bytes));
        short = omega (arith, f.short, few, length-append f.grown (code_of to c));
        few = omega (arith, f.few, begins.few);
        becomes = run_after bytes p n f.becomes (next_piece (drop p bytes) c n begins);
      }

  -- a character, which is no fault
  pub Recodes-char : ((a b c : O) (xs ys : List ℕ) → appends a xs b → appends b ys c → appends a (xs ++ ys) c) → {old mid new : O} {p s n j : ℕ}
      → Recodes appends way from to bytes old mid p j → BeginsBy way from (take 4 (drop p bytes)) (Some s) n 0 → appends mid (written to s) new → Recodes appends way from to bytes old new (p + n) j
  Recodes-char more {old} {mid} {new} {p} {s} {n} {j} f begins put =
      let same : j + 0 ≡ j = omega arith in
      subst (λ m. Recodes appends way from to bytes old new (p + n) m) same (Recodes-code more (Some s) f begins put)

  -- a run over the front of the bytes is a run over the bytes
  pub Recodes-front : {old new : O} (n : ℕ) {read k : ℕ} → Recodes appends way from to (take n bytes) old new read k → Recodes appends way from to bytes old new read k
  Recodes-front {old} {new} n {read} {k} f =
      let xs : List ℕ = take n bytes in
      let more : List ℕ = take (read + 3 - length xs) (drop n bytes) in
      let inside : read ≤ length xs = f.within in
      let len : length xs ≡ min n (length bytes) = length-take n bytes in
      record {
        grown = f.grown;
        appended = f.appended;
        within = omega (arith, inside, len);
        short = f.short;
        few = f.few;
        becomes = Becomes-where (take (read + 3) bytes) (take 3 (drop read bytes)) (front_more n (read + 3) bytes) (left_more n read bytes inside) (Becomes-more more f.becomes);
      }

  -- capacity for all bytes is capacity for a code that begins the ones left
  pub room_for_next : {room : O → ℕ} → ((a b : O) (xs : List ℕ) → appends a xs b → room a ≤ room b + length xs) → {old mid : O} {p n j k : ℕ} (c : Option ℕ)
      → Recodes appends way from to bytes old mid p k → BeginsBy way from (take 4 (drop p bytes)) c n j → 3 * length bytes ≤ room old → length (code_of to c) ≤ room mid
  room_for_next law {old} {mid} {p} {n} c f begins all =
      omega (arith, all, law old mid f.grown f.appended, f.short, f.within, begins_short to begins, begins_within begins, length-drop p bytes, length-take 4 (drop p bytes))

  -- capacity for all bytes is capacity for the ones left
  pub room_for_rest : {room : O → ℕ} → ((a b : O) (xs : List ℕ) → appends a xs b → room a ≤ room b + length xs) → {old mid : O} {p k : ℕ}
      → Recodes appends way from to bytes old mid p k → 3 * length bytes ≤ room old → 3 * length (take (length bytes - p) (drop p bytes)) ≤ room mid
  room_for_rest law {old} {mid} {p} f all =
      omega (arith, all, law old mid f.grown f.appended, f.short, f.within, length-drop p bytes, length-take (length bytes - p) (drop p bytes))

-- The end of a run.

no_truth : IsTrue false → ⊥
no_truth is = absurd cc

module _ {O : Type 0} {appends : O → List ℕ → O → Type 0} {room : O → ℕ} {way : Way} {from to : Form} {bytes : List ℕ} {old new : O} where
  -- the run ends since what follows decides
  pub Reaches-waiting : {n k : ℕ} → Recodes appends way from to bytes old new n k → length bytes ≤ n + 3 → Lacks from (drop n bytes)
      → Reaches appends room way from to bytes old new (record { read = n; replaced = k; is_full = false; is_waiting = true })
  Reaches-waiting f waits lacks = record { runs = f; full = λ is. absurd (no_truth is); short = λ is. absurd (no_truth is); waits = λ is. waits; lacks = λ is. lacks }

  -- all the bytes were transcoded
  pub Reaches-end : {n k : ℕ} → Recodes appends way from to bytes old new n k → n ≡ length bytes
      → Reaches appends room way from to bytes old new (record { read = n; replaced = k; is_full = false; is_waiting = true })
  Reaches-end {n} f e = Reaches-waiting f (omega arith) (rw (drop_all n bytes (omega arith)) (lacks_all from))

  -- there is no capacity for the code that begins the bytes left, and nothing more was written
  pub Reaches-full : {mid : O} {n k len faults : ℕ} (c : Option ℕ) → Recodes appends way from to bytes old mid n k → new ≡ mid → BeginsBy way from (take 4 (drop n bytes)) c len faults → CodeIsLonger to c (room mid)
      → room mid < 4 → Reaches appends room way from to bytes old new (record { read = n; replaced = k; is_full = true; is_waiting = false })
  Reaches-full {mid} {n} {k} {len} c f kept begins longer short =
      let xs = drop n bytes in
      let full : NextIsLonger way from to xs (room mid) = rw (take-append-drop 4 xs) at (NextIsLonger-of way (take 4 xs) (drop 4 xs) c begins longer) in
      rw kept (record { runs = f; full = λ is. full; short = λ is. short; waits = λ is. absurd (no_truth is); lacks = λ is. absurd (no_truth is) })

  -- the run ends for neither reason
  pub Reaches-on : {n k : ℕ} → Recodes appends way from to bytes old new n k → Reaches appends room way from to bytes old new (record { read = n; replaced = k; is_full = false; is_waiting = false })
  Reaches-on f = record { runs = f; full = λ is. absurd (no_truth is); short = λ is. absurd (no_truth is); waits = λ is. absurd (no_truth is); lacks = λ is. absurd (no_truth is) }

  -- a run over the bytes that another run left
  pub Reaches-then : {mid : O} {p k : ℕ} {reached : Reached} → ((a b c : O) (xs ys : List ℕ) → appends a xs b → appends b ys c → appends a (xs ++ ys) c)
      → Recodes appends way from to bytes old mid p k → Reaches appends room way from to (take (length bytes - p) (drop p bytes)) mid new reached
      → Reaches appends room way from to bytes old new (record { read = p + reached.read; replaced = k + reached.replaced; is_full = reached.is_full; is_waiting = reached.is_waiting })
  Reaches-then {mid} {p} {k} {reached} more f r =
      let g : Reaches appends room way from to (drop p bytes) mid new reached = rw (take_rest bytes p) at r in
      let left : drop reached.read (drop p bytes) ≡ drop (p + reached.read) bytes = drop-drop reached.read p bytes in
      record {
        runs = Recodes-then more f r.runs;
        full = rw left at g.full;
        short = g.short;
        waits = λ is. let few = g.waits is in omega (arith, length-drop p bytes);
        lacks = rw left at g.lacks;
      }

-- Transcoding to one type of output, as transcoding to another.
pub Recodes-as : {O P : Type 0} {appends : O → List ℕ → O → Type 0} {other : P → List ℕ → P → Type 0} {way : Way} {from to : Form} {bytes : List ℕ} {a b : O} {c d : P} {n k : ℕ}
    → ((xs : List ℕ) → appends a xs b → other c xs d) → Recodes appends way from to bytes a b n k → Recodes other way from to bytes c d n k
Recodes-as turn f = record { grown = f.grown; appended = turn f.grown f.appended; within = f.within; short = f.short; few = f.few; becomes = f.becomes }

-- the bytes that were written to a slice
pub FillsPlace-of : (a b : Room) (old new : List ℕ) (place : ℕ) → a.bytes.now ≡ old → a.len ≡ place → b.bytes.now ≡ new → (xs : List ℕ) → FillsRoom a xs b
    → FillsPlace (at_place old place) xs (at_place new b.len)
FillsPlace-of a b old new place e f h xs fills =
    let inside = b.within in
    record {
      whole = ap length (sym h) ∙ fills.whole ∙ ap length e;
      fits = omega (arith, ap length h);
      len = omega (arith, fills.len);
      front = ap (take b.len) (sym h) ∙ fills.front ∙ ap₂ (λ k ys. take k ys ++ xs) f e;
    }

-- if the buffer is enough for all, no code is longer than it
never_full : {Z : Type 0} {way : Way} {from to : Form} {bytes : List ℕ} {old new : Vec ℕ Z} {read k : ℕ} → HasRoomFor old (length bytes) → Recodes Extends way from to bytes old new read k
    → NextIsLonger way from to (drop read bytes) (vec_capacity new - vec_len new) → ⊥
never_full {to = to} {bytes} {old} {new} {read} room runs full =
    let d = full.begins in
    let put = runs.appended in
    omega (arith, room, put.capacity, ap length put.items, length-append old.items runs.grown, runs.short, runs.within, full.longer, d.within, length_written to full.scalar full.len d.some d.wide, length-drop read bytes)

unless_full : (P : Type 0) (b : Bool) → (IsTrue b → ⊥) → (IsFalse b → P) → P
unless_full P true never waits = absurd (never (search rules))
unless_full P false never waits = waits (search rules)

-- if the buffer is enough for all, a run ends only since what follows decides
pub waits_where_room : {Z : Type 0} {way : Way} {from to : Form} {bytes : List ℕ} {old new : Vec ℕ Z} {reached : Reached} → HasRoomFor old (length bytes)
    → Reaches Extends (λ v. vec_capacity v - vec_len v) way from to bytes old new reached → (IsFalse reached.is_full → IsTrue reached.is_waiting) → IsTrue reached.is_waiting
waits_where_room {reached = reached} room f ends = unless_full (IsTrue reached.is_waiting) reached.is_full (λ is. never_full room f.runs (f.full is)) ends
