-- Bytes transcoded on their way from a reader to a writer, part by part.
use Rattle.std.proofs.Common.{◌≡◌, ℕ, ◌+◌, ◌<◌, ◌≤◌, ◌⊎◌, inl, inr, ⊎_elim, List, [], ◌++◌, length, Option, Some, None, refl, ap, sym, subst, ◌∙◌, arith, length-append}
use Rattle.std.proofs.lemmas.List.{append-nil}
use Rattle.std.proofs.KnownBytes.{Appends-nil, Appends-trans, Consumes-nil, Consumes-trans, Consumes-kept}
use Rattle.std.specs.Prelude.{IfSome, OnOk, Result, Ok, Err}
use Rattle.text_programs.specs.declared.programs.recode_stream.RecodeFault.{RecodeFault}
use Rattle.text_programs.specs.declared.programs.recode_stream.RecodeFault.TheVariants.{Read, Write, Memory}
use Rattle.std.specs.Io.KnownBytes.{Appends, Consumes, Keeps, IsAtEnd}
use Rattle.recoding.specs.declared.form.Form.{Form}
use Rattle.recoding.specs.Recoded.{Recoding, Continues, IsRecoded, fresh}
use Rattle.recoding.specs.RecodedBytes.{recoded}
use Rattle.text_runs.specs.Failures.{AppendsFront}
use Rattle.text_programs.specs.RecodeStream.{AppendsRecoded, WritesRecoded, BeginsRecoded, Passes, PassesFront, PassesLast, PassesLastFront}
use Rattle.text_runs.proofs.Fronts.{AppendsFront-all, AppendsFront-first, AppendsFront-then}
use Rattle.recoding.proofs.Growing.{Continues-none, Continues-append, Continues-trans, recoded_once}
use Rattle.recoding.proofs.RecodedLists.{same_list}

-- What was read so far was transcoded and written, except for the carried-over bytes. Each of the reads gave a byte,
-- or one failed.
pub record IsRelayed (from to : Form) (in_old in_now out_old out_now : Option (List ℕ)) (failures_old failures_now turns : ℕ) (r : Recoding) : Type 0 where
  pub bytes : List ℕ
  pub grown : List ℕ
  pub from_same : r.from ≡ from
  pub to_same : r.to ≡ to
  pub read : Consumes in_old in_now bytes
  pub written : Appends out_old out_now grown
  pub continues : Continues from to bytes grown r.held
  pub few : length r.held ≤ 3
  pub paced : (failures_old < failures_now) ⊎ (turns ≤ length bytes)

pub IsRelayed-none : {from to : Form} {input out : Option (List ℕ)} {failures : ℕ} {r : Recoding} → r ≡ fresh from to
    → IsRelayed from to input input out out failures failures 0 r
IsRelayed-none {from} {to} {input} {out} e =
    rw e (record {
      bytes = [];
      grown = [];
      from_same = refl;
      to_same = refl;
      read = Consumes-nil input;
      written = Appends-nil out;
      continues = Continues-none from to [];
      few = omega arith;
      paced = inr (omega arith);
    })

-- a part was read, fed and written
pub IsRelayed-part : {from to : Form} {in_old in_mid in_new out_old out_mid out_new : Option (List ℕ)} {f g h n : ℕ} {r s : Recoding} {part : List ℕ}
    → IsRelayed from to in_old in_mid out_old out_mid f g n r → Consumes in_mid in_new part → 0 < length part → h ≡ g + 0
    → Passes r part out_mid out_new s → IsRelayed from to in_old in_new out_old out_new f h (n + 1) s
IsRelayed-part {from} {to} {in_old} {in_mid} {in_new} {out_old} {out_mid} {out_new} {f} {g} {n} {r} {s} {part} now taken some same (grown, fed, put) =
    let grows = fed.grows in
    let then : Continues from to (r.held ++ part) grows.grown s.held = rw (now.from_same, now.to_same) at grows.continues in
    let first : Continues from to (now.bytes ++ part) now.grown (r.held ++ part) = Continues-append from to now.bytes now.grown r.held part now.continues in
    let all : grown ≡ grows.grown = grows.appended in
    record {
      bytes = now.bytes ++ part;
      grown = now.grown ++ grows.grown;
      from_same = fed.from ∙ now.from_same;
      to_same = fed.to ∙ now.to_same;
      read = Consumes-trans in_old in_mid in_new now.bytes part now.read taken;
      written = Appends-trans out_old out_mid out_new now.grown grows.grown now.written (rw all at put);
      continues = Continues-trans from to (now.bytes ++ part) now.grown (r.held ++ part) grows.grown s.held first then;
      few = fed.few;
      paced =
          ⊎_elim
          (λ (failed : f < g). inl (omega arith))
          (λ (each : n ≤ length now.bytes). inr (omega (arith, length-append now.bytes part)))
          now.paced;
    }

-- a read failed
pub IsRelayed-idle : {from to : Form} {in_old in_mid in_new out_old out_now : Option (List ℕ)} {f g h n : ℕ} {r : Recoding}
    → IsRelayed from to in_old in_mid out_old out_now f g n r → Keeps in_mid in_new → f ≤ g → h ≡ g + 1
    → IsRelayed from to in_old in_new out_old out_now f h (n + 1) r
IsRelayed-idle {in_old} {in_mid} {in_new} now keeps le more = record {
  bytes = now.bytes;
  grown = now.grown;
  from_same = now.from_same;
  to_same = now.to_same;
  read = Consumes-kept in_old in_mid in_new now.bytes now.read keeps;
  written = now.written;
  continues = now.continues;
  few = now.few;
  paced = inl (omega arith);
}

-- the reader is at its end, and the carried-over bytes are written
pub IsRelayed-all : {from to : Form} {in_old in_mid : Option (List ℕ)} (in_new : Option (List ℕ)) {out_old out_mid out_new : Option (List ℕ)} {f g n : ℕ} {r : Recoding}
    → IsRelayed from to in_old in_mid out_old out_mid f g n r → Consumes in_mid in_new [] → IsAtEnd in_new → PassesLast r out_mid out_new
    → WritesRecoded from to in_old out_old out_new
IsRelayed-all {from} {to} {in_old} {in_mid} in_new {out_old} {out_mid} {out_new} {r} now taken end (grown, last, put) =
    let all : grown ≡ last.grown = last.appended in
    let held : IsRecoded from to r.held last.grown = rw (now.from_same, now.to_same) at last.recoded in
    let whole : IsRecoded from to (now.bytes ++ []) (now.grown ++ last.grown) = now.continues [] last.grown (rw (append-nil r.held) held) in
    let consumed : Consumes in_old in_new (now.bytes ++ []) = Consumes-trans in_old in_mid in_new now.bytes [] now.read taken in
    record {
      bytes = now.bytes;
      recoded = now.grown ++ last.grown;
      read = bytes_of_input in_old in_new now.bytes (rw (append-nil now.bytes) at consumed) end;
      is_recoded = rw (append-nil now.bytes) at whole;
      written = Appends-trans out_old out_mid out_new now.grown last.grown now.written (rw all at put);
    }
  where
    bytes_of_input : (a b : Option (List ℕ)) (xs : List ℕ) → Consumes a b xs → IsAtEnd b → IfSome a (λ ys. xs ≡ ys)
    bytes_of_input None b xs h i = tt
    bytes_of_input (Some zs) None xs h i = absurd h
    bytes_of_input (Some zs) (Some us) xs h i = sym (h ∙ ap (λ w. xs ++ w) i ∙ append-nil xs)

-- more reads than bytes found no end, so one failed
pub IsRelayed-long : {from to : Form} {in_old in_now out_old out_now : Option (List ℕ)} {f g n : ℕ} (most : ℕ) {r : Recoding}
    → IsRelayed from to in_old in_now out_old out_now f g n r → most ≤ n → IfSome in_old (λ xs. length xs < most → f < g)
IsRelayed-long {in_old} {in_now} {f} {g} {n} most now le = by_bytes in_old in_now now.bytes f g n most now.read now.paced le
  where
    by_bytes : (a b : Option (List ℕ)) (xs : List ℕ) (f g n most : ℕ) → Consumes a b xs → (f < g) ⊎ (n ≤ length xs) → most ≤ n → IfSome a (λ ys. length ys < most → f < g)
    by_bytes None b xs f g n most h paced le = tt
    by_bytes (Some zs) None xs f g n most h paced le = absurd h
    by_bytes (Some zs) (Some us) xs f g n most h paced le = λ few.
        let e = ap length h in
        ⊎_elim (λ (failed : f < g). failed) (λ (each : n ≤ length xs). absurd (omega (arith, length-append xs us))) paced

-- the output for some bytes, whatever follows, is a front of their output at the end
front_of : (from to : Form) (bytes grown held : List ℕ) → Continues from to bytes grown held
    → (rest : List ℕ) × IsRecoded from to bytes (grown ++ rest)
front_of from to bytes grown held continues =
    let once = recoded_once from to held in
    let whole = continues [] once.0 (rw (append-nil held) once.1) in
    (once.0, rw (append-nil bytes) at whole)

BeginsRecoded-held : (from to : Form) (in_old in_new out_old out_new : Option (List ℕ)) (bytes grown held : List ℕ)
    → Consumes in_old in_new bytes → Continues from to bytes grown held → AppendsFront out_old out_new grown
    → BeginsRecoded from to in_old in_new out_old out_new
BeginsRecoded-held from to in_old in_new out_old out_new bytes grown held read continues written =
    let whole = front_of from to bytes grown held continues in
    record {
      bytes = bytes;
      recoded = grown ++ whole.0;
      read = read;
      is_recoded = whole.1;
      written = AppendsFront-first out_old out_new grown whole.0 written;
    }

-- a read failed, so no more was written
pub BeginsRecoded-now : {from to : Form} {in_old in_mid in_new out_old out_now : Option (List ℕ)} {f g n : ℕ} {r : Recoding}
    → IsRelayed from to in_old in_mid out_old out_now f g n r → Keeps in_mid in_new → BeginsRecoded from to in_old in_new out_old out_now
BeginsRecoded-now {from} {to} {in_old} {in_mid} {in_new} {out_old} {out_now} {r} now keeps =
    BeginsRecoded-held from to in_old in_new out_old out_now now.bytes now.grown r.held
    (Consumes-kept in_old in_mid in_new now.bytes now.read keeps) now.continues (AppendsFront-all out_old out_now now.grown now.written)

-- a part was read, and an allocation for it failed
pub BeginsRecoded-refused : (from to : Form) (in_old in_mid in_new out_old out_now : Option (List ℕ)) (f g n : ℕ) (r : Recoding) (part : List ℕ)
    → IsRelayed from to in_old in_mid out_old out_now f g n r → Consumes in_mid in_new part → BeginsRecoded from to in_old in_new out_old out_now
BeginsRecoded-refused from to in_old in_mid in_new out_old out_now f g n r part now taken =
    BeginsRecoded-held from to in_old in_new out_old out_now (now.bytes ++ part) now.grown (r.held ++ part)
    (Consumes-trans in_old in_mid in_new now.bytes part now.read taken)
    (Continues-append from to now.bytes now.grown r.held part now.continues) (AppendsFront-all out_old out_now now.grown now.written)

-- a part was read and fed, and a write of its output failed
pub BeginsRecoded-part : (from to : Form) (in_old in_mid in_new out_old out_mid out_new : Option (List ℕ)) (f g n : ℕ) (r s : Recoding) (part : List ℕ)
    → IsRelayed from to in_old in_mid out_old out_mid f g n r → Consumes in_mid in_new part → PassesFront r part out_mid out_new s
    → BeginsRecoded from to in_old in_new out_old out_new
BeginsRecoded-part from to in_old in_mid in_new out_old out_mid out_new f g n r s part now taken (grown, fed, put) =
    let grows = fed.grows in
    let then : Continues from to (r.held ++ part) grows.grown s.held = rw (now.from_same, now.to_same) at grows.continues in
    let first : Continues from to (now.bytes ++ part) now.grown (r.held ++ part) = Continues-append from to now.bytes now.grown r.held part now.continues in
    let all : grown ≡ grows.grown = grows.appended in
    BeginsRecoded-held from to in_old in_new out_old out_new (now.bytes ++ part) (now.grown ++ grows.grown) s.held
    (Consumes-trans in_old in_mid in_new now.bytes part now.read taken)
    (Continues-trans from to (now.bytes ++ part) now.grown (r.held ++ part) grows.grown s.held first then)
    (AppendsFront-then out_old out_mid out_new now.grown grows.grown now.written (rw all at put))

-- the reader was at its end, and a front of the last output was written
pub BeginsRecoded-last : (from to : Form) (in_old in_mid in_new out_old out_mid out_new : Option (List ℕ)) (f g n : ℕ) (r : Recoding)
    → IsRelayed from to in_old in_mid out_old out_mid f g n r → Consumes in_mid in_new [] → PassesLastFront r out_mid out_new
    → BeginsRecoded from to in_old in_new out_old out_new
BeginsRecoded-last from to in_old in_mid in_new out_old out_mid out_new f g n r now taken (grown, last, put) =
    let all : grown ≡ last.grown = last.appended in
    let held : IsRecoded from to r.held last.grown = rw (now.from_same, now.to_same) at last.recoded in
    let whole : IsRecoded from to (now.bytes ++ []) (now.grown ++ last.grown) = now.continues [] last.grown (rw (append-nil r.held) held) in
    record {
      bytes = now.bytes ++ [];
      recoded = now.grown ++ last.grown;
      read = Consumes-trans in_old in_mid in_new now.bytes [] now.read taken;
      is_recoded = whole;
      written = AppendsFront-then out_old out_mid out_new now.grown last.grown now.written (rw all at put);
    }

-- a front of the output was written, whatever the last write returned
pub BeginsRecoded-end : {U : Type 0} {from to : Form} {in_old in_mid in_new out_old out_mid out_new : Option (List ℕ)} {f g n : ℕ} {r : Recoding} (result : Result U RecodeFault)
    → IsRelayed from to in_old in_mid out_old out_mid f g n r → Consumes in_mid in_new [] → OnOk result (PassesLast r out_mid out_new)
    → (result ≡ Err Write → PassesLastFront r out_mid out_new) → (result ≡ Err Memory → out_new ≡ out_mid) → (result ≡ Err Read → ⊥)
    → BeginsRecoded from to in_old in_new out_old out_new
BeginsRecoded-end {from} {to} {in_old} {in_mid} {in_new} {out_old} {out_mid} {out_new} {f} {g} {n} {r} (Ok done) now taken all front refused other =
    BeginsRecoded-last from to in_old in_mid in_new out_old out_mid out_new f g n r now taken (all.0, all.1, AppendsFront-all out_mid out_new all.0 all.2)
BeginsRecoded-end {from} {to} {in_old} {in_mid} {in_new} {out_old} {out_mid} {out_new} {f} {g} {n} {r} (Err Write) now taken all front refused other =
    BeginsRecoded-last from to in_old in_mid in_new out_old out_mid out_new f g n r now taken (front refl)
BeginsRecoded-end {from} {to} {in_old} {in_mid} {in_new} {out_old} {out_mid} {f} {g} {n} {r} (Err Memory) now taken all front refused other =
    rw (refused refl) (BeginsRecoded-refused from to in_old in_mid in_new out_old out_mid f g n r [] now taken)
BeginsRecoded-end (Err Read) now taken all front refused other = absurd (other refl)

-- a front of the output was written, whatever fault a part had
pub BeginsRecoded-fault : {from to : Form} {in_old in_mid in_new out_old out_mid out_new : Option (List ℕ)} {f g n : ℕ} {r s : Recoding} {part : List ℕ} (fault : RecodeFault)
    → IsRelayed from to in_old in_mid out_old out_mid f g n r → Consumes in_mid in_new part
    → (fault ≡ Write → PassesFront r part out_mid out_new s) → (fault ≡ Memory → out_new ≡ out_mid) → (fault ≡ Read → ⊥)
    → BeginsRecoded from to in_old in_new out_old out_new
BeginsRecoded-fault {from} {to} {in_old} {in_mid} {in_new} {out_old} {out_mid} {out_new} {f} {g} {n} {r} {s} {part} Write now taken front refused other =
    BeginsRecoded-part from to in_old in_mid in_new out_old out_mid out_new f g n r s part now taken (front refl)
BeginsRecoded-fault {from} {to} {in_old} {in_mid} {in_new} {out_old} {out_mid} {f} {g} {n} {r} {part} Memory now taken front refused other =
    rw (refused refl) (BeginsRecoded-refused from to in_old in_mid in_new out_old out_mid f g n r part now taken)
BeginsRecoded-fault Read now taken front refused other = absurd (other refl)

-- a reader of which nothing is left gives nothing
pub from_nothing : (b : Option (List ℕ)) (xs : List ℕ) → Consumes (Some []) b xs → 0 < length xs → ⊥
from_nothing None xs h some = h
from_nothing (Some ys) xs h some =
    let long = ap length h in
    omega (arith, length-append xs ys)

-- after a read that gave nothing, still nothing is left
pub still_nothing : (b : Option (List ℕ)) → Keeps (Some []) b → b ≡ Some []
still_nothing None h = absurd h
still_nothing (Some ys) h = ap Some h

-- if no allocation failed, a fault is one of the reader or of the writer
pub fails_at_an_end : (fault : RecodeFault) (f g h k : ℕ) → (fault ≡ Read → f < g) → (fault ≡ Write → h < k) → (fault ≡ Memory → ⊥) → (f < g) ⊎ (h < k)
fails_at_an_end Read f g h k reads writes refused = inl (reads refl)
fails_at_an_end Write f g h k reads writes refused = inr (writes refl)
fails_at_an_end Memory f g h k reads writes refused = absurd (refused refl)

-- if all of a known input was transcoded, its one list was written
pub AppendsRecoded-of : {from to : Form} (input : Option (List ℕ)) {old new : Option (List ℕ)} → WritesRecoded from to input old new → AppendsRecoded from to input old new
AppendsRecoded-of None w = tt
AppendsRecoded-of {from} {to} (Some xs) {old} {new} w =
    let same : w.recoded ≡ recoded from to xs = same_list from to w.bytes w.recoded w.is_recoded ∙ ap (recoded from to) w.read in
    subst (λ ys. Appends old new ys) same w.written
