-- Text transcoded on its way from a reader to a writer, part by part, up to the first fault.
use Rattle.std.proofs.Common.{◌≡◌, ℕ, ◌+◌, ◌-◌, ◌^◌, ◌<◌, ◌≤◌, min, ◌⊎◌, inl, inr, ⊎_elim, List, [], ◌++◌, length, take, drop, Option, Some, None, refl, ap, sym, subst, ◌∙◌, arith, append_assoc, length-append, length-drop}
use Rattle.std.proofs.lemmas.List.{append-nil, drop_at}
use Rattle.std.proofs.KnownBytes.{Appends-nil, Appends-trans, Consumes-nil, Consumes-trans, Consumes-kept}
use Rattle.std.specs.Prelude.{IfSome}
use Rattle.std.specs.Io.KnownBytes.{Appends, Consumes, Keeps, IsAtEnd}
use Rattle.recoding.specs.declared.faults.Fault.{Fault}
use Rattle.recoding.specs.declared.faults.Outcome.TheVariants.{Faulty}
use Rattle.recoding.specs.declared.faults.StrictProgress.{StrictProgress}
use Rattle.recoding.specs.declared.form.Form.{Form}
use Rattle.recoding.specs.Recoded.{Recoding, fresh}
use Rattle.recoding.specs.Strict.{Transcodes, FeedsStrictly, EndsFeed, kind_of}
use Rattle.recoding.proofs.StrictSteps.{fault_few}
use Rattle.recoding.proofs.TextRuns.{Transcodes-none, Transcodes-then}
use Rattle.text_programs.specs.StrictRelayed.{BeginsTranscoded, StopsFaulty, WritesText, PassesText, PassesTextFront, PassesTextLast, StopsText, IsFollowed}
use Rattle.text_programs.specs.declared.programs.strict.FaultAt.{FaultAt}
use Rattle.text_runs.proofs.Fronts.{AppendsFront-all, AppendsFront-then}

-- what is carried over after a part was read
pub held_within : (r s : Recoding) (part room new : List ℕ) (p : StrictProgress) → FeedsStrictly r part room new p s → (before read : ℕ) → length r.held ≤ before
    → read ≡ min (before + length part) (2 ^ 64 - 1) → length s.held ≤ read
held_within r s part room new p f before read held sum =
    omega (
      arith,
      ap length f.parts,
      length-append r.held part,
      length-append f.text (f.fault ++ (s.held ++ drop p.read part)),
      length-append f.fault (s.held ++ drop p.read part),
      length-append s.held (drop p.read part),
      f.few,
    )

-- A call of the recoder that ended at a fault.
module _ (r s : Recoding) (part room new : List ℕ) (p : StrictProgress) (x : Fault) (f : FeedsStrictly r part room new p s) (e : p.outcome ≡ Faulty x) where
  ends_faulty : EndsFeed r.from r.to (Faulty x) f.fault s.held (drop p.read part) (length room - p.written)
  ends_faulty = subst (λ o. EndsFeed r.from r.to o f.fault s.held (drop p.read part) (length room - p.written)) e f.ends

  lengths : length r.held + length part ≡ length f.text + (length f.fault + (length s.held + (length part - p.read)))
  lengths =
      omega (
        arith,
        ap length f.parts,
        length-append r.held part,
        length-append f.text (f.fault ++ (s.held ++ drop p.read part)),
        length-append f.fault (s.held ++ drop p.read part),
        length-append s.held (drop p.read part),
        length-drop p.read part,
      )

  -- the fault lies within what was read
  pub back_within : (before read : ℕ) → length r.held ≤ before → read ≡ min (before + p.read) (2 ^ 64 - 1) → x.back ≤ read
  back_within before read held sum =
      omega (arith, lengths, ends_faulty.1.back, ends_faulty.0.len, fault_few r.from, f.few, f.within)

  pub StopsText-of : (before read : ℕ) (out_old out_new : Option (List ℕ)) → length r.held ≤ before → read ≡ min (before + p.read) (2 ^ 64 - 1) → Appends out_old out_new (take p.written new)
      → StopsText r part IsFollowed before out_old out_new (record { offset = read - x.back; kind = x.kind })
  StopsText-of before read out_old out_new held sum put = record {
    text = f.text;
    rest = f.fault ++ (s.held ++ drop p.read part);
    grown = take p.written new;
    parts = f.parts;
    transcodes = f.transcodes;
    written = put;
    offset = λ fits. omega (arith, lengths, ends_faulty.1.back, f.within);
    kind = λ later following. ends_faulty.0.kind later;
  }

-- What was read so far is text, which was transcoded and written, followed by the carried-over bytes. Each of the
-- reads gave a byte, or one failed.
pub record IsTextRelayed (from to : Form) (in_old in_now out_old out_now : Option (List ℕ)) (failures_old failures_now turns : ℕ) (r : Recoding) (offset : ℕ) : Type 0 where
  pub text : List ℕ
  pub grown : List ℕ
  pub from_same : r.from ≡ from
  pub to_same : r.to ≡ to
  pub read : Consumes in_old in_now (text ++ r.held)
  pub transcodes : Transcodes from to text grown
  pub written : Appends out_old out_now grown
  pub few : length r.held ≤ 3
  pub paced : (failures_old < failures_now) ⊎ (turns ≤ length (text ++ r.held))
  pub counted : length (text ++ r.held) < 2 ^ 64 → offset ≡ length (text ++ r.held)

pub IsTextRelayed-none : {from to : Form} {input out : Option (List ℕ)} {failures : ℕ} {r : Recoding} → r ≡ fresh from to
    → IsTextRelayed from to input input out out failures failures 0 r 0
IsTextRelayed-none {from} {to} {input} {out} e =
    rw e (record {
      text = [];
      grown = [];
      from_same = refl;
      to_same = refl;
      read = Consumes-nil input;
      transcodes = Transcodes-none from to;
      written = Appends-nil out;
      few = omega arith;
      paced = inr (omega arith);
      counted = λ fits. refl;
    })

module _ {from to : Form} {in_old in_mid out_old out_mid : Option (List ℕ)} {f g n o : ℕ} {r : Recoding} (now : IsTextRelayed from to in_old in_mid out_old out_mid f g n r o) where
  -- what was read, with a part of which text is the front
  read_more : (part text rest : List ℕ) → r.held ++ part ≡ text ++ rest → (now.text ++ r.held) ++ part ≡ (now.text ++ text) ++ rest
  read_more part text rest e = append_assoc now.text r.held part ∙ ap (λ xs. now.text ++ xs) e ∙ sym (append_assoc now.text text rest)

  consumes_more : (in_new : Option (List ℕ)) (part text rest : List ℕ) → r.held ++ part ≡ text ++ rest → Consumes in_mid in_new part → Consumes in_old in_new ((now.text ++ text) ++ rest)
  consumes_more in_new part text rest e taken =
      subst (λ xs. Consumes in_old in_new xs) (read_more part text rest e) (Consumes-trans in_old in_mid in_new (now.text ++ r.held) part now.read taken)

  more_text : (text grown : List ℕ) → Transcodes r.from r.to text grown → Transcodes from to (now.text ++ text) (now.grown ++ grown)
  more_text text grown t = Transcodes-then now.transcodes (rw (now.from_same, now.to_same) at t)

  -- a part was read, fed and written
  pub IsTextRelayed-part : {in_new out_new : Option (List ℕ)} {h more : ℕ} {s : Recoding} {part : List ℕ} → Consumes in_mid in_new part → 0 < length part → h ≡ g + 0
      → PassesText r part out_mid out_new s → more ≡ min (o + length part) (2 ^ 64 - 1) → IsTextRelayed from to in_old in_new out_old out_new f h (n + 1) s more
  IsTextRelayed-part {in_new} {out_new} {s} {part} taken some same p sum =
      let all = ap length (read_more part p.text s.held p.parts) in
      let both = length-append (now.text ++ r.held) part in
      record {
        text = now.text ++ p.text;
        grown = now.grown ++ p.grown;
        from_same = p.from ∙ now.from_same;
        to_same = p.to ∙ now.to_same;
        read = consumes_more in_new part p.text s.held p.parts taken;
        transcodes = more_text p.text p.grown p.transcodes;
        written = Appends-trans out_old out_mid out_new now.grown p.grown now.written p.written;
        few = p.few;
        paced =
            ⊎_elim
            (λ (failed : f < g). inl (omega arith))
            (λ (each : n ≤ length (now.text ++ r.held)). inr (omega arith))
            now.paced;
        counted = λ fits. let exact = now.counted (omega arith) in omega arith;
      }

  -- a read failed
  pub IsTextRelayed-idle : (in_new : Option (List ℕ)) (h : ℕ) → Keeps in_mid in_new → f ≤ g → h ≡ g + 1 → IsTextRelayed from to in_old in_new out_old out_mid f h (n + 1) r o
  IsTextRelayed-idle in_new h keeps le more = record {
    text = now.text;
    grown = now.grown;
    from_same = now.from_same;
    to_same = now.to_same;
    read = Consumes-kept in_old in_mid in_new (now.text ++ r.held) now.read keeps;
    transcodes = now.transcodes;
    written = now.written;
    few = now.few;
    paced = inl (omega arith);
    counted = now.counted;
  }

  -- the reader is at its end, and the carried-over bytes are text
  pub IsTextRelayed-all : (in_new out_new : Option (List ℕ)) → Consumes in_mid in_new [] → IsAtEnd in_new → PassesTextLast r out_mid out_new → WritesText from to in_old out_old out_new
  IsTextRelayed-all in_new out_new taken end last = record {
    text = now.text ++ r.held;
    grown = now.grown ++ last.grown;
    read = bytes_of_input in_old in_new (now.text ++ r.held) (rw (append-nil (now.text ++ r.held)) at (Consumes-trans in_old in_mid in_new (now.text ++ r.held) [] now.read taken)) end;
    transcodes = more_text r.held last.grown last.transcodes;
    written = Appends-trans out_old out_mid out_new now.grown last.grown now.written last.written;
  }
    where
      bytes_of_input : (a b : Option (List ℕ)) (xs : List ℕ) → Consumes a b xs → IsAtEnd b → IfSome a (λ ys. xs ≡ ys)
      bytes_of_input None b xs h i = tt
      bytes_of_input (Some zs) None xs h i = absurd h
      bytes_of_input (Some zs) (Some us) xs h i = sym (h ∙ ap (λ w. xs ++ w) i ∙ append-nil xs)

  pub BeginsText-now : (in_new : Option (List ℕ)) → Keeps in_mid in_new → BeginsTranscoded from to in_old in_new out_old out_mid
  BeginsText-now in_new keeps = record {
    text = now.text;
    rest = r.held;
    grown = now.grown;
    read = Consumes-kept in_old in_mid in_new (now.text ++ r.held) now.read keeps;
    transcodes = now.transcodes;
    written = AppendsFront-all out_old out_mid now.grown now.written;
  }

  -- a part was fed, and a front of its text was written
  pub BeginsText-part : (in_new out_new : Option (List ℕ)) (part : List ℕ) → Consumes in_mid in_new part → PassesTextFront r part out_mid out_new → BeginsTranscoded from to in_old in_new out_old out_new
  BeginsText-part in_new out_new part taken p = record {
    text = now.text ++ p.text;
    rest = p.rest;
    grown = now.grown ++ p.grown;
    read = consumes_more in_new part p.text p.rest p.parts taken;
    transcodes = more_text p.text p.grown p.transcodes;
    written = AppendsFront-then out_old out_mid out_new now.grown p.grown now.written p.written;
  }

  -- a fault was met in a part, or at the end
  pub StopsFaulty-of : (in_new out_new : Option (List ℕ)) (part : List ℕ) (Follows : List ℕ → Type 0) (x : FaultAt) → Consumes in_mid in_new part
      → IfSome in_new Follows → StopsText r part Follows o out_mid out_new x → StopsFaulty from to in_old in_new out_old out_new x
  StopsFaulty-of in_new out_new part Follows x taken follows p =
      let read = consumes_more in_new part p.text p.rest p.parts taken in
      let all = ap length (read_more part p.text p.rest p.parts) in
      record {
        text = now.text ++ p.text;
        rest = p.rest;
        grown = now.grown ++ p.grown;
        read = read;
        transcodes = more_text p.text p.grown p.transcodes;
        written = Appends-trans out_old out_mid out_new now.grown p.grown now.written p.written;
        offset = λ fits.
            let exact = now.counted (omega (arith, length-append (now.text ++ r.held) part)) in
            let at = p.offset (omega (arith, length-append (now.text ++ r.held) part)) in
            omega (arith, length-append now.text r.held, length-append now.text p.text);
        kind = kind_in in_old in_new read follows;
      }
    where
      kind_in : (a b : Option (List ℕ)) → Consumes a b ((now.text ++ p.text) ++ p.rest) → IfSome b Follows
          → IfSome a (λ xs. kind_of from (drop (length (now.text ++ p.text)) xs) ≡ Some x.kind)
      kind_in None b h k = tt
      kind_in (Some xs) None h k = absurd h
      kind_in (Some xs) (Some later) h k =
          let rest : drop (length (now.text ++ p.text)) xs ≡ p.rest ++ later = ap (drop (length (now.text ++ p.text))) (h ∙ append_assoc (now.text ++ p.text) p.rest later) ∙ drop_at (now.text ++ p.text) (p.rest ++ later) _ refl in
          rw rest (subst (λ y. kind_of y (p.rest ++ later) ≡ Some x.kind) now.from_same (p.kind later k))
