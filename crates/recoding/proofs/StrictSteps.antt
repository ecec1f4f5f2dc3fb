-- Calls of strict transcoding, step by step.
use Rattle.std.proofs.Common.{◌≡◌, ℕ, ◌+◌, ◌-◌, ◌*◌, ◌<◌, ◌≤◌, ⊎_elim, List, [], ◌++◌, length, min, take, drop, arith, refl, ap, ap₂, sym, subst, ◌∙◌, append-nil, append_assoc, length-append, length-drop, length-take, take-append-drop}
use Rattle.std.proofs.Math.Seq.{drop-append-add}
use Rattle.std.proofs.lemmas.Bool.{cases_lt}
use Rattle.std.proofs.lemmas.List.{drop_all, take_all, drop-append-le, take-append-le}
use Rattle.recoding.specs.Recoded.{Recoding}
use Rattle.recoding.specs.Replacing.{FillsPlace, at_place}
use Rattle.recoding.specs.Rooms.{ComesNearer, IsAmpleForText}
use Rattle.recoding.specs.NextScalars.{fault_len}
use Rattle.recoding.specs.Strict.{AwaitsKind, BeginsChar, BeginsFault, EndsFeed, EndsFinish, EndsInFault, EndsRun, FeedsStrictly, FinishesStrictly, IsLonger, IsTooLong, PutsText, StopsAt, Transcodes, lacking}
use Rattle.recoding.specs.declared.faults.FaultKind.{FaultKind}
use Rattle.recoding.specs.declared.faults.Outcome.{Outcome}
use Rattle.recoding.specs.declared.faults.Outcome.TheVariants.{AllRead, Full, Faulty}
use Rattle.recoding.specs.declared.faults.StrictProgress.{StrictProgress}
use Rattle.recoding.specs.declared.first_pieces.FirstPiece.{FirstPiece}
use Rattle.recoding.specs.declared.first_pieces.FirstPiece.TheVariants as piece
use Rattle.recoding.specs.declared.form.Form.{Form}
use Rattle.recoding.proofs.Forms.{by_form, is_units}
use Rattle.recoding.specs.declared.recoder_runs.StrictRun.{StrictRun}
use Rattle.recoding.proofs.FrontBytes.{fault_is_some}
use Rattle.recoding.proofs.RoomRuns.{few_written}
use Rattle.recoding.proofs.TextRuns.{Transcodes-none, code_doubles, text_doubles, text_room}

-- A front of two lists, one after the other.

pub drop_second : (n : ℕ) (xs ys : List ℕ) → length xs ≤ n → drop n (xs ++ ys) ≡ drop (n - length xs) ys
drop_second n xs ys le =
    let at : n ≡ length xs + (n - length xs) = omega arith in
    ap (λ k. drop k (xs ++ ys)) at ∙ drop-append-add xs ys (n - length xs)

pub drop_both : (n : ℕ) (xs ys : List ℕ) → drop n (xs ++ ys) ≡ drop n xs ++ drop (n - length xs) ys
drop_both n xs ys =
    ⊎_elim
    (λ (more : length xs < n). drop_second n xs ys (omega arith) ∙ ap (λ zs. zs ++ drop (n - length xs) ys) (sym (drop_all n xs (omega arith))))
    (λ (le : n ≤ length xs).
    let none : n - length xs ≡ 0 = omega arith in
    drop-append-le n xs ys le ∙ ap (λ k. drop n xs ++ drop k ys) (sym none))
    (cases_lt (length xs) n)

-- the bytes that are left after the first n of the carried-over ones and a part
pub pass_left : (n more : ℕ) (held now part : List ℕ) → now ≡ drop n held → more ≡ n - length held → drop n (held ++ part) ≡ now ++ drop more part
pass_left n more held now part e f = drop_both n held part ∙ ap₂ (λ xs k. xs ++ drop k part) (sym e) (sym f)

-- The piece that begins some bytes begins those with more after them.

pub BeginsChar-more : (from : Form) (w x : List ℕ) (s n : ℕ) → BeginsChar from w s n → BeginsChar from (w ++ x) s n
BeginsChar-more from w x s n d =
    let within = d.within in
    record { scalar = d.scalar; some = d.some; within = omega (arith, length-append w x); code = take-append-le n w x within ∙ d.code }

pub BeginsFault-more : (from : Form) (w x : List ℕ) (k : FaultKind) (n : ℕ) → BeginsFault from w k n → BeginsFault from (w ++ x) k n
BeginsFault-more from w x k n f =
    let within = f.within in
    record { within = omega (arith, length-append w x); len = f.len; kind = λ later. rw (append_assoc w x later) (f.kind (x ++ later)) }

-- a fault has at most two bytes
pub fault_few : (from : Form) → fault_len from ≤ 2
fault_few = by_form _ (omega arith) (λ high. rw (is_units high, fault_len) (omega arith))

front_len : (n : ℕ) (w : List ℕ) → n ≤ length w → length (take n w) ≡ n
front_len n w le = omega (arith, length-take n w)

-- A fault that begins what is left.

pub EndsFeed-fault : (from to : Form) (w held rest : List ℕ) (k : FaultKind) (n room : ℕ) → BeginsFault from w k n → drop n w ≡ held ++ rest
    → EndsFeed from to (Faulty (record { kind = k; len = n; back = n + length held })) (take n w) held rest room
EndsFeed-fault from to w held rest k n room f e =
    let len = front_len n w f.within in
    let all : w ≡ take n w ++ (held ++ rest) = sym (take-append-drop n w) ∙ ap (λ zs. take n w ++ zs) e in
    (rw len (subst (λ zs. BeginsFault from zs k n) all f), record { len = sym len; back = ap (λ m. m + length held) (sym len) })

-- the fault, followed by the rest of the bytes
pub fault_parts : (n : ℕ) (w held rest : List ℕ) → drop n w ≡ held ++ rest → w ≡ take n w ++ (held ++ rest)
fault_parts n w held rest e = sym (take-append-drop n w) ∙ ap (λ zs. take n w ++ zs) e

-- The capacity that a call needs.

-- Two bytes of capacity for each byte are enough.
pub enough_room : {from to : Form} {text left : List ℕ} {wrote room : ℕ} (new : List ℕ) → Transcodes from to text (take wrote new) → wrote ≤ length new → 2 * (length text + length left) ≤ room
    → IsTooLong from to left (room - wrote) → ⊥
enough_room {from} {to} {left = left} {wrote} new text fits enough long =
    let c = long.begins in
    absurd (omega (
      arith,
      enough,
      text_doubles text,
      front_len wrote new fits,
      code_doubles from to long.scalar c.scalar,
      ap length c.code,
      front_len long.len left c.within,
      c.within,
      long.longer,
    ))

-- The results of a call for its callers.

module _ (r : Recoding) (part old new : List ℕ) (s : Recoding) where
  -- All was read.
  pub all_is_read : (p : StrictProgress) → FeedsStrictly r part old new p s → p.outcome ≡ AllRead → p.read ≡ length part
  all_is_read p f e =
      let ends = subst (λ o. EndsFeed r.from r.to o f.fault s.held (drop p.read part) (length old - p.written)) e f.ends in
      let within = f.within in
      omega (arith, ap length ends.1, length-drop p.read part)

  -- There is no capacity for a code.
  pub room_is_short : (p : StrictProgress) → FeedsStrictly r part old new p s → p.outcome ≡ Full → length old < p.written + 4
  room_is_short p f e =
      let ends = subst (λ o. EndsFeed r.from r.to o f.fault s.held (drop p.read part) (length old - p.written)) e f.ends in
      let long = ends.1 in
      omega (arith, few_written r.to long.scalar, long.longer, f.fits)

  -- The capacity was too small for what is left.
  pub room_is_enough : (p : StrictProgress) → FeedsStrictly r part old new p s → length new ≡ length old → IsAmpleForText (length old) (length r.held + length part) → p.outcome ≡ Full → ⊥
  room_is_enough p f len enough e =
      let ends = subst (λ o. EndsFeed r.from r.to o f.fault s.held (drop p.read part) (length old - p.written)) e f.ends in
      let left : List ℕ = s.held ++ drop p.read part in
      enough_room new f.transcodes (omega (arith, f.fits)) (omega (arith, ap length f.parts, length-append r.held part, length-append f.text (f.fault ++ left), length-append f.fault left, ap length ends.0)) ends.1

  moved : (p : StrictProgress) (f : FeedsStrictly r part old new p s) → 0 < length part → 0 < length f.text + length f.fault
      → 2 * (length part - p.read) + length s.held < 2 * length part + length r.held
  moved p f some more =
      omega (
        arith,
        ap length f.parts,
        length-append r.held part,
        length-append f.text (f.fault ++ (s.held ++ drop p.read part)),
        length-append f.fault (s.held ++ drop p.read part),
        length-append s.held (drop p.read part),
        length-drop p.read part,
        f.within,
      )

  nearer_by : (p : StrictProgress) (o : Outcome) (f : FeedsStrictly r part old new p s) → EndsFeed r.from r.to o f.fault s.held (drop p.read part) (length old - p.written)
      → p.outcome ≡ o → length new ≡ length old → 4 ≤ length old → 0 < length part → 2 * (length part - p.read) + length s.held < 2 * length part + length r.held
  nearer_by p AllRead f ends e len room some =
      omega (
        arith,
        ap length f.parts,
        length-append r.held part,
        length-append f.text (f.fault ++ (s.held ++ drop p.read part)),
        length-append f.fault (s.held ++ drop p.read part),
        length-append s.held (drop p.read part),
        length-drop p.read part,
        ap length ends.1,
        f.within,
      )
  nearer_by p Full f ends e len room some =
      moved p f some (omega (arith, room_is_short p f e, text_room f.transcodes, front_len p.written new (omega (arith, f.fits))))
  nearer_by p (Faulty x) f ends e len room some =
      moved p f some (omega (arith, ends.0.len, fault_is_some r.from))

  pub comes_nearer : (p : StrictProgress) → FeedsStrictly r part old new p s → length new ≡ length old → ComesNearer part old p.read r s
  comes_nearer p f len room some =
      let nothing : length part - 0 ≡ length part = omega arith in
      rw nothing (nearer_by p p.outcome f f.ends refl len room some)

-- The carried-over bytes and the first bytes of the part, joined.

pub joined_left : (joined held part : List ℕ) → joined ≡ held ++ take 3 part → joined ++ drop 3 part ≡ held ++ part
joined_left joined held part e = ap (λ xs. xs ++ drop 3 part) e ∙ append_assoc held (take 3 part) (drop 3 part) ∙ ap (λ xs. held ++ xs) (take-append-drop 3 part)

-- if few bytes are undecided, they are all that is left
undecided_left : (joined held part : List ℕ) → joined ≡ held ++ take 3 part → length joined ≤ 3 → 0 < length held → joined ≡ held ++ part
undecided_left joined held part e few some =
    let short : length (take 3 part) < 3 = omega (arith, ap length e, length-append held (take 3 part)) in
    e ∙ ap (λ xs. held ++ xs) (take_all 3 part (omega (arith, length-take 3 part)))

pub StopsAt-joined : {from to : Form} {joined : List ℕ} {room : ℕ} (held part : List ℕ) (first : FirstPiece) → joined ≡ held ++ take 3 part → 0 < length held → StopsAt from to joined room first
    → StopsAt from to (held ++ part) room first
StopsAt-joined {from} {joined = joined} held part (piece.Char s n) e some f = record { begins = rw (joined_left joined held part e) at (BeginsChar-more from joined (drop 3 part) s n f.begins); longer = f.longer }
StopsAt-joined {from} {joined = joined} held part (piece.Fault k n) e some f = record { begins = rw (joined_left joined held part e) at (BeginsFault-more from joined (drop 3 part) k n f.begins); longer = f.longer }
StopsAt-joined {from} {to} {joined} {room} held part piece.Undecided e some f =
    let awaits : AwaitsKind from joined = f.begins in
    subst (λ xs. StopsAt from to xs room piece.Undecided) (undecided_left joined held part e awaits.few some) f

-- One call.
pub FeedsStrictly-run : {r s : Recoding} {part old new : List ℕ} {run : StrictRun} {ended : ℕ × Outcome} → PutsText FillsPlace r.from r.to (r.held ++ part) (at_place old 0) (at_place new run.written) run.read
    → IsLonger r.to (length old - run.written) run.first → EndsRun r part run ended s → FeedsStrictly r part old new (record { read = ended.0; written = run.written; outcome = ended.1 }) s
FeedsStrictly-run {r} {part = part} {old} {run = run} puts longer ends =
    let fills = puts.appended in
    let text : List ℕ = take run.read (r.held ++ part) in
    record {
      text = text;
      fault = ends.fault;
      parts = sym (take-append-drop run.read (r.held ++ part)) ∙ ap (λ xs. text ++ xs) ends.left;
      transcodes = rw fills.front puts.transcodes;
      fits = omega (arith, fills.fits, fills.whole);
      ends = ends.ends (length old - run.written) longer;
      within = ends.within;
      from = ap (λ x. x.from) ends.same;
      to = ap (λ x. x.to) ends.same;
      replaced = ap (λ x. x.replaced) ends.same;
      few = ends.few;
    }

-- The carried-over bytes, which nothing follows.

-- a fault whatever follows is one if nothing does
pub EndsInFault-of : (from : Form) (w : List ℕ) (k : FaultKind) (n : ℕ) → BeginsFault from w k n → EndsInFault from w k n
EndsInFault-of from w k n f =
    let within = f.within in
    let len = f.len in
    record { some = omega (arith, fault_is_some from); len = omega arith; kind = rw (append-nil w) at (f.kind []) }

ends_last : (from to : Form) (o : Outcome) (fault held : List ℕ) (room : ℕ) → (o ≡ AllRead → held ≡ []) → EndsFeed from to o fault held [] room → EndsFinish from to o fault held room
ends_last from to AllRead fault held room none ends = (ends.0, none refl)
ends_last from to Full fault held room none ends = (ends.0, rw (append-nil held) at ends.1)
ends_last from to (Faulty f) fault held room none ends = (EndsInFault-of from (fault ++ held) f.kind (length fault) (rw (append-nil held) at ends.0), ends.1)

pub FinishesStrictly-none : (r : Recoding) (old : List ℕ) → r.held ≡ [] → FinishesStrictly r old old (record { read = 0; written = 0; outcome = AllRead }) r
FinishesStrictly-none r old none = record {
  text = [];
  fault = [];
  parts = refl;
  transcodes = Transcodes-none r.from r.to;
  fits = omega arith;
  ends = (refl, none);
  from = refl;
  to = refl;
  replaced = refl;
  few = omega arith;
}

module _ {r s : Recoding} {old new : List ℕ} {p : StrictProgress} (f : FeedsStrictly r [] old new p s) where
  ended : (q : StrictProgress) (t : Recoding) (fault : List ℕ) → q.written ≡ p.written → f.fault ++ s.held ≡ fault ++ t.held → t ≡ record s { held = t.held }
      → EndsFinish r.from r.to q.outcome fault t.held (length old - p.written) → FinishesStrictly r old new q t
  ended q t fault same e now ends =
      let parts : r.held ≡ f.text ++ (fault ++ t.held) = sym (append-nil r.held) ∙ f.parts ∙ ap (λ xs. f.text ++ (f.fault ++ (s.held ++ xs))) (drop_all p.read [] (omega arith)) ∙ ap (λ xs. f.text ++ (f.fault ++ xs)) (append-nil s.held) ∙ ap (λ xs. f.text ++ xs) e in
      record {
        text = f.text;
        fault = fault;
        parts = parts;
        transcodes = rw same f.transcodes;
        fits = omega (arith, same, f.fits);
        ends = rw same ends;
        from = ap (λ x. x.from) now ∙ f.from;
        to = ap (λ x. x.to) now ∙ f.to;
        replaced = ap (λ x. x.replaced) now ∙ f.replaced;
        few = omega (arith, ap length parts, length-append f.text (fault ++ t.held), length-append fault t.held);
      }

  pub FinishesStrictly-of : (p.outcome ≡ AllRead → s.held ≡ []) → FinishesStrictly r old new p s
  FinishesStrictly-of none =
      let ends = subst (λ xs. EndsFeed r.from r.to p.outcome f.fault s.held xs (length old - p.written)) (drop_all p.read [] (omega arith)) f.ends in
      ended p s f.fault refl refl refl (ends_last r.from r.to p.outcome f.fault s.held (length old - p.written) none ends)

  -- too few bytes are a fault
  pub FinishesStrictly-lacking : {t : Recoding} {n read : ℕ} → p.outcome ≡ AllRead → 0 < length s.held → n ≡ min (fault_len r.from) (length s.held) → t ≡ record s { held = drop n s.held }
      → FinishesStrictly r old new (record { read = read; written = p.written; outcome = Faulty (record { kind = lacking r.from; len = n; back = n + length t.held }) }) t
  FinishesStrictly-lacking {t} {n} all some e now =
      let ends = subst (λ o. EndsFeed r.from r.to o f.fault s.held (drop p.read []) (length old - p.written)) all f.ends in
      let held : t.held ≡ drop n s.held = ap (λ x. x.held) now in
      let whole : s.held ≡ take n s.held ++ t.held = sym (take-append-drop n s.held) ∙ ap (λ xs. take n s.held ++ xs) (sym held) in
      let len : length (take n s.held) ≡ n = omega (arith, length-take n s.held, e) in
      ended _ t (take n s.held) refl (ap (λ xs. xs ++ s.held) ends.0 ∙ whole) (now ∙ ap (λ xs. record s { held = xs }) (sym held))
      (rw len (subst (λ xs. EndsInFault r.from xs (lacking r.from) n) whole (record { some = some; len = e; kind = ends.2.kind })), record { len = sym len; back = ap (λ m. m + length t.held) (sym len) })
