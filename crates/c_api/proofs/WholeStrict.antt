-- Transcoding of a whole input in one call, up to its first fault.
use Rattle.std.proofs.Common.{◌≡◌, ℕ, ◌+◌, ◌-◌, ◌<◌, ◌≤◌, List, ◌++◌, length, take, drop, refl, ap, ap₂, sym, subst, ◌∙◌, append_assoc, arith, length-append, length-drop, length-take}
use Rattle.std.proofs.lemmas.List.{append-nil}
use Rattle.std.proofs.Math.Seq.{drop-append_seam, take-append_seam}
use Rattle.cuts.specs.declared.Form.{Form}
use Rattle.cuts.specs.declared.Outcome.{Outcome}
use Rattle.cuts.specs.declared.Outcome.TheVariants.{AllRead, Full, Faulty}
use Rattle.cuts.specs.declared.StrictProgress.{StrictProgress}
use Rattle.cuts.specs.Recoded.{Recoding, fresh}
use Rattle.cuts.specs.Rooms.{IsAmpleForText}
use Rattle.cuts.specs.Strict.{EndsFeed, EndsFinish, FeedsStrictly, FinishesStrictly, Transcodes}
use Rattle.c_api.specs.Whole.{EndsWhole, RecodesStrictly, fault_unread, unrecoded}
use Rattle.c_api.proofs.WholeRuns.{length_both, written_both}
use borrow.Rule.Slice.PartMut.{put_mid}
use Rattle.recoding.proofs.StrictSteps.{EndsInFault-of, enough_room}
use Rattle.recoding.proofs.RoomRuns.{few_written}
use Rattle.recoding.proofs.TextRuns.{Transcodes-then}

-- The bytes that a call transcoded, and why it ended.
RecodesStrictly-of : (from to : Form) (bytes old new text left : List ℕ) (read wrote : ℕ) (o : Outcome) → bytes ≡ text ++ left → Transcodes from to text (take wrote new) → wrote ≤ length old → read ≡ length text
    → EndsWhole from to o left (length old - wrote) → RecodesStrictly from to bytes old new (record { read = read; written = wrote; outcome = o })
RecodesStrictly-of from to bytes old new text left read wrote o parts made fits len ends =
    let front : take read bytes ≡ text = ap₂ take len parts ∙ take-append_seam text left in
    let rest : drop read bytes ≡ left = ap₂ drop len parts ∙ drop-append_seam text left in
    record {
      within = omega (arith, ap length parts, length-append text left);
      transcodes = subst (λ xs. Transcodes from to xs (take wrote new)) (sym front) made;
      fits = fits;
      ends = subst (λ xs. EndsWhole from to o xs (length old - wrote)) (sym rest) ends;
    }

-- A call that was given all of the input.
module _ (from to : Form) (s : Recoding) (bytes old new : List ℕ) (p : StrictProgress) (f : FeedsStrictly (fresh from to) bytes old new p s) where
  text_len : p.read ≡ length f.text + (length f.fault + length s.held)
  text_len =
      omega (
        arith,
        ap length f.parts,
        length-append f.text (f.fault ++ (s.held ++ drop p.read bytes)),
        length-append f.fault (s.held ++ drop p.read bytes),
        length-append s.held (drop p.read bytes),
        length-drop p.read bytes,
        f.within,
      )

  fed_by : (o : Outcome) → (o ≡ AllRead → ⊥) → EndsFeed from to o f.fault s.held (drop p.read bytes) (length old - p.written)
      → RecodesStrictly from to bytes old new (record { read = p.read - unrecoded o (length s.held); written = p.written; outcome = fault_unread o })
  fed_by AllRead not ends = absurd (not refl)
  fed_by Full not ends =
      RecodesStrictly-of from to bytes old new f.text (f.fault ++ (s.held ++ drop p.read bytes)) (p.read - length s.held) p.written Full f.parts f.transcodes f.fits
      (omega (arith, text_len, ap length ends.0)) (rw ends.0 ends.1)
  fed_by (Faulty x) not ends =
      let left : List ℕ = f.fault ++ (s.held ++ drop p.read bytes) in
      let tells = ends.1 in
      RecodesStrictly-of from to bytes old new f.text left (p.read - x.back) p.written (fault_unread (Faulty x)) f.parts f.transcodes f.fits
      (omega (arith, text_len, tells.back)) (rw tells.len (EndsInFault-of from left x.kind (length f.fault) ends.0), refl)

  pub fed_whole : (p.outcome ≡ AllRead → ⊥) → RecodesStrictly from to bytes old new (record { read = p.read - unrecoded p.outcome (length s.held); written = p.written; outcome = fault_unread p.outcome })
  fed_whole not = fed_by p.outcome not f.ends

  -- All was read, and the carried-over bytes were finished in the rest of the buffer.
  module _ (all : p.outcome ≡ AllRead) (same : length new ≡ length old) (t : Recoding) (ended : List ℕ) (q : StrictProgress) (g : FinishesStrictly s (drop p.written new) ended q t)
      (len : length ended ≡ length new - p.written) where
    abbrev pub both : List ℕ
    both = put_mid p.written (length new - p.written) new ended

    fits : p.written ≤ length new
    fits = omega (arith, f.fits, same)

    pub both_same : length both ≡ length old
    both_same = length_both new ended p.written q.written fits len ∙ same

    fed_ends : EndsFeed from to AllRead f.fault s.held (drop p.read bytes) (length old - p.written)
    fed_ends = subst (λ o. EndsFeed from to o f.fault s.held (drop p.read bytes) (length old - p.written)) all f.ends

    abbrev pub text : List ℕ
    text = f.text ++ g.text

    both_parts : bytes ≡ text ++ (g.fault ++ t.held)
    both_parts =
        let first : bytes ≡ f.text ++ s.held =
        f.parts ∙ ap₂ (λ xs ys. f.text ++ (xs ++ (s.held ++ ys))) fed_ends.0 fed_ends.1 ∙ ap (λ xs. f.text ++ xs) (append-nil s.held) in
        first ∙ ap (λ xs. f.text ++ xs) g.parts ∙ sym (append_assoc f.text g.text (g.fault ++ t.held))

    both_made : Transcodes from to text (take (p.written + q.written) both)
    both_made =
        let last : Transcodes from to g.text (take q.written ended) = rw (f.from, f.to) at g.transcodes in
        rw (written_both new ended p.written q.written fits len) (Transcodes-then f.transcodes last)

    both_fits : p.written + q.written ≤ length old
    both_fits = omega (arith, g.fits, length-drop p.written new, f.fits, same)

    both_len : p.read ≡ (length f.text + length g.text) + (length g.fault + length t.held)
    both_len =
        omega (
          arith,
          text_len,
          ap length fed_ends.0,
          ap length g.parts,
          length-append g.text (g.fault ++ t.held),
          length-append g.fault t.held,
        )

    text_read : (n : ℕ) → n ≡ length g.fault + length t.held → p.read - n ≡ length text
    text_read n e = omega (arith, both_len, length-append f.text g.text)

    left_room : length (drop p.written new) - q.written ≡ length old - (p.written + q.written)
    left_room = omega (arith, length-drop p.written new, same)

    finished_by : (o : Outcome) → EndsFinish from to o g.fault t.held (length old - (p.written + q.written))
        → RecodesStrictly from to bytes old both (record { read = p.read - unrecoded o (length t.held); written = p.written + q.written; outcome = fault_unread o })
    finished_by AllRead ends =
        RecodesStrictly-of from to bytes old both text (g.fault ++ t.held) (p.read - length t.held) (p.written + q.written) AllRead both_parts both_made both_fits
        (text_read (length t.held) (omega (arith, ap length ends.0))) (rw (ends.0, ends.1) refl)
    finished_by Full ends =
        RecodesStrictly-of from to bytes old both text (g.fault ++ t.held) (p.read - length t.held) (p.written + q.written) Full both_parts both_made both_fits
        (text_read (length t.held) (omega (arith, ap length ends.0))) (rw ends.0 ends.1)
    finished_by (Faulty x) ends =
        let tells = ends.1 in
        RecodesStrictly-of from to bytes old both text (g.fault ++ t.held) (p.read - x.back) (p.written + q.written) (fault_unread (Faulty x)) both_parts both_made both_fits
        (text_read x.back tells.back) (rw tells.len ends.0, refl)

    pub finished_whole : RecodesStrictly from to bytes old both (record { read = p.read - unrecoded q.outcome (length t.held); written = p.written + q.written; outcome = fault_unread q.outcome })
    finished_whole = finished_by q.outcome (rw (f.from, f.to, left_room) at g.ends)

-- The result for callers.

pub all_is_read : (from to : Form) (bytes old new : List ℕ) (p : StrictProgress) → RecodesStrictly from to bytes old new p → p.outcome ≡ AllRead → p.read ≡ length bytes
all_is_read from to bytes old new p f e =
    let ends = subst (λ o. EndsWhole from to o (drop p.read bytes) (length old - p.written)) e f.ends in
    let within = f.within in
    omega (arith, ap length ends, length-drop p.read bytes)

pub room_is_short : (from to : Form) (bytes old new : List ℕ) (p : StrictProgress) → RecodesStrictly from to bytes old new p → p.outcome ≡ Full → length old < p.written + 4
room_is_short from to bytes old new p f e =
    let long = subst (λ o. EndsWhole from to o (drop p.read bytes) (length old - p.written)) e f.ends in
    omega (arith, few_written to long.scalar, long.longer, f.fits)

pub room_is_enough : (from to : Form) (bytes old new : List ℕ) (p : StrictProgress) → RecodesStrictly from to bytes old new p → length new ≡ length old → IsAmpleForText (length old) (length bytes)
    → p.outcome ≡ Full → ⊥
room_is_enough from to bytes old new p f same enough e =
    enough_room new f.transcodes (omega (arith, f.fits)) (omega (arith, enough, f.within, length-take p.read bytes, length-drop p.read bytes)) (subst (λ o. EndsWhole from to o (drop p.read bytes) (length old - p.written)) e f.ends)
