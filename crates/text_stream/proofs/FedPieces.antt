-- Steps of a decoder: one piece of the carried-over bytes, the rest of a part, and the end.
use Rattle.std.proofs.Common.{◌≡◌, ℕ, ◌+◌, ◌-◌, ◌<◌, ◌≤◌, List, [], ◌∷◌, ◌++◌, length, take, drop, map, arith, refl, ap, sym, subst, ◌∙◌, append_assoc, length-append, length-drop, length-take}
use Rattle.std.proofs.lemmas.List.{append-nil, drop_all, drop-drop, map-append, take_all, take-append-drop}
use Rattle.recoding.specs.declared.form.Form.{Form}
use Rattle.recoding.proofs.StrictSteps.{drop_both}
use Rattle.text_stream.specs.declared.located.LocatedPiece.{LocatedPiece}
use Rattle.text_stream.specs.declared.located.Spot.{Spot}
use Rattle.text_stream.specs.Located.{Begins, Decoding, FeedsKept, FeedsRest, FinishesKept, IsOpen, KeepsEach, Locates, PutsKept, Told, WritesPlaces, WritesPieces, at_offset, first_told, located, wrapped}
use Rattle.text_stream.proofs.LocatedLemmas.{Begins-before, Locates-none, Locates-one, Locates-then, located_first}

WritesPieces-none : {P : Type 0} (made : LocatedPiece → P) (room : List P) → WritesPieces made [] room room 0
WritesPieces-none made room = record { fits = omega arith; front = refl; rest = refl; len = refl }

-- more pieces
WritesPieces-then : {P : Type 0} {made : LocatedPiece → P} {given : List LocatedPiece} {old room new : List P} {at to : ℕ} (more : List LocatedPiece) → WritesPieces made given old room at
    → WritesPlaces (map made more) room new at to → WritesPieces made (given ++ more) old new to
WritesPieces-then {made = made} {given = given} {old = old} {room = room} {at = at} {to = to} more h w =
    let len = h.len in
    let on = w.on in
    let fits = w.fits in
    let k = to - at in
    let e : to ≡ at + k = omega arith in
    record {
      fits = omega arith;
      front = w.front ∙ ap (λ ps. ps ++ map made more) h.front ∙ sym (map-append made given more);
      rest = w.rest ∙ rw e (sym (drop-drop k at room) ∙ ap (drop k) h.rest ∙ drop-drop k at old);
      len = w.len ∙ len;
    }

module _ {kept : List LocatedPiece → List LocatedPiece} (law : KeepsEach kept) where
  pub FeedsKept-none : {P : Type 0} (made : LocatedPiece → P) (d : Decoding) (part : List ℕ) (room : List P) → length d.held ≤ 3 → FeedsKept kept made d part room room 0 0 d
  FeedsKept-none made d part room few = record {
    given = [];
    locates = Locates-none d.form d.offset (d.held ++ part);
    writes = subst (λ ps. WritesPieces made ps room room 0) (sym law.none) (WritesPieces-none made room);
    within = omega arith;
    form = refl;
    few = few;
  }

  kept_more : {P : Type 0} {made : LocatedPiece → P} {old room new : List P} {at to : ℕ} (given more : List LocatedPiece) → WritesPieces made (kept given) old room at
      → WritesPlaces (map made (kept more)) room new at to → WritesPieces made (kept (given ++ more)) old new to
  kept_more {made = made} {old = old} {new = new} {to = to} given more h w =
      subst (λ ps. WritesPieces made ps old new to) (sym (law.more given more)) (WritesPieces-then (kept more) h w)

-- the piece that begins the carried-over bytes and three more begins them and all of the part
pub joined_begin : {form : Form} {joined : List ℕ} {x : Told} (held rest : List ℕ) → joined ≡ held ++ take 3 rest → Begins form joined x → Begins form (held ++ rest) x
joined_begin {form} {joined} {x} held rest e b =
    let all : (held ++ take 3 rest) ++ drop 3 rest ≡ held ++ rest = append_assoc held (take 3 rest) (drop 3 rest) ∙ ap (λ z. held ++ z) (take-append-drop 3 rest) in
    subst (λ v. Begins form v x) all (Begins-before (drop 3 rest) (subst (λ v. Begins form v x) e b))

-- a decoder whose carried-over bytes, and the offset of their first, were replaced
pub decoding_as : {d e : Decoding} {xs ys : List ℕ} {m n : ℕ} → e ≡ d → m ≡ n → xs ≡ ys
    → ◌≡◌ {A = Decoding} (record { form = e.form; held = xs; offset = m }) (record { form = d.form; held = ys; offset = n })
decoding_as e f h = rw (e, f, h) refl

-- one more piece, of the carried-over bytes and some of the part
pub FeedsKept-one : {P : Type 0} {kept : List LocatedPiece → List LocatedPiece} {made : LocatedPiece → P} {d s t : Decoding} {part joined : List ℕ} {old room new : List P} {read wrote to : ℕ} (law : KeepsEach kept) (x : Told) (more : ℕ)
    → FeedsKept kept made d part old room read wrote s → joined ≡ s.held ++ take 3 (drop read part) → Begins d.form joined x
    → WritesPlaces (map made (kept (at_offset s.offset x ∷ []))) room new wrote to
    → t ≡ record { form = s.form; held = drop x.1 s.held; offset = wrapped (s.offset + x.1) } → more ≡ x.1 - length s.held
    → FeedsKept kept made d part old new (read + more) to t
FeedsKept-one {kept = kept} {made = made} {d = d} {s = s} {t = t} {part = part} {joined = joined} {read = read} law x more h e b writes passed rest =
    let begins = joined_begin s.held (drop read part) e b in
    let within = b.within in
    let some = b.some in
    let few = h.few in
    let read_within = h.within in
    let len : length joined ≡ length s.held + length (take 3 (drop read part)) = ap length e ∙ length-append s.held (take 3 (drop read part)) in
    let three = length-take 3 (drop read part) in
    let left_len = length-drop read part in
    let left : drop x.1 (s.held ++ drop read part) ≡ drop x.1 s.held ++ drop (read + more) part
    = drop_both x.1 s.held (drop read part) ∙ ap (λ k. drop x.1 s.held ++ drop k (drop read part)) (sym rest) ∙ ap (λ z. drop x.1 s.held ++ z) (drop-drop more read part) in
    let held : t.held ≡ drop x.1 s.held = ap (λ (z : Decoding). z.held) passed in
    let offset : t.offset ≡ wrapped (s.offset + x.1) = ap (λ (z : Decoding). z.offset) passed in
    let form : t.form ≡ s.form = ap (λ (z : Decoding). z.form) passed in
    let one : Locates d.form s.offset (s.held ++ drop read part) (at_offset s.offset x ∷ []) (wrapped (s.offset + x.1)) (drop x.1 s.held ++ drop (read + more) part)
    = subst (λ z. Locates d.form s.offset (s.held ++ drop read part) (at_offset s.offset x ∷ []) (wrapped (s.offset + x.1)) z) left (Locates-one s.offset begins) in
    record {
      given = h.given ++ at_offset s.offset x ∷ [];
      locates = rw (held, offset) (Locates-then h.locates one);
      writes = kept_more law h.given (at_offset s.offset x ∷ []) h.writes writes;
      within = omega arith;
      form = form ∙ h.form;
      few = rw held (omega (arith, length-drop x.1 s.held));
    }

-- all that is left depends on what follows, and is carried over
pub all_joined : {joined : List ℕ} (held part : List ℕ) (read : ℕ) → joined ≡ held ++ take 3 (drop read part) → 0 < length held → length joined ≤ 3 → joined ≡ held ++ drop read part
all_joined {joined} held part read e some few =
    let len : length joined ≡ length held + length (take 3 (drop read part)) = ap length e ∙ length-append held (take 3 (drop read part)) in
    let three = length-take 3 (drop read part) in
    let all : take 3 (drop read part) ≡ drop read part = take_all 3 (drop read part) (omega arith) in
    e ∙ ap (λ z. held ++ z) all

pub FeedsKept-all : {P : Type 0} {kept : List LocatedPiece → List LocatedPiece} {made : LocatedPiece → P} {d s t : Decoding} {part joined : List ℕ} {old room : List P} {read wrote : ℕ}
    → FeedsKept kept made d part old room read wrote s → joined ≡ s.held ++ drop read part → length joined ≤ 3 → t ≡ record { form = s.form; held = joined; offset = s.offset }
    → FeedsKept kept made d part old room (length part) wrote t
FeedsKept-all {d = d} {s = s} {t = t} {part = part} {joined = joined} h e few is =
    let held : t.held ≡ joined = ap (λ (z : Decoding). z.held) is in
    let offset : t.offset ≡ s.offset = ap (λ (z : Decoding). z.offset) is in
    let form : t.form ≡ s.form = ap (λ (z : Decoding). z.form) is in
    let none : drop (length part) part ≡ [] = drop_all (length part) part (omega arith) in
    record {
      given = h.given;
      locates = rw (none, held, offset, append-nil joined) (subst (λ z. Locates d.form d.offset (d.held ++ part) h.given s.offset z) (sym e) h.locates);
      writes = h.writes;
      within = omega arith;
      form = form ∙ h.form;
      few = rw held few;
    }

-- The rest of a part.

pub FeedsRest-full : {P : Type 0} {kept : List LocatedPiece → List LocatedPiece} {made : LocatedPiece → P} {d t : Decoding} {part : List ℕ} {old new : List P} {from at : Spot} → from.offset ≡ d.offset
    → PutsKept kept made d.form part old new from at → t ≡ record { form = d.form; held = []; offset = at.offset } → FeedsRest kept made d part old new from at.read at.written t
FeedsRest-full {t = t} {at = at} start h is =
    let held : t.held ≡ [] = ap (λ (z : Decoding). z.held) is in
    let offset : t.offset ≡ at.offset = ap (λ (z : Decoding). z.offset) is in
    record {
      given = h.given;
      locates = rw (held, offset, ← start) h.locates;
      writes = h.writes;
      within = h.within;
      form = ap (λ (z : Decoding). z.form) is;
      few = rw held (omega arith);
    }

pub FeedsRest-held : {P : Type 0} {kept : List LocatedPiece → List LocatedPiece} {made : LocatedPiece → P} {d t : Decoding} {part : List ℕ} {old new : List P} {from at : Spot} → from.offset ≡ d.offset
    → PutsKept kept made d.form part old new from at → length part ≤ at.read + 3 → t ≡ record { form = d.form; held = drop at.read part; offset = at.offset }
    → FeedsRest kept made d part old new from (length part) at.written t
FeedsRest-held {t = t} {part = part} {at = at} start h few is =
    let held : t.held ≡ drop at.read part = ap (λ (z : Decoding). z.held) is in
    let offset : t.offset ≡ at.offset = ap (λ (z : Decoding). z.offset) is in
    let end : drop (length part) part ≡ [] = drop_all (length part) part (omega arith) in
    let left = length-drop at.read part in
    record {
      given = h.given;
      locates = rw (end, held, offset, append-nil (drop at.read part), ← start) h.locates;
      writes = h.writes;
      within = omega arith;
      form = ap (λ (z : Decoding). z.form) is;
      few = rw held (omega arith);
    }

pub FeedsKept-rest : {P : Type 0} {kept : List LocatedPiece → List LocatedPiece} {made : LocatedPiece → P} {d s e : Decoding} {part : List ℕ} {old room new : List P} {first then read wrote : ℕ} {from : Spot} (law : KeepsEach kept)
    → FeedsKept kept made d part old room first then s → s.held ≡ [] → from.read ≡ first → from.written ≡ then → FeedsRest kept made s part room new from read wrote e
    → FeedsKept kept made d part old new read wrote e
FeedsKept-rest {kept = kept} {made = made} {d = d} {s = s} {e = e} {part = part} {room = room} {new = new} {first = first} {read = read} {wrote = wrote} law h none at_read at_written b =
    let all : s.held ++ drop first part ≡ drop first part = ap (λ z. z ++ drop first part) none in
    let start : Locates d.form d.offset (d.held ++ part) h.given s.offset (drop first part) = subst (λ z. Locates d.form d.offset (d.held ++ part) h.given s.offset z) all h.locates in
    let more : Locates d.form s.offset (drop first part) b.given e.offset (e.held ++ drop read part)
    = subst (λ f. Locates f s.offset (drop first part) b.given e.offset (e.held ++ drop read part)) h.form
    (subst (λ k. Locates s.form s.offset (drop k part) b.given e.offset (e.held ++ drop read part)) at_read b.locates) in
    record {
      given = h.given ++ b.given;
      locates = Locates-then start more;
      writes = kept_more law h.given b.given h.writes (subst (λ n. WritesPlaces (map made (kept b.given)) room new n wrote) at_written b.writes);
      within = b.within;
      form = b.form ∙ h.form;
      few = b.few;
    }

pub FeedsKept-front : {P : Type 0} {kept : List LocatedPiece → List LocatedPiece} {made : LocatedPiece → P} {d e : Decoding} {part : List ℕ} {old new : List P} {read wrote : ℕ} {from : Spot} (law : KeepsEach kept)
    → d.held ≡ [] → from.read ≡ 0 → from.written ≡ 0 → FeedsRest kept made d part old new from read wrote e → FeedsKept kept made d part old new read wrote e
FeedsKept-front {made = made} {d = d} {part = part} {old = old} law none at_read at_written b =
    FeedsKept-rest law (FeedsKept-none law made d part old (rw none (omega arith))) none at_read at_written b

-- The end.

pub FinishesKept-none : {P : Type 0} {kept : List LocatedPiece → List LocatedPiece} (law : KeepsEach kept) (made : LocatedPiece → P) (d : Decoding) (room : List P) → FinishesKept kept made d room room 0 d
FinishesKept-none law made d room = record {
  given = [];
  locates = refl;
  writes = subst (λ ps. WritesPieces made ps room room 0) (sym law.none) (WritesPieces-none made room);
  form = refl;
  few = omega arith;
  on = omega arith;
}

pub FinishesKept-one : {P : Type 0} {kept : List LocatedPiece → List LocatedPiece} {made : LocatedPiece → P} {d s t : Decoding} {old room new : List P} {wrote to : ℕ} (law : KeepsEach kept) (x : Told) → FinishesKept kept made d old room wrote s
    → x ≡ first_told d.form s.held → 0 < length s.held → x.1 ≤ length s.held → WritesPlaces (map made (kept (at_offset s.offset x ∷ []))) room new wrote to
    → t ≡ record { form = s.form; held = drop x.1 s.held; offset = wrapped (s.offset + x.1) } → FinishesKept kept made d old new to t
FinishesKept-one {d = d} {s = s} {t = t} law x h told some within writes passed =
    let held : t.held ≡ drop x.1 s.held = ap (λ (z : Decoding). z.held) passed in
    let offset : t.offset ≡ wrapped (s.offset + x.1) = ap (λ (z : Decoding). z.offset) passed in
    let form : t.form ≡ s.form = ap (λ (z : Decoding). z.form) passed in
    let same : first_told s.form s.held ≡ x = ap (λ f. first_told f s.held) h.form ∙ sym told in
    let first : located s.form s.offset s.held ≡ at_offset s.offset x ∷ located s.form (wrapped (s.offset + x.1)) (drop x.1 s.held)
    = located_first s.form s.offset s.held some ∙ ap (λ (y : Told). at_offset s.offset y ∷ located s.form (wrapped (s.offset + y.1)) (drop y.1 s.held)) same in
    let few = h.few in
    let on = h.on in
    let left = length-drop x.1 s.held in
    record {
      given = h.given ++ at_offset s.offset x ∷ [];
      locates = h.locates ∙ ap (λ ps. h.given ++ ps) first ∙ sym (append_assoc h.given (at_offset s.offset x ∷ []) (located s.form (wrapped (s.offset + x.1)) (drop x.1 s.held)))
          ∙ rw (form, offset, held) refl;
      writes = kept_more law h.given (at_offset s.offset x ∷ []) h.writes writes;
      form = form ∙ h.form;
      few = rw held (omega (arith, left));
      on = rw (offset, held) (omega (arith, on, left));
    }

pub IsOpen-as : {form : Form} {w : List ℕ} (t : Decoding) → t.form ≡ form → t.held ≡ w → IsOpen form w → IsOpen t.form t.held
IsOpen-as {form} {w} t f e h = rw (f, e) h
