-- Positions: what a call that passes bytes leaves, and the way back to the front of the bytes that are carried over.
use Rattle.std.proofs.Common.{◌≡◌, ℕ, zero, suc, ◌+◌, ◌-◌, ◌*◌, ◌%◌, ◌^◌, ◌<◌, ◌≤◌, List, [], ◌∷◌, ◌++◌, length, take, drop, arith, refl, ap, sym, ◌∙◌, append_assoc, length-append, length-drop}
use Rattle.std.proofs.Math.Seq.{drop-append-add}
use Rattle.std.proofs.lemmas.List.{append-nil, drop-append-le, length-map, length-take-le, take_all, take-append-drop}
use Rattle.recoding.specs.declared.form.Form.{Form}
use Rattle.recoding.specs.declared.form.Form.TheVariants.{Utf8, Utf16Le, Utf16Be}
use Rattle.text_runs.specs.ShardRuns.{line_feed_count}
use Rattle.text_stream.specs.FormPieces.{placed}
use Rattle.text_stream.specs.Located.{first_told, located, located_by, wrapped}
use Rattle.text_stream.specs.UndecidedEnds.{IsUndecidedEnd}
use Rattle.text_stream.proofs.LocatedLemmas.{located_none}
use Rattle.text_positions.specs.Positions.{IsAfter, IsBefore, IsLastLine, PassesAgain, PassesLine, Place, StepsBack, element_len, elements, line_feeds, piece_count}
use Rattle.text_positions.proofs.EvenFronts.{whole_front}
use Rattle.text_positions.proofs.LineLemmas.{begin_whole, begin_within, bytes_of_elements, elements_append, elements_at, feeds_parts, line_after, lines_append, longer, no_more, place_order, place_sum, shorter, some_before, whole_sum}

-- The number of pieces does not depend on the offset of the first.

count_by_any : (n : ℕ) (form : Form) (o p : ℕ) (w : List ℕ) → length (located_by n form o w) ≡ length (located_by n form p w)
unfolding located_by
count_by_any zero form o p w = refl
count_by_any (suc n) form o p [] = refl
count_by_any (suc n) form o p (b ∷ w) =
    let x = first_told form (b ∷ w) in
    ap suc (count_by_any n form (wrapped (o + x.1)) (wrapped (p + x.1)) (drop x.1 (b ∷ w)))

count_any : (form : Form) (o p : ℕ) (w : List ℕ) → length (located form o w) ≡ length (located form p w)
unfolding located
count_any form o p w = count_by_any (length w) form o p w

pub count_of : (form : Form) (o : ℕ) (w : List ℕ) → length (located form o w) ≡ piece_count form w
count_of form o w = count_any form o 0 w ∙ sym (length-map (located form 0 w) placed)

pub none_counted : (form : Form) → piece_count form [] ≡ 0
none_counted form = sym (count_of form 0 []) ∙ ap length (located_none form 0)

-- the pieces before an undecided end, however the bytes go on
decided_count : (form : Form) (bytes : List ℕ) (n : ℕ) → IsUndecidedEnd form bytes n
    → (count : ℕ) × ((later : List ℕ) → piece_count form (bytes ++ later) ≡ count + piece_count form (drop (length bytes - n) bytes ++ later))
decided_count form bytes n h =
    let (given, next, locates) = h.front 0 in
    let left = drop (length bytes - n) bytes in (
      length given,
      λ later.
          sym (count_of form 0 (bytes ++ later)) ∙ ap length (locates.same later) ∙ length-append given (located form next (left ++ later)) ∙ ap (λ k. length given + k) (count_of form next (left ++ later)),
    )

-- Bytes without a line feed.

module _ (form : Form) (front held later bytes : List ℕ) (old new : Place) (b : IsBefore form front held old) (joined : bytes ≡ held ++ later) (none : line_feeds form bytes ≡ 0) (p : PassesLine form bytes old new) where
  begin_fits : b.begin ≤ length front
  begin_fits = begin_within form front b.begin b.last

  rest : drop b.begin (front ++ bytes) ≡ drop b.begin front ++ bytes
  rest = drop-append-le b.begin front bytes begin_fits

  apart_bytes : (more : List ℕ) → piece_count form (drop b.begin (front ++ bytes) ++ more) ≡ b.decided + piece_count form (bytes ++ more)
  apart_bytes more =
      let again : held ++ (later ++ more) ≡ bytes ++ more = sym (append_assoc held later more) ∙ ap (λ w. w ++ more) (sym joined) in
      ap (λ w. piece_count form (w ++ more)) rest ∙ ap (piece_count form) (append_assoc (drop b.begin front) bytes more ∙ ap (λ w. drop b.begin front ++ w) (sym again)) ∙ b.apart (later ++ more)
      ∙ ap (λ w. b.decided + piece_count form w) again

  pub in_line : IsAfter form (front ++ bytes) new
  in_line =
      let n = length new.held in
      let within = p.within in
      let (count, decides) = decided_count form bytes n p.undecided in
      let len = length-append front bytes in
      let taken = length-take-le (length bytes - n) bytes (omega arith) in
      let size = length-append front (take (length bytes - n) bytes) in
      let old_line = b.line in
      let old_column = b.column in
      let old_byte_column = b.byte_column in
      let lines = lines_append form front bytes b.whole in
      let pieces : piece_count form (drop b.begin (front ++ bytes)) ≡ b.decided + piece_count form bytes
      = ap (piece_count form) (sym (append-nil (drop b.begin (front ++ bytes)))) ∙ apart_bytes [] ∙ ap (λ w. b.decided + piece_count form w) (append-nil bytes) in
      let fits = begin_fits in
      record {
        begin = b.begin;
        last = record { number = b.last.number; place = b.last.place; begins = rw (elements_append form front bytes b.whole) (longer (elements form front) (elements form bytes) b.last.number b.last.begins none) };
        line = p.line ∙ old_line ∙ ap (λ k. wrapped (1 + k)) (omega arith);
        column = p.column ∙ rw (pieces, old_column) (omega arith);
        byte_column = p.byte_column ∙ rw (old_byte_column, len) (omega arith);
        carries = record {
          front = front ++ take (length bytes - n) bytes;
          split = ap (λ w. front ++ w) (sym (take-append-drop (length bytes - n) bytes)) ∙ sym (append_assoc front (take (length bytes - n) bytes) (drop (length bytes - n) bytes))
              ∙ ap (λ w. (front ++ take (length bytes - n) bytes) ++ w) (sym p.held);
          few = p.undecided.few;
          whole = rw (size, taken) (whole_sum form (length front) (length bytes - n) b.whole (whole_front form bytes n p.undecided));
          begins = omega arith;
          decided = b.decided + count;
          apart = λ more. let here = apart_bytes more in let there = decides more in let end = ap (λ w. piece_count form (w ++ more)) p.held in omega arith;
        };
      }

-- Bytes with a line feed: after the last one a line begins.

pub at_line : (form : Form) (front held bytes : List ℕ) (old new : Place) (begin : ℕ) → IsBefore form front held old → IsLastLine form bytes begin → 0 < line_feeds form bytes
    → new.line ≡ wrapped (old.line + line_feeds form bytes) → new.column ≡ 1 → new.byte_column ≡ 1 → IsBefore form (front ++ take begin bytes) [] new
at_line form front held bytes old new begin b h some line column byte_column =
    let fits = begin_within form bytes begin h in
    let at = elements_at form bytes begin h.number fits h.place in
    let n = h.number in
    let first = some_before (elements form bytes) n h.begins some in
    let len = length-take-le begin bytes fits in
    let size = length-append front (take begin bytes) in
    let whole = b.whole in
    let old_line = b.line in
    let none = h.begins.last in
    let parts = feeds_parts n (elements form bytes) in
    let taken = ap line_feed_count at.0 in
    let lines = lines_append form front (take begin bytes) whole in
    let empty : drop (length front + begin) (front ++ take begin bytes) ≡ [] = nothing (drop (length front + begin) (front ++ take begin bytes)) (omega (arith, length-drop (length front + begin) (front ++ take begin bytes))) in
    record {
      begin = length front + begin;
      last = record {
        number = length (elements form front) + n;
        place = place_sum form (length front) begin (length (elements form front)) n (bytes_of_elements form front whole) h.place;
        begins = rw (elements_append form front (take begin bytes) whole, at.0) (line_after (elements form front) (elements form bytes) n h.begins first);
      };
      line = line ∙ rw (old_line, lines) (omega arith);
      whole = rw (size, len) (whole_sum form (length front) begin whole (begin_whole form bytes begin h));
      decided = 0;
      column = column;
      byte_column = byte_column ∙ rw (size, len) (omega arith);
      apart = λ more. let same = ap (λ w. piece_count form (w ++ more)) empty in omega arith;
    }
  where
    nothing : (w : List ℕ) → length w ≤ 0 → w ≡ []
    nothing [] le = refl
    nothing (x ∷ w) le = absurd (omega arith)

-- Back to the front of the carried-over bytes.

pub step_back : (form : Form) (w : List ℕ) (old new : Place) → IsAfter form w old → new.line ≡ old.line
    → new.column ≡ wrapped (old.column + (2 ^ 64 - piece_count form old.held)) → new.byte_column ≡ wrapped (old.byte_column + (2 ^ 64 - length old.held))
    → piece_count form old.held < 2 ^ 64 → (front : List ℕ) × (w ≡ front ++ old.held) × IsBefore form front old.held new
step_back form w old new h line column byte_column small =
    let c = h.carries in
    let front = c.front in
    let held = old.held in
    let split = c.split in
    let begins = c.begins in
    let few = c.few in
    let whole = c.whole in
    let len = ap length split ∙ length-append front held in
    let both : elements form w ≡ elements form front ++ elements form held = ap (elements form) split ∙ elements_append form front held whole in
    let number = place_order form h.begin (length front) h.last.number (length (elements form front)) h.last.place (bytes_of_elements form front whole) begins in
    let last = shorter (elements form front) (elements form held) h.last.number (rw both at h.last.begins) number in
    let rest : drop h.begin w ≡ drop h.begin front ++ held = ap (drop h.begin) split ∙ drop-append-le h.begin front held begins in
    let apart : (later : List ℕ) → piece_count form (drop h.begin front ++ (held ++ later)) ≡ c.decided + piece_count form (held ++ later)
    = λ later. ap (piece_count form) (sym (append_assoc (drop h.begin front) held later) ∙ ap (λ v. v ++ later) (sym rest)) ∙ c.apart later in
    let pieces : piece_count form (drop h.begin w) ≡ c.decided + piece_count form held
    = ap (piece_count form) (sym (append-nil (drop h.begin w))) ∙ c.apart [] ∙ ap (λ v. c.decided + piece_count form v) (append-nil held) in
    let lines = lines_append form front held whole in
    let all = ap (line_feeds form) split in
    let at_end : line_feeds form held ≡ 0 = no_more (elements form front) (elements form held) h.last.number (rw both at h.last.begins) number in
    let old_line = h.line in
    let old_column = h.column in
    let old_byte_column = h.byte_column in (
      front,
      split,
      record {
        begin = h.begin;
        last = record { number = h.last.number; place = h.last.place; begins = last };
        line = line ∙ old_line ∙ ap (λ k. wrapped (1 + k)) (omega arith);
        whole = whole;
        decided = c.decided;
        column = column ∙ rw (old_column, pieces) (omega arith);
        byte_column = byte_column ∙ rw (old_byte_column, len) (omega arith);
        apart = apart;
      },
    )

-- A position at which nothing is carried over.

pub nothing_held : (form : Form) (w : List ℕ) (p : Place) → IsAfter form w p → p.held ≡ [] → IsBefore form w [] p
nothing_held form w p h none =
    let c = h.carries in
    let whole : w ≡ c.front = c.split ∙ ap (λ v. c.front ++ v) none ∙ append-nil c.front in
    let apart : (later : List ℕ) → piece_count form (drop h.begin w ++ later) ≡ c.decided + piece_count form later
    = λ later. c.apart later ∙ ap (λ v. c.decided + piece_count form (v ++ later)) none in
    let pieces : piece_count form (drop h.begin w) ≡ c.decided + piece_count form []
    = ap (piece_count form) (sym (append-nil (drop h.begin w))) ∙ apart [] in
    let zero = none_counted form in
    record {
      begin = h.begin;
      last = h.last;
      line = h.line;
      whole = rw whole c.whole;
      decided = c.decided;
      column = h.column ∙ ap (λ k. wrapped (1 + k)) (omega arith);
      byte_column = h.byte_column;
      apart = apart;
    }

pub at_front : (form : Form) (p : Place) → p.line ≡ 1 → p.column ≡ 1 → p.byte_column ≡ 1 → p.held ≡ [] → IsAfter form [] p
at_front form p line column byte_column held = record {
  begin = 0;
  last = record { number = 0; place = zero_place form; begins = record { within = omega arith; after = λ some. absurd (omega arith); last = no_lines form } };
  line = line ∙ sym (ap (λ k. wrapped (1 + k)) (no_lines form));
  column = column ∙ sym (ap (λ k. wrapped (1 + k)) (none_counted form));
  byte_column = byte_column;
  carries = record {
    front = [];
    split = sym held;
    few = omega (arith, ap length held);
    whole = none_whole form;
    begins = omega arith;
    decided = 0;
    apart = λ later. let same = ap (λ w. piece_count form (w ++ later)) held in omega arith;
  };
}
  where
    no_lines : (form : Form) → line_feeds form [] ≡ 0
    no_lines Utf8 = refl
    no_lines Utf16Le = refl
    no_lines Utf16Be = refl

    zero_place : (form : Form) → 0 ≡ element_len form * 0
    zero_place Utf8 = refl
    zero_place Utf16Le = refl
    zero_place Utf16Be = refl

    none_whole : (form : Form) → 0 % element_len form ≡ 0
    none_whole Utf8 = refl
    none_whole Utf16Le = refl
    none_whole Utf16Be = refl

-- What a call leaves that passed bytes of one line.
pub line_passed : (form : Form) (bytes : List ℕ) (old new : Place) (n : ℕ) → new.line ≡ old.line → new.column ≡ wrapped (old.column + piece_count form bytes)
    → new.byte_column ≡ wrapped (old.byte_column + length bytes) → new.held ≡ drop (length bytes - n) bytes → n ≤ length bytes → IsUndecidedEnd form bytes n → PassesLine form bytes old new
line_passed form bytes old new n line column byte_column held within undecided =
    let len : length new.held ≡ n = ap length held ∙ length-drop (length bytes - n) bytes ∙ omega arith in
    record { line = line; column = column; byte_column = byte_column; within = omega arith; held = rw len held; undecided = rw len undecided }

-- Bytes that were carried over, and what follows them.

-- what is carried over after the first three bytes of a part begins the rest of it
again : (held bytes joined left : List ℕ) → 3 < length bytes → length left ≤ 3 → joined ≡ held ++ take 3 bytes → length left ≤ length joined → left ≡ drop (length joined - length left) joined
    → drop (3 - length left) bytes ≡ left ++ drop 3 bytes
again held bytes joined left many few e within end =
    let n = length left in
    let three = length-take-le 3 bytes (omega arith) in
    let len = ap length e ∙ length-append held (take 3 bytes) in
    let place : length joined - n ≡ length held + (3 - n) = omega arith in
    let there : left ≡ drop (3 - n) (take 3 bytes) = end ∙ ap (λ k. drop k joined) place ∙ ap (drop (length held + (3 - n))) e ∙ drop-append-add held (take 3 bytes) (3 - n) in
    ap (drop (3 - n)) (sym (take-append-drop 3 bytes)) ∙ drop-append-le (3 - n) (take 3 bytes) (drop 3 bytes) (omega arith) ∙ ap (λ v. v ++ drop 3 bytes) (sym there)

-- few bytes follow those that were carried over
pub passes_few : (form : Form) (w bytes joined : List ℕ) (old at new : Place) → IsAfter form w old → StepsBack form old at → PassesAgain form joined at new → joined ≡ old.held ++ take 3 bytes
    → length bytes ≤ 3 → IsAfter form (w ++ bytes) new
passes_few form w bytes joined old at new h back pass e few =
    let (front, split, b) = back w h in
    let after = pass front old.held (take 3 bytes) b e in
    let all : front ++ joined ≡ w ++ bytes = ap (λ v. front ++ v) (e ∙ ap (λ v. old.held ++ v) (take_all 3 bytes few)) ∙ sym (append_assoc front old.held bytes) ∙ ap (λ v. v ++ bytes) (sym split) in
    rw all at after

-- many follow: the first three, and then the rest
pub passes_many : (form : Form) (w bytes joined rest : List ℕ) (old at mid mid_at new : Place) → IsAfter form w old → StepsBack form old at → PassesAgain form joined at mid → joined ≡ old.held ++ take 3 bytes
    → length mid.held ≤ length joined → mid.held ≡ drop (length joined - length mid.held) joined → 3 < length bytes → length mid.held ≤ 3
    → StepsBack form mid mid_at → rest ≡ drop (3 - length mid.held) bytes → PassesAgain form rest mid_at new → IsAfter form (w ++ bytes) new
passes_many form w bytes joined rest old at mid mid_at new h back pass e within end many few back_again is_rest pass_again =
    let (front, split, b) = back w h in
    let (front_again, split_again, b_again) = back_again (front ++ joined) (pass front old.held (take 3 bytes) b e) in
    let goes_on : rest ≡ mid.held ++ drop 3 bytes = is_rest ∙ again old.held bytes joined mid.held many few e within end in
    let after = pass_again front_again mid.held (drop 3 bytes) b_again goes_on in
    let first : front ++ joined ≡ w ++ take 3 bytes = ap (λ v. front ++ v) e ∙ sym (append_assoc front old.held (take 3 bytes)) ∙ ap (λ v. v ++ take 3 bytes) (sym split) in
    let all : front_again ++ rest ≡ w ++ bytes
    = ap (λ v. front_again ++ v) goes_on ∙ sym (append_assoc front_again mid.held (drop 3 bytes)) ∙ ap (λ v. v ++ drop 3 bytes) (sym split_again ∙ first) ∙ append_assoc w (take 3 bytes) (drop 3 bytes)
    ∙ ap (λ v. w ++ v) (take-append-drop 3 bytes) in
    rw all at after
