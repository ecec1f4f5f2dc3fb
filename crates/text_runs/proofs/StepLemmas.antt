-- One step after another: the number of pieces, and the offset of a piece.
use Rattle.std.proofs.Common.{◌≡◌, ℕ, ◌+◌, ◌-◌, ◌<◌, ◌≤◌, List, [], ◌++◌, length, get_or, take, drop, arith, refl, ap, sym, ◌∙◌, ⊎_elim, subst, Some, None, Option, Result, Ok, Err, length-drop, length-take}
use Rattle.std.proofs.lemmas.Bool.{cases_lt}
use Rattle.std.proofs.lemmas.List.{drop-take, get_or-take, length-take-le, take-append-drop, take-take, take_all}
use Rattle.std.proofs.lemmas.List.Sums.{count_by-le-length}
use Rattle.std.proofs.lemmas.Option.{slice_get-get_or, slice_get_past}
use Rattle.std.proofs.lemmas.Str.{IsUtf8-nil}
use Rattle.std.specs.Prelude.{MatchOption, cond, is_err, option_map, slice_get, slice_range, unwrap_or}
use Rattle.std.specs.Str.{IsUtf8}
use Rattle.utf_base.specs.Code.{utf8}
use Rattle.utf_base.specs.Kinds.{fault_kind}
use Rattle.utf_base.specs.Piece.{Covered, Inside}
use Rattle.utf_base.specs.declared.errors.Utf8ErrorKind.{Utf8ErrorKind}
use Rattle.utf_base.proofs.FrontLemmas.{no_code_where_fault}
use Rattle.utf_base.proofs.StdText.{utf8_is_text}
use Rattle.utf_base.proofs.Utf8Code.{utf8_is_code}
use Rattle.encode_unicode.specs.Pieces.{pieces}
use Rattle.encode_unicode.specs.Window.{IsFrontPiece, Item}
use Rattle.recoding.proofs.GoodCodes.{good_text}
use Rattle.utf_lanes.specs.AsciiTexts.{AreAscii}
use Rattle.utf_lanes.specs.Starts.{IsStartOf, start_count}
use Rattle.utf_lanes.proofs.AsciiTexts.{ascii_text}
use Rattle.utf_lanes.proofs.StartLemmas.{ascii_starts}
use Rattle.text_runs.specs.ForwardRuns.{faulty_item_count, is_fault}
use Rattle.text_runs.specs.PieceSteps.{IsCountedTo, IsPieceStep}
use Rattle.text_runs.specs.declared.runs.steps.Step.{Step}
use Rattle.text_runs.proofs.JoinedCounts.{faults_joined, pieces_few}
use Rattle.text_runs.proofs.FaultPlaces.{no_faults}
use Rattle.text_runs.proofs.ForwardRuns.{pieces_are_the_run}
use Rattle.text_runs.proofs.JoinedPieces.{front_in_whole, inside_front, inside_following}
use Rattle.text_runs.proofs.PieceRuns.{at_front}
use Rattle.text_runs.proofs.SplitNumbers.{count_is, place_in_front, place_in_rest}
use Rattle.text_runs.proofs.TextCounts.{front_piece, one_of_code, some_piece, text_counted, text_numbered}
use Rattle.text_runs.proofs.TextRuns.{no_fault_where_text}

module _ (xs : List ℕ) (b : ℕ) (le : b ≤ length xs) (out : Inside utf8 xs b → ⊥) where
  abbrev whole : List Item
  whole = pieces xs

  abbrev front : List Item
  front = pieces (take b xs)

  abbrev rest : List Item
  rest = pieces (drop b xs)

  pub parts_counted : length whole ≡ length front + length rest
  parts_counted = count_is utf8 utf8_is_code fault_kind xs b le out whole front rest (pieces_are_the_run xs) (pieces_are_the_run (take b xs)) (pieces_are_the_run (drop b xs))

  pub place_front : (n : ℕ) (d : Item) → n < length front → (get_or whole n d).0 ≡ (get_or front n d).0
  place_front = place_in_front utf8 utf8_is_code fault_kind xs b le out whole front rest (pieces_are_the_run xs) (pieces_are_the_run (take b xs)) (pieces_are_the_run (drop b xs))

  pub place_rest : (n : ℕ) (d : Item) → length front ≤ n → n < length whole → (get_or whole n d).0 ≡ b + (get_or rest (n - length front) d).0
  place_rest = place_in_rest utf8 utf8_is_code fault_kind xs b le out whole front rest (pieces_are_the_run xs) (pieces_are_the_run (take b xs)) (pieces_are_the_run (drop b xs))

pub counted_none : (xs : List ℕ) → IsCountedTo xs 0 0
counted_none xs = record { within = omega arith; outside = λ i. let begins = i.begins in omega arith; counted = (let few = pieces_few (take 0 xs) in omega arith) }

-- Text has no faults.
text_faults : (xs : List ℕ) → IsUtf8 xs → faulty_item_count (pieces xs) ≡ 0
text_faults xs text = no_fault_where_text xs (pieces xs) (pieces_are_the_run xs) text

-- One more step.
module _ (xs : List ℕ) (place count : ℕ) (h : IsCountedTo xs place count) (n m : ℕ) (s : IsCountedTo (drop place xs) n m) where
  step_within : place + n ≤ length xs
  step_within = let within = s.within in let before = h.within in omega (arith, length-drop place xs)

  step_outside : Inside utf8 xs (place + n) → ⊥
  step_outside i =
      let parts = take-append-drop place xs in
      let len : length (take place xs) ≡ place = length-take-le place xs h.within in
      s.outside (inside_following utf8 (take place xs) (drop place xs) (λ j. h.outside (rw (parts, len) at j)) n (rw (parts, len) i))

  -- the front that is n bytes longer, in its two parts
  step_front : take place (take (place + n) xs) ≡ take place xs
  step_front = take-take place (place + n) xs (omega arith)

  step_rest : drop place (take (place + n) xs) ≡ take n (drop place xs)
  step_rest = drop-take place n xs

  step_seam : Inside utf8 (take (place + n) xs) place → ⊥
  step_seam i = h.outside (subst (λ ys. Inside utf8 ys place) (take-append-drop (place + n) xs) (inside_front utf8 (take (place + n) xs) (drop (place + n) xs) place i))

  pub counted_on : IsCountedTo xs (place + n) (count + m)
  counted_on =
      let w = take (place + n) xs in
      let len : length w ≡ place + n = length-take-le (place + n) xs step_within in
      let both : length (pieces w) ≡ length (pieces (take place w)) + length (pieces (drop place w)) = parts_counted w place (omega arith) step_seam in
      let first = ap (λ ys. length (pieces ys)) step_front in
      let second = ap (λ ys. length (pieces ys)) step_rest in
      record { within = step_within; outside = step_outside; counted = omega (arith, h.counted, s.counted) }

  -- the faults of the longer front are those of its two parts
  pub faults_on : (faults more : ℕ) → faults ≡ faulty_item_count (pieces (take place xs)) → more ≡ faulty_item_count (pieces (take n (drop place xs)))
      → faults + more ≡ faulty_item_count (pieces (take (place + n) xs))
  faults_on faults more is are =
      let w = take (place + n) xs in
      let long : length w ≡ place + n = length-take-le (place + n) xs step_within in
      let parts : take place w ++ drop place w ≡ w = take-append-drop place w in
      let len : length (take place w) ≡ place = length-take-le place w (omega arith) in
      let joined : faulty_item_count (pieces (take place w ++ drop place w)) ≡ faulty_item_count (pieces (take place w)) + faulty_item_count (pieces (drop place w))
      = faults_joined (take place w) (drop place w) (λ i. step_seam (rw (parts, len) at i)) in
      let whole = ap (λ ys. faulty_item_count (pieces ys)) parts in
      let first = ap (λ ys. faulty_item_count (pieces ys)) step_front in
      let second = ap (λ ys. faulty_item_count (pieces ys)) step_rest in
      omega arith

  -- a piece number that lies in the step
  pub found_in_step : (number left offset : ℕ) → number ≡ count + left → left < m → Some offset ≡ option_map (λ (x : Item). x.0) (slice_get (pieces (take n (drop place xs))) left)
      → Some (place + offset) ≡ option_map (λ (x : Item). x.0) (slice_get (pieces xs) number)
  found_in_step number left offset is lt told =
      let d : Item = (0, Ok 0, 0) in
      let here : left < length (pieces (take n (drop place xs))) = omega (arith, s.counted) in
      let offset_is : offset ≡ (get_or (pieces (take n (drop place xs))) left d).0
      = some_is offset _ (told ∙ ap (option_map (λ (x : Item). x.0)) (slice_get-get_or (pieces (take n (drop place xs))) left d here)) in
      let in_rest = place_front (drop place xs) n s.within s.outside left d here in
      let of_rest = parts_counted (drop place xs) n s.within s.outside in
      let of_whole = parts_counted xs place h.within h.outside in
      let within : number < length (pieces xs) = omega (arith, h.counted) in
      let at : number - length (pieces (take place xs)) ≡ left = omega (arith, h.counted) in
      let place_is = place_rest xs place h.within h.outside number d (omega (arith, h.counted)) within in
      let same = ap (λ k. (get_or (pieces (drop place xs)) k d).0) at in
      let sum : place + offset ≡ (get_or (pieces xs) number d).0 = omega arith in
      ap Some sum ∙ sym (ap (option_map (λ (x : Item). x.0)) (slice_get-get_or (pieces xs) number d within))
    where
      some_is : (i j : ℕ) → Some i ≡ Some j → i ≡ j
      some_is i j e = cc

-- a piece number that does not exist
pub none_found : (xs : List ℕ) (place count number : ℕ) → IsCountedTo xs place count → length xs ≤ place → count ≤ number → None ≡ option_map (λ (x : Item). x.0) (slice_get (pieces xs) number)
none_found xs place count number h all le =
    let whole : take place xs ≡ xs = take_all place xs all in
    let len = ap (λ ys. length (pieces ys)) whole in
    sym (ap (option_map (λ (x : Item). x.0)) (slice_get_past (pieces xs) number (omega (arith, h.counted))))

-- One piece of any kind, as a step.
pub one_piece : (xs : List ℕ) (n : ℕ) (r : Result ℕ Utf8ErrorKind) → 0 < length xs → IsFrontPiece xs r n → IsPieceStep xs (record { len = n; pieces = 1; faults = cond (is_err r) 1 0; text = 0 })
one_piece xs n r some piece =
    let whole : slice_range xs 0 (length xs) ≡ xs = take_all _ xs (omega arith) in
    let at = at_front utf8 fault_kind utf8_is_code no_code_where_fault xs 0 n r some (λ i. let begins = i.begins in omega arith) (rw whole piece) in
    let zero : 0 + n ≡ n = omega arith in
    let fits = at.within in
    let within : n ≤ length xs = omega arith in
    record {
      all = record { within = within; outside = λ i. at.outside (rw zero i); counted = sym (counted_one xs n r at.some within piece) };
      faults = sym (faults_one xs n r at.some within piece);
      front = omega arith;
      text = IsUtf8-nil;
      most = omega arith;
    }
  where
    code_is : (xs : List ℕ) (n s : ℕ) → IsFrontPiece xs (Ok s) n → take n xs ≡ utf8 s
    code_is xs n s (h, e) =
        let width : 0 + length (utf8 s) - 0 ≡ n = omega arith in
        ap (λ k. take k xs) (sym width) ∙ h.equal

    counted_one : (xs : List ℕ) (n : ℕ) (r : Result ℕ Utf8ErrorKind) → 0 < n → n ≤ length xs → IsFrontPiece xs r n → length (pieces (take n xs)) ≡ 1
    counted_one xs n (Ok s) some within piece =
        let text : IsUtf8 (utf8 s) = utf8_is_text s piece.0.scalar in
        rw (code_is xs n s piece) (text_counted (utf8 s) text ∙ one_of_code s piece.0.scalar)
    counted_one xs n (Err k) some within (h, e) =
        let one : length (take n xs) ≡ 1 = length-take-le n xs within ∙ e in
        let few = pieces_few (take n xs) in
        let more = some_piece (take n xs) (omega arith) in
        omega arith

    faults_one : (xs : List ℕ) (n : ℕ) (r : Result ℕ Utf8ErrorKind) → 0 < n → n ≤ length xs → IsFrontPiece xs r n → faulty_item_count (pieces (take n xs)) ≡ cond (is_err r) 1 0
    faults_one xs n (Ok s) some within piece = rw (code_is xs n s piece) (text_faults (utf8 s) (utf8_is_text s piece.0.scalar))
    faults_one xs n (Err k) some within piece =
        let front = take n xs in
        let one = counted_one xs n (Err k) some within piece in
        let most : faulty_item_count (pieces front) ≤ length (pieces front) = count_by-le-length is_fault (pieces front) in
        let long : length front ≡ n = length-take-le n xs within in
        let alone : Covered utf8 front 0 → ⊥
        = λ c.
        let begins = c.begins in
        let from : c.from ≡ 0 = omega arith in
        no_code_where_fault xs k c.char piece.0 (rw (take-append-drop n xs, from) at (front_in_whole utf8 front (drop n xs) c.from c.char c.stands)) in
        ⊎_elim
        (λ (some : 0 < faulty_item_count (pieces front)). omega arith)
        (λ (none : faulty_item_count (pieces front) ≤ 0). absurd (no_faults front (omega arith) 0 (omega arith, refl, alone)))
        (cases_lt 0 (faulty_item_count (pieces front)))

-- Text, and text followed by a piece, as steps.
counted_text : (xs : List ℕ) (n m : ℕ) → n ≤ length xs → IsUtf8 (take n xs) → m ≡ start_count (take n xs) → IsCountedTo xs n m
counted_text xs n m within text count = record { within = within; outside = (good_text xs n within text).outside; counted = count ∙ sym (text_counted (take n xs) text) }

pub text_step : (xs : List ℕ) (n m : ℕ) → n ≤ length xs → IsUtf8 (take n xs) → m ≡ start_count (take n xs) → IsPieceStep xs (record { len = n; pieces = m; faults = 0; text = n })
text_step xs n m within text count =
    let all = counted_text xs n m within text count in
    record { all = all; faults = sym (text_faults (take n xs) text); front = omega arith; text = text; most = omega (arith, all.counted) }

pub ascii_step : (xs : List ℕ) (most n : ℕ) → n ≤ length (take most xs) → AreAscii (take most xs) 0 n → IsPieceStep xs (record { len = n; pieces = n; faults = 0; text = n })
ascii_step xs most n within low =
    let part = length-take most xs in
    let long : length (take n xs) ≡ n = length-take-le n xs (omega arith) in
    let ascii : AreAscii (take n xs) 0 (length (take n xs)) = λ k ge lt.
    let same : get_or (take n xs) k 0 ≡ get_or (take most xs) k 0 = get_or-take n xs k 0 (omega arith) ∙ sym (get_or-take most xs k 0 (omega arith)) in
    rw same (low k ge (omega arith)) in
    text_step xs n n (omega arith) (ascii_text (take n xs) ascii) (sym long ∙ sym (ascii_starts (take n xs) ascii))

pub text_and_piece : (xs : List ℕ) (n m : ℕ) (piece : Step) → n ≤ length xs → IsUtf8 (take n xs) → m ≡ start_count (take n xs) → piece.pieces ≡ 1 → IsPieceStep (drop n xs) piece
    → IsPieceStep xs (record { len = n + piece.len; pieces = m + 1; faults = piece.faults; text = n })
text_and_piece xs n m piece within text count one step =
    let all = counted_text xs n m within text count in
    let faults = faults_on xs n m all piece.len piece.pieces step.all 0 piece.faults (sym (text_faults (take n xs) text)) step.faults in
    record {
      all = counted_on xs n m all piece.len 1 (subst (IsCountedTo (drop n xs) piece.len) one step.all);
      faults = omega (arith, faults);
      front = omega arith;
      text = text;
      most = omega (arith, all.counted);
    }

pub counted_few : (xs : List ℕ) (place count : ℕ) → IsCountedTo xs place count → count ≤ length xs
counted_few xs place count h =
    let few = pieces_few (take place xs) in
    let within = h.within in
    omega (arith, h.counted, length-take-le place xs within)

-- none of the pieces before the first byte is a fault, and there are no more faults than bytes
pub faults_none : (xs : List ℕ) → 0 ≡ faulty_item_count (pieces (take 0 xs))
faults_none xs = sym (text_faults [] IsUtf8-nil)

pub faults_few : (xs : List ℕ) (place count faults : ℕ) → IsCountedTo xs place count → faults ≡ faulty_item_count (pieces (take place xs)) → faults ≤ length xs
faults_few xs place count faults h is =
    let few = counted_few xs place count h in
    let among : faulty_item_count (pieces (take place xs)) ≤ length (pieces (take place xs)) = count_by-le-length is_fault (pieces (take place xs)) in
    omega (arith, h.counted)

-- the offset of a piece that has a number in text, or of the one after it
pub numbered_in_step : (xs : List ℕ) (n number : ℕ) (r : Option ℕ) → n ≤ length xs → IsUtf8 (take n xs) → number < length (pieces xs) → length (pieces xs) ≤ length (pieces (take n xs)) + 1
    → MatchOption r (start_count (take n xs) ≤ number) (IsStartOf (take n xs) number) → Some (unwrap_or r n) ≡ option_map (λ (x : Item). x.0) (slice_get (pieces xs) number)
numbered_in_step xs n number r within text lt most is = by r is
  where
    d : Item
    d = (0, Ok 0, 0)

    out : Inside utf8 xs n → ⊥
    out = (good_text xs n within text).outside

    here : (p : ℕ) → p ≡ (get_or (pieces xs) number d).0 → Some p ≡ option_map (λ (x : Item). x.0) (slice_get (pieces xs) number)
    here p e = ap Some e ∙ sym (ap (option_map (λ (x : Item). x.0)) (slice_get-get_or (pieces xs) number d lt))

    some_is : (i j : ℕ) → Some i ≡ Some j → i ≡ j
    some_is i j e = cc

    none_is : {i : ℕ} → ◌≡◌ {A = Option ℕ} (Some i) None → ⊥
    none_is e = cc

    by : (r : Option ℕ) → MatchOption r (start_count (take n xs) ≤ number) (IsStartOf (take n xs) number) → Some (unwrap_or r n) ≡ option_map (λ (x : Item). x.0) (slice_get (pieces xs) number)
    by None none =
        let count = text_counted (take n xs) text in
        let both = parts_counted xs n within out in
        let last : number - length (pieces (take n xs)) ≡ 0 = omega arith in
        let some = pieces_few (drop n xs) in
        let first = (front_piece (drop n xs) d (omega arith)).0 in
        let place = place_rest xs n within out number d (omega arith) lt in
        let same = ap (λ k. (get_or (pieces (drop n xs)) k d).0) last in
        here n (omega arith)
    by (Some p) is =
        let told = text_numbered (take n xs) number p text is in
        ⊎_elim
        (λ (inner : number < length (pieces (take n xs))).
        let at = some_is p _ (told ∙ ap (option_map (λ (x : Item). x.0)) (slice_get-get_or (pieces (take n xs)) number d inner)) in
        here p (at ∙ sym (place_front xs n within out number d inner)))
        (λ (past : length (pieces (take n xs)) ≤ number). absurd (none_is (told ∙ ap (option_map (λ (x : Item). x.0)) (slice_get_past (pieces (take n xs)) number past))))
        (cases_lt number (length (pieces (take n xs))))

-- the step has the piece that is sought
pub not_none : (xs : List ℕ) (left : ℕ) → left < length (pieces xs) → None ≡ option_map (λ (x : Item). x.0) (slice_get (pieces xs) left) → ⊥
not_none xs left lt e = none_is (e ∙ ap (option_map (λ (x : Item). x.0)) (slice_get-get_or (pieces xs) left (0, Ok 0, 0) lt))
  where
    none_is : {n : ℕ} → ◌≡◌ {A = Option ℕ} None (Some n) → ⊥
    none_is e = cc
