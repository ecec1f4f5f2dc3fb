-- Where the last line begins in joined bytes, and how many line feeds they have.
use Rattle.std.proofs.Common.{◌≡◌, ℕ, zero, suc, ◌+◌, ◌-◌, ◌*◌, ◌/◌, ◌%◌, ◌<◌, ◌≤◌, Bool, true, false, List, [], ◌∷◌, ◌++◌, length, get_or, take, drop, arith, refl, ap, sym, ◌∙◌, length-append, length-drop}
use Rattle.std.proofs.lemmas.List.{drop-append-le, get_or_append_left, get_or-append-add, get_or-drop, get_or-take, length-take, length-take-le, take-append-drop}
use Rattle.std.proofs.lemmas.List.Sums.{count_by-le-length, count_by_more_no, count_by_more_yes, sum_by-append}
use Rattle.std.specs.Prelude.{cond, nat_eq, slice_index, slice_range}
use mir.Val.{bool_byte}
use Rattle.recoding.specs.declared.form.Form.{Form}
use Rattle.recoding.specs.declared.form.Form.TheVariants.{Utf8, Utf16Le, Utf16Be}
use Rattle.recoding.proofs.Blocks.{units_append}
use Rattle.recoding.proofs.JoinedShards.{even_units}
use Rattle.text_runs.specs.ShardRuns.{line_feed_count}
use Rattle.text_stream.proofs.UnitFaults.{count_units}
use Rattle.text_positions.specs.Positions.{BeginsLastLine, IsLastLine, element_len, elements, line_feeds}

-- Lists.

pub feeds_append : (a b : List ℕ) → line_feed_count (a ++ b) ≡ line_feed_count a + line_feed_count b
feeds_append a b = sum_by-append (λ x. cond (nat_eq x 10) 1 0) a b

pub feeds_parts : (n : ℕ) (xs : List ℕ) → line_feed_count xs ≡ line_feed_count (take n xs) + line_feed_count (drop n xs)
feeds_parts n xs = ap line_feed_count (sym (take-append-drop n xs)) ∙ feeds_append (take n xs) (drop n xs)

-- one more element
pub feeds_more : (xs : List ℕ) (from place : ℕ) (told : Bool) → from ≤ place → place < length xs → told ≡ nat_eq (slice_index xs place) 10
    → line_feed_count (slice_range xs from (place + 1)) ≡ line_feed_count (slice_range xs from place) + bool_byte told
feeds_more xs from place told le lt e =
    let i = place - from in
    let more : place + 1 - from ≡ i + 1 = omega arith in
    let there : get_or (drop from xs) i 0 ≡ slice_index xs place = get_or-drop from xs i 0 ∙ ap (λ k. get_or xs k 0) (omega arith) in
    let test : nat_eq (get_or (drop from xs) i 0) 10 ≡ told = ap (λ x. nat_eq x 10) there ∙ sym e in
    rw more (by_test told test)
  where
    by_test : (told : Bool) → nat_eq (get_or (drop from xs) (place - from) 0) 10 ≡ told
        → line_feed_count (take (place - from + 1) (drop from xs)) ≡ line_feed_count (take (place - from) (drop from xs)) + bool_byte told
    by_test true is = count_by_more_yes (λ x. nat_eq x 10) (drop from xs) (place - from) 0 (omega (arith, length-drop from xs)) is
    by_test false is = count_by_more_no (λ x. nat_eq x 10) (drop from xs) (place - from) 0 (omega (arith, length-drop from xs)) is ∙ omega arith

pub feeds_few : (xs : List ℕ) (from end : ℕ) → line_feed_count (slice_range xs from end) ≤ end - from
feeds_few xs from end = omega (arith, count_by-le-length (λ x. nat_eq x 10) (slice_range xs from end), length-take (end - from) (drop from xs))

-- Elements without a line feed follow: the last line begins at the same element.
pub longer : (xs ys : List ℕ) (n : ℕ) → BeginsLastLine xs n → line_feed_count ys ≡ 0 → BeginsLastLine (xs ++ ys) n
longer xs ys n h none =
    let within = h.within in
    let last = h.last in
    record {
      within = omega (arith, length-append xs ys);
      after = λ some. get_or_append_left xs ys 0 (n - 1) (omega arith) ∙ h.after some;
      last = ap line_feed_count (drop-append-le n xs ys within) ∙ feeds_append (drop n xs) ys ∙ omega arith;
    }

pub shorter : (xs ys : List ℕ) (n : ℕ) → BeginsLastLine (xs ++ ys) n → n ≤ length xs → BeginsLastLine xs n
shorter xs ys n h within =
    let both : line_feed_count (drop n xs ++ ys) ≡ 0 = sym (ap line_feed_count (drop-append-le n xs ys within)) ∙ h.last in
    let sum = feeds_append (drop n xs) ys in
    record { within = within; after = λ some. sym (get_or_append_left xs ys 0 (n - 1) (omega arith)) ∙ h.after some; last = omega arith }

-- The elements up to the last line, and with the line feed before it: an empty line follows them.
pub line_after : (xs ys : List ℕ) (n : ℕ) → BeginsLastLine ys n → 0 < n → BeginsLastLine (xs ++ take n ys) (length xs + n)
line_after xs ys n h some =
    let within = h.within in
    let len = length-take-le n ys within in
    let place : length xs + n - 1 ≡ length xs + (n - 1) = omega arith in
    let all = length-drop (length xs + n) (xs ++ take n ys) in
    record {
      within = omega (arith, length-append xs (take n ys));
      after = λ _. ap (λ k. get_or (xs ++ take n ys) k 0) place ∙ get_or-append-add xs (take n ys) (n - 1) 0 ∙ get_or-take n ys (n - 1) 0 (omega arith) ∙ h.after some;
      last = no_feeds (drop (length xs + n) (xs ++ take n ys)) (omega (arith, length-append xs (take n ys)));
    }
  where
    no_feeds : (zs : List ℕ) → length zs ≤ 0 → line_feed_count zs ≡ 0
    no_feeds [] le = refl
    no_feeds (z ∷ zs) le = absurd (omega arith)

pub some_before : (ys : List ℕ) (n : ℕ) → BeginsLastLine ys n → 0 < line_feed_count ys → 0 < n
some_before ys zero h some = let none = h.last in absurd (omega arith)
some_before ys (suc n) h some = omega arith

-- Bytes in any encoding.

pub elements_append : (form : Form) (front more : List ℕ) → length front % element_len form ≡ 0 → elements form (front ++ more) ≡ elements form front ++ elements form more
elements_append Utf8 front more whole = refl
elements_append Utf16Le front more whole = units_append false front more (length front / 2) (omega arith)
elements_append Utf16Be front more whole = units_append true front more (length front / 2) (omega arith)

pub lines_append : (form : Form) (front more : List ℕ) → length front % element_len form ≡ 0 → line_feeds form (front ++ more) ≡ line_feeds form front + line_feeds form more
lines_append form front more whole = ap line_feed_count (elements_append form front more whole) ∙ feeds_append (elements form front) (elements form more)

-- the number of bytes of whole elements
pub bytes_of_elements : (form : Form) (w : List ℕ) → length w % element_len form ≡ 0 → length w ≡ element_len form * length (elements form w)
bytes_of_elements Utf8 w whole = omega arith
bytes_of_elements Utf16Le w whole = let counts = count_units false w in omega (arith, counts.0, counts.1)
bytes_of_elements Utf16Be w whole = let counts = count_units true w in omega (arith, counts.0, counts.1)

pub whole_sum : (form : Form) (a b : ℕ) → a % element_len form ≡ 0 → b % element_len form ≡ 0 → (a + b) % element_len form ≡ 0
whole_sum Utf8 a b h k = omega arith
whole_sum Utf16Le a b h k = omega arith
whole_sum Utf16Be a b h k = omega arith

pub place_sum : (form : Form) (a b c d : ℕ) → a ≡ element_len form * c → b ≡ element_len form * d → a + b ≡ element_len form * (c + d)
place_sum Utf8 a b c d h k = omega arith
place_sum Utf16Le a b c d h k = omega arith
place_sum Utf16Be a b c d h k = omega arith

pub place_order : (form : Form) (a b c d : ℕ) → a ≡ element_len form * c → b ≡ element_len form * d → a ≤ b → c ≤ d
place_order Utf8 a b c d h k le = omega arith
place_order Utf16Le a b c d h k le = omega arith
place_order Utf16Be a b c d h k le = omega arith

pub begin_whole : (form : Form) (w : List ℕ) (begin : ℕ) → IsLastLine form w begin → begin % element_len form ≡ 0
begin_whole Utf8 w begin h = omega arith
begin_whole Utf16Le w begin h = let place = h.place in omega arith
begin_whole Utf16Be w begin h = let place = h.place in omega arith

pub begin_within : (form : Form) (w : List ℕ) (begin : ℕ) → IsLastLine form w begin → begin ≤ length w
begin_within Utf8 w begin h =
    let place = h.place in
    let within = h.begins.within in
    omega arith
begin_within Utf16Le w begin h =
    let place = h.place in
    let within = h.begins.within in
    let counts = count_units false w in
    omega (arith, counts.0, counts.1)
begin_within Utf16Be w begin h =
    let place = h.place in
    let within = h.begins.within in
    let counts = count_units true w in
    omega (arith, counts.0, counts.1)

-- the elements before an offset and those after it
pub elements_at : (form : Form) (w : List ℕ) (begin n : ℕ) → begin ≤ length w → begin ≡ element_len form * n
    → (elements form (take begin w) ≡ take n (elements form w)) × (elements form (drop begin w) ≡ drop n (elements form w))
elements_at Utf8 w begin n le e = let same : begin ≡ n = omega arith in (ap (λ k. take k w) same, ap (λ k. drop k w) same)
elements_at Utf16Le w begin n le e = even_units false w begin n le e
elements_at Utf16Be w begin n le e = even_units true w begin n le e

-- the elements of the last line have no line feed
pub no_more : (xs ys : List ℕ) (n : ℕ) → BeginsLastLine (xs ++ ys) n → n ≤ length xs → line_feed_count ys ≡ 0
no_more xs ys n h within =
    let both : line_feed_count (drop n xs ++ ys) ≡ 0 = sym (ap line_feed_count (drop-append-le n xs ys within)) ∙ h.last in
    omega (arith, feeds_append (drop n xs) ys)

-- after the last line begins no line feed comes
pub rest_has_none : (form : Form) (w : List ℕ) (begin : ℕ) → IsLastLine form w begin → line_feeds form (drop begin w) ≡ 0
rest_has_none form w begin h = ap line_feed_count (elements_at form w begin h.number (begin_within form w begin h) h.place).1 ∙ h.begins.last
