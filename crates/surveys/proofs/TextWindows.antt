-- The windows of text: only characters of several bytes add to the counts, and sequences that were encoded twice.
use Rattle.std.proofs.Common.{◌≡◌, ℕ, zero, suc, ◌+◌, ◌-◌, ◌^◌, ◌<◌, ◌≤◌, Bool, true, false, nat_lt, List, [], ◌∷◌, ◌++◌, length, get_or, take, drop, count_by, IsUtf8, slice_range, refl, sym, ap, ◌∙◌, subst, inl, inr, arith, lit<, zero-add, length-drop, length-take, length-append, append_assoc, take_all}
use Rattle.std.proofs.lemmas.Bool.{and_parts, cases_eq, cases_lt, lt-leb}
use Rattle.std.proofs.lemmas.Bool.Decides.{nat_tests}
use Rattle.std.proofs.lemmas.List.{drop-drop, drop-take, get_or-drop, get_or-take, get_or_append_left, take-append-drop, take-take, take-append-le}
use Rattle.std.proofs.Math.Seq.{drop-append_seam}
use Rattle.std.specs.Char.{IsScalar as IsStdScalar}
use Rattle.std.specs.Prelude.{encode_utf8_all}
use Rattle.std.specs.Str.{all_scalars}
use Rattle.utf_base.specs.Code.{utf8}
use Rattle.utf_base.specs.Scalar.{IsScalar}
use Rattle.utf_base.proofs.JoinedLengths.{some_utf8}
use Rattle.utf_base.proofs.StdText.{scalar_from_std, utf8_is_std}
use Rattle.utf_base.proofs.Utf8Code.{length_utf8, utf8-1, utf8-2, utf8-3, utf8-4, utf8-continuation_byte}
use Rattle.surveys.specs.declared.utf8_counts.Utf8Counts.{Utf8Counts}
use Rattle.surveys.specs.SurveyCounts.{counted, is_lead, nothing, number, seen, window_sum, wrapped}
use Rattle.surveys.specs.SurveyWindows.{front_len, is_surrogate, twice_len}
use Rattle.surveys.proofs.AsciiWindows.{seen-ascii, twice_len-ascii}
use Rattle.surveys.proofs.CharWindows.{len_of_code, seen_char, stands_at_front, twice_len-continuation}
use Rattle.surveys.proofs.ClassCounts.{counted_cons}
use Rattle.surveys.proofs.Counting.{inside_none, wrapped-small}
use Rattle.surveys.proofs.FedUnits.{one_at}
use Rattle.surveys.proofs.WindowSums.{window_sum-few, window_sum-more}

-- what a window of text adds to the counts
abbrev of_text : List ℕ → Utf8Counts
of_text w = record {
  chars = number (is_lead (get_or w 3 0));
  faults = 0;
  third = 0;
  signs = 0;
  undefined = 0;
  surrogates = 0;
  twice = number (nat_lt 0 (twice_len w));
  twice_chars = twice_len w;
}

low_lead : (b : ℕ) → b < 0xC0 → is_lead b ≡ false
low_lead b lt = lt-leb 0xC0 b lt

high_lead : (b : ℕ) → 0xC0 ≤ b → is_lead b ≡ true
high_lead b ge = grind (arith, nat_tests)

-- the code of a scalar that is no ASCII begins with a byte above BF, and with ED only if the next is below A0
record IsBegun (a b : ℕ) : Type 0 where
  lead : 0xC0 ≤ a
  no_surrogate : a ≡ 0xED → b < 0xA0

code_begins : (s : ℕ) → IsScalar s → 0x80 ≤ s → IsBegun (get_or (utf8 s) 0 0) (get_or (utf8 s) 1 0)
code_begins s scalar ge = elim (cases_lt s 0x800) [
  | inl two ↦ rw (utf8-2 s ge two) (record { lead = omega arith; no_surrogate = λ e. absurd (omega arith) })
  | inr more ↦ elim (cases_lt s 0x1_0000) [
    | inl three ↦ rw (utf8-3 s more three) (record {
      lead = omega arith;
      no_surrogate = λ e. elim (cases_lt s 0xD800) [ inl less ↦ omega arith | inr many ↦ (let g = scalar.no_surrogate many in absurd (omega arith)) ];
    })
    | inr four ↦ rw (utf8-4 s four) (record { lead = omega arith; no_surrogate = λ e. absurd (omega arith) })
  ]
]

many_bytes : (s : ℕ) → 0x80 ≤ s → 1 < length (utf8 s)
many_bytes s ge = elim (cases_lt s 0x800) [
  | inl two ↦ rw (utf8-2 s ge two) (lit< tt)
  | inr more ↦ elim (cases_lt s 0x1_0000) [ inl three ↦ rw (utf8-3 s more three) (lit< tt) | inr four ↦ rw (utf8-4 s four) (lit< tt) ]
]

no_surrogate-window : (w : List ℕ) → (get_or w 3 0 ≡ 0xED → get_or w 4 0 < 0xA0) → is_surrogate w ≡ false
unfolding is_surrogate
no_surrogate-window w low = elim (cases_eq (get_or w 3 0) 0xED) [ inl e ↦ (let lt = low e in grind (arith, nat_tests)) | inr other ↦ grind (arith, nat_tests) ]

-- The windows of one character: text from the offset i + 3 on begins with its code.
module _ (bytes : List ℕ) (i s : ℕ) (more : List ℕ) (scalar : IsScalar s) (here : drop (i + 3) bytes ≡ utf8 s ++ more) (long : 13 ≤ length more) where
  abbrev size : ℕ
  size = length (utf8 s)

  abbrev w : List ℕ
  w = take 17 (drop i bytes)

  few : size ≤ 4
  few = length_utf8 s

  some : 0 < size
  some = some_utf8 s

  whole : length bytes - (i + 3) ≡ size + length more
  whole = sym (length-drop (i + 3) bytes) ∙ ap length here ∙ length-append (utf8 s) more

  pub within : i + size + 16 ≤ length bytes
  within = omega (arith, whole, some)

  -- a byte of the character
  byte_at : (k : ℕ) → k < size → get_or bytes (i + 3 + k) 0 ≡ get_or (utf8 s) k 0
  byte_at k lt = sym (get_or-drop (i + 3) bytes k 0) ∙ ap (λ z. get_or z k 0) here ∙ get_or_append_left (utf8 s) more 0 k lt

  window_byte : (k j : ℕ) → j < 17 → get_or (take 17 (drop k bytes)) j 0 ≡ get_or bytes (k + j) 0
  window_byte k j lt = get_or-take 17 (drop k bytes) j 0 lt ∙ get_or-drop k bytes j 0

  front : drop 3 w ≡ take 14 (drop (i + 3) bytes)
  front = drop-take 3 14 (drop i bytes) ∙ ap (take 14) (drop-drop 3 i bytes)

  begins_window : take size (drop 3 w) ≡ utf8 s
  begins_window =
      ap (take size) front ∙ take-take size 14 (drop (i + 3) bytes) (omega (arith, few)) ∙ ap (take size) here ∙ take-append-le size (utf8 s) more (omega arith) ∙ take_all size (utf8 s) (omega arith)

  len_is : front_len (drop 3 w) ≡ size
  len_is =
      let room : size ≤ length (drop 3 w) = omega (arith, few, ap length front, length-take 14 (drop (i + 3) bytes), length-drop (i + 3) bytes, within) in
      len_of_code (drop 3 w) s (stands_at_front (drop 3 w) s scalar room begins_window)

  window_len : 17 ≤ length w
  window_len = omega (arith, length-take 17 (drop i bytes), length-drop i bytes, within, some)

  first_byte : get_or w 3 0 ≡ get_or (utf8 s) 0 0
  first_byte = let same : i + 3 ≡ i + 3 + 0 = omega arith in window_byte i 3 (lit< tt) ∙ ap (λ j. get_or bytes j 0) same ∙ byte_at 0 some

  at_first : seen w ≡ of_text w
  at_first = elim (cases_lt s 0x80) [
    | inl low ↦ (let byte : get_or w 3 0 ≡ s = first_byte ∙ ap (λ z. get_or z 0 0) (utf8-1 s low) in
        let lt : get_or w 3 0 < 0x80 = omega arith in
        seen-ascii w window_len lt ∙ sym (rw (low_lead (get_or w 3 0) (omega arith), twice_len-ascii w lt) refl))
    | inr high ↦ (let two = many_bytes s high in
        let begun = code_begins s scalar high in
        let next : i + 4 ≡ i + 3 + 1 = omega arith in
        let second : get_or w 4 0 ≡ get_or (utf8 s) 1 0 = window_byte i 4 (lit< tt) ∙ ap (λ j. get_or bytes j 0) next ∙ byte_at 1 two in
        let none = no_surrogate-window w (λ e. let lt = begun.no_surrogate (sym first_byte ∙ e) in omega (arith, second)) in
        let lt : 1 < front_len (drop 3 w) = omega (arith, len_is) in
        seen_char w lt ∙ rw (none, high_lead (get_or w 3 0) (omega (arith, first_byte, begun.lead))) refl)
  ]

  at_later : (k : ℕ) → 0 < k → k < size → seen (take 17 (drop (i + k) bytes)) ≡ of_text (take 17 (drop (i + k) bytes))
  at_later k positive lt =
      let v = take 17 (drop (i + k) bytes) in
      let at : i + k + 3 ≡ i + 3 + k = omega arith in
      let byte : get_or v 3 0 ≡ get_or (utf8 s) k 0 = window_byte (i + k) 3 (lit< tt) ∙ ap (λ j. get_or bytes j 0) at ∙ byte_at k lt in
      let continuation = utf8-continuation_byte s k scalar positive lt in
      let low : get_or v 3 0 < 0xC0 = omega (arith, byte, continuation.1) in
      inside_none bytes i size k within few (sym len_is) positive lt ∙ sym (rw (low_lead (get_or v 3 0) low, twice_len-continuation v low) refl)

  pub one_char : (k : ℕ) → k < size → seen (take 17 (drop (i + k) bytes)) ≡ of_text (take 17 (drop (i + k) bytes))
  one_char zero lt = let same : i ≡ i + 0 = omega arith in subst (λ j. seen (take 17 (drop j bytes)) ≡ of_text (take 17 (drop j bytes))) same at_first
  one_char (suc k) lt = at_later (suc k) (omega arith) lt

  pub after : drop (i + size + 3) bytes ≡ more
  after =
      let sum : i + size + 3 ≡ i + 3 + size = omega arith in
      ap (λ j. drop j bytes) sum ∙ sym (drop-drop size (i + 3) bytes) ∙ ap (drop size) here ∙ drop-append_seam (utf8 s) more

-- each window of text
each_of : (bytes cs rest : List ℕ) (i : ℕ) → all_scalars cs ≡ true → drop (i + 3) bytes ≡ encode_utf8_all cs ++ rest → length rest ≡ 13 → (k : ℕ) → i ≤ k → k + 16 < length bytes
    → seen (take 17 (drop k bytes)) ≡ of_text (take 17 (drop k bytes))
each_of bytes [] rest i all here thirteen k ge lt = absurd (omega (arith, ap length here, length-drop (i + 3) bytes))
each_of bytes (s ∷ cs) rest i all here thirteen k ge lt =
    let parts = and_parts _ (all_scalars cs) all in
    let std : IsStdScalar s = parts.0 in
    let scalar = scalar_from_std s std in
    let more = encode_utf8_all cs ++ rest in
    let first : drop (i + 3) bytes ≡ utf8 s ++ more = here ∙ ap (λ code. (code ++ encode_utf8_all cs) ++ rest) (utf8_is_std s) ∙ append_assoc (utf8 s) (encode_utf8_all cs) rest in
    let long : 13 ≤ length more = omega (arith, length-append (encode_utf8_all cs) rest) in
    elim (cases_lt k (i + length (utf8 s))) [
      | inl less ↦ (let at : i + (k - i) ≡ k = omega arith in rw at at (one_char bytes i s more scalar first long (k - i) (omega arith)))
      | inr past ↦ each_of bytes cs rest (i + length (utf8 s)) parts.1 (after bytes i s more scalar first long) thirteen k past lt
    ]

-- Sums over windows of which each shows what its fourth byte does.

sum_none : (f : List ℕ → ℕ) (bytes : List ℕ) → ((k : ℕ) → k + 16 < length bytes → f (take 17 (drop k bytes)) ≡ 0) → window_sum f bytes ≡ 0
sum_none f [] none = window_sum-few f [] (lit< tt)
sum_none f (b ∷ bytes) none = elim (cases_lt (length (b ∷ bytes)) 17) [
  | inl few ↦ window_sum-few f (b ∷ bytes) few
  | inr long ↦ window_sum-more f b bytes long ∙ ap (λ n. n + window_sum f bytes) (none 0 (omega arith)) ∙ zero-add (window_sum f bytes)
      ∙ sum_none f bytes (λ k lt. none (suc k) (omega arith))
]

sum_count : (f : List ℕ → ℕ) (p : ℕ → Bool) (n : ℕ) (bytes : List ℕ) → length bytes ≡ n + 16 → ((k : ℕ) → k + 16 < length bytes → f (take 17 (drop k bytes)) ≡ number (p (get_or bytes (k + 3) 0)))
    → window_sum f bytes ≡ count_by p (take n (drop 3 bytes))
sum_count f p zero bytes e each = window_sum-few f bytes (omega arith)
sum_count f p (suc n) [] e each = absurd (omega arith)
sum_count f p (suc n) (b ∷ bytes) e each =
    let byte = get_or bytes 2 0 in
    let long : 17 ≤ length (b ∷ bytes) = omega arith in
    let here : drop 2 bytes ≡ byte ∷ drop 3 bytes = one_at bytes 2 (omega arith) in
    window_sum-more f b bytes long ∙ ap (λ m. m + window_sum f bytes) (each 0 (omega arith)) ∙ ap (λ m. number (p byte) + m) (sum_count f p n bytes (omega arith) (λ k lt. let next : suc k + 3 ≡ suc (k + 3) = omega arith in each (suc k) (omega arith) ∙ ap (λ j. number (p (get_or (b ∷ bytes) j 0))) next))
    ∙ sym (ap (λ z. count_by p (take (suc n) z)) here ∙ counted_cons p byte (take n (drop 3 bytes)))

-- the counts of the windows whose fourth bytes are text
pub text_counted : (bytes : List ℕ) (n chars twice twice_chars : ℕ) → length bytes ≡ n + 16 → IsUtf8 (take n (drop 3 bytes)) → chars < 2 ^ 64 → chars ≡ count_by is_lead (take n (drop 3 bytes))
    → twice ≡ wrapped (window_sum (λ w. number (nat_lt 0 (twice_len w))) bytes) → twice_chars ≡ wrapped (window_sum twice_len bytes)
    → record { chars = chars; faults = 0; third = 0; signs = 0; undefined = 0; surrogates = 0; twice = twice; twice_chars = twice_chars } ≡ counted nothing bytes
unfolding counted
text_counted bytes n chars twice twice_chars e (cs, (all, text)) fits chars_is twice_is twice_chars_is =
    let rest = drop (3 + n) bytes in
    let whole : drop (0 + 3) bytes ≡ encode_utf8_all cs ++ rest
    = sym (take-append-drop n (drop 3 bytes)) ∙ ap (λ z. take n (drop 3 bytes) ++ z) (drop-drop n 3 bytes) ∙ ap (λ z. z ++ rest) (sym text) in
    let thirteen : length rest ≡ 13 = omega (arith, length-drop (3 + n) bytes) in
    let each : (k : ℕ) → k + 16 < length bytes → seen (take 17 (drop k bytes)) ≡ of_text (take 17 (drop k bytes))
    = λ k lt. each_of bytes cs rest 0 all whole thirteen k (omega arith) lt in
    let byte : (k : ℕ) → get_or (take 17 (drop k bytes)) 3 0 ≡ get_or bytes (k + 3) 0 = λ k. get_or-take 17 (drop k bytes) 3 0 (lit< tt) ∙ get_or-drop k bytes 3 0 in
    let c : window_sum (λ w. (seen w).chars) bytes ≡ chars
    = sum_count (λ w. (seen w).chars) is_lead n bytes e (λ k lt. ap (λ s. s.chars) (each k lt) ∙ ap (λ b. number (is_lead b)) (byte k)) ∙ sym chars_is in
    let f : window_sum (λ w. (seen w).faults) bytes ≡ 0 = sum_none (λ w. (seen w).faults) bytes (λ k lt. ap (λ s. s.faults) (each k lt)) in
    let t : window_sum (λ w. (seen w).third) bytes ≡ 0 = sum_none (λ w. (seen w).third) bytes (λ k lt. ap (λ s. s.third) (each k lt)) in
    let g : window_sum (λ w. (seen w).signs) bytes ≡ 0 = sum_none (λ w. (seen w).signs) bytes (λ k lt. ap (λ s. s.signs) (each k lt)) in
    let u : window_sum (λ w. (seen w).undefined) bytes ≡ 0 = sum_none (λ w. (seen w).undefined) bytes (λ k lt. ap (λ s. s.undefined) (each k lt)) in
    let h : window_sum (λ w. (seen w).surrogates) bytes ≡ 0 = sum_none (λ w. (seen w).surrogates) bytes (λ k lt. ap (λ s. s.surrogates) (each k lt)) in
    rw (twice_is, twice_chars_is) (rw (c, f, t, g, u, h, zero-add chars, zero-add 0, zero-add (window_sum (λ w. number (nat_lt 0 (twice_len w))) bytes), zero-add (window_sum twice_len bytes), wrapped-small chars fits, wrapped-small 0 (lit< tt)) refl)

-- the text of some windows, as a slice of these
pub text_slice : (bytes : List ℕ) (i t : ℕ) → i ≤ t → t + 16 ≤ length bytes → IsUtf8 (slice_range bytes (i + 3) (t + 3))
    → IsUtf8 (slice_range (take (t + 16 - i) (drop i bytes)) 3 (length (take (t + 16 - i) (drop i bytes)) - 13))
text_slice bytes i t le within text =
    let z = take (t + 16 - i) (drop i bytes) in
    let n = t - i in
    let parts : t + 16 - i ≡ 3 + (n + 13) = omega arith in
    let rest : drop 3 z ≡ take (n + 13) (drop (i + 3) bytes) = ap (λ m. drop 3 (take m (drop i bytes))) parts ∙ drop-take 3 (n + 13) (drop i bytes) ∙ ap (take (n + 13)) (drop-drop 3 i bytes) in
    let width : length z - 13 - 3 ≡ n = omega (arith, length-take (t + 16 - i) (drop i bytes), length-drop i bytes) in
    let same : take n (drop 3 z) ≡ take n (drop (i + 3) bytes) = ap (take n) rest ∙ take-take n (n + 13) (drop (i + 3) bytes) (omega arith) in
    let size : t + 3 - (i + 3) ≡ n = omega arith in
    rw (width, same) (rw size at text)
