-- The length of a maximal subpart of UTF-8, from its first three bytes.
use Rattle.std.proofs.Common.{◌≡◌, ℕ, ◌+◌, ◌-◌, ◌<◌, ◌≤◌, ⊎_elim, List, [], ◌∷◌, ◌++◌, length, get_or, take, drop, arith, refl, ap, sym, ◌∙◌, length-append, length-take, lit<, take-append-drop}
use Rattle.std.specs.Prelude.{slice_range}
use Rattle.std.proofs.lemmas.Bool.{cases_lt}
use Rattle.std.proofs.lemmas.Grind.{common_steps}
use Rattle.std.proofs.lemmas.List.{append-nil, get_or-take, take-take, take_all, take_at}
use Rattle.utf_base.specs.Code.{utf8}
use Rattle.utf_base.specs.Kinds.{asked_by}
use Rattle.utf_base.specs.Piece.{Stands}
use Rattle.utf_base.specs.Scalar.{IsScalar}
use Rattle.utf_base.specs.Front.{NoneBegins}
use Rattle.utf_base.specs.Subparts.{IsFrontOfCode, IsMaximalSubpart}
use Rattle.utf_base.proofs.FrontLemmas.{asked_cases, asked-3, asked-4, code_where_no_fault, decodes_from_stands, no_fault_where_code}
use Rattle.utf_base.proofs.GrammarLemmas.{char_encodes}
use Rattle.utf_base.proofs.KindCases.{begins_with-1}
use Rattle.utf_base.proofs.Standing.{stands_alone, stands_first}
use Rattle.utf_base.proofs.Utf8Code.{length_utf8}
use Rattle.recoding.specs.Lossy.{BeginsLongCode, BeginsNoCode, BeginsSubpart, ThirdContinues}
use Rattle.recoding.specs.Recoded.{IsProperFront}
use Rattle.recoding.proofs.CodeFronts.{Followed, followed_in_three, followed_in_four, front_of_two, front_of_three, three_are_char}

-- A front of a code among bytes with which no code begins.

-- the front is shorter than the code
record Fronted (w : List ℕ) (k : ℕ) : Type 0 where
  pub char : ℕ
  pub scalar : IsScalar char
  pub longer : k < length (utf8 char)
  pub within : k ≤ length w
  pub front : take k (utf8 char) ≡ take k w

fronted : (w : List ℕ) (k : ℕ) → NoneBegins utf8 w → 0 + k ≤ length w → IsFrontOfCode utf8 (slice_range w 0 (0 + k)) → Fronted w k
fronted w k none fits f =
    let span : 0 + k - 0 ≡ k = omega arith in
    let code : List ℕ = utf8 f.char in
    let len : length (take k w) ≡ k = omega (arith, length-take k w) in
    let h : take k code ≡ take k w = rw (span, len) at f.front in
    record {
      char = f.char;
      scalar = f.scalar;
      longer =
          ⊎_elim (λ (lt : k < length code). lt)
          (λ (ge : length code ≤ k).
          let all : w ≡ code ++ drop k w = sym (take-append-drop k w) ∙ ap (λ ys. ys ++ drop k w) (sym h ∙ take_all k code ge) in
          absurd (none f.char (stands_first utf8 w (drop k w) f.char f.scalar all)))
          (cases_lt k (length code));
      within = omega arith;
      front = h;
    }

-- The first bytes of a code of three or four.
record IsLong (code : List ℕ) : Type 0 where
  pub low : 0xE0 ≤ get_or code 0 0
  pub high : get_or code 0 0 < 0xF5
  pub followed : Followed code

long_code : (s : ℕ) → IsScalar s → 2 < length (utf8 s) → IsLong (utf8 s)
long_code s scalar long =
    let stands : Stands utf8 (utf8 s) 0 s = stands_alone utf8 (utf8 s) (s, scalar, refl) in
    let d = decodes_from_stands (utf8 s) s stands in
    let asks = (code_where_no_fault (utf8 s) (no_fault_where_code (utf8 s) s stands)).1 ∙ ap (λ v. length (utf8 v)) d.1 in
    ⊎_elim (λ h. absurd (omega (arith, h.1, asks)))
    (⊎_elim (λ h. absurd (omega (arith, h.2, asks)))
    (⊎_elim (λ h. record { low = h.0; high = omega (arith, h.1); followed = followed_in_three (utf8 s) d.0 h.0 h.1 })
    (λ h. record { low = omega (arith, h.0); high = h.1; followed = followed_in_four (utf8 s) d.0 h.0 h.1 })))
    (asked_cases (get_or (utf8 s) 0 0) (omega (arith, asks)))

element : (w : List ℕ) (k j : ℕ) (f : Fronted w k) → j < k → get_or (utf8 f.char) j 0 ≡ get_or w j 0
element w k j f lt = sym (get_or-take k (utf8 f.char) j 0 lt) ∙ ap (λ xs. get_or xs j 0) f.front ∙ get_or-take k w j 0 lt

long_front : (w : List ℕ) (k : ℕ) → Fronted w k → 2 ≤ k → BeginsLongCode w
long_front w k f two =
    let longer = f.longer in
    let within = f.within in
    let l = long_code f.char f.scalar (omega arith) in
    let first = element w k 0 f (omega arith) in
    record { two = omega arith; low = rw first at l.low; high = rw first at l.high; second = rw (first, element w k 1 f (omega arith)) at l.followed.second }

third_of_front : (w : List ℕ) (k : ℕ) → Fronted w k → 3 ≤ k → (0x80 ≤ get_or w 2 0) × (get_or w 2 0 < 0xC0)
third_of_front w k f three =
    let longer = f.longer in
    let l = long_code f.char f.scalar (omega arith) in
    let third = element w k 2 f (omega arith) in
    (rw third at l.followed.low, rw third at l.followed.high)

few_in_front : (w : List ℕ) (k : ℕ) → Fronted w k → k ≤ 3
few_in_front w k f = omega (arith, f.longer, length_utf8 f.char)

-- The first three bytes determine the length of the maximal subpart.

pub subpart_of_one : (w : List ℕ) → 0 < length w → NoneBegins utf8 w → (BeginsLongCode w → ⊥) → IsMaximalSubpart utf8 w 0 1
subpart_of_one w some none short = record {
  offset = record { within = some; none = none };
  some = omega arith;
  within = omega arith;
  front = λ more. absurd (omega arith);
  longest = λ k fits f.
      ⊎_elim (λ (lt : 1 < k). absurd (short (long_front w k (fronted w k none fits f) lt))) (λ (le : k ≤ 1). le) (cases_lt 1 k);
}

front_from : (w : List ℕ) → IsProperFront utf8 w → IsFrontOfCode utf8 w
front_from w f = record { char = f.char; scalar = f.scalar; within = omega (arith, f.longer); front = f.front }

asks_for_three : (a : ℕ) → 0xE0 ≤ a → a < 0xF5 → 2 < asked_by (a ∷ [])
asks_for_three a low high =
    ⊎_elim (λ (lt : a < 0xF0). omega (arith, asked-3 a low lt)) (λ (ge : 0xF0 ≤ a). omega (arith, asked-4 a ge high)) (cases_lt a 0xF0)

front_two : (w : List ℕ) → BeginsLongCode w → IsFrontOfCode utf8 (slice_range w 0 2)
front_two [] b = let two = b.two in absurd (omega arith)
front_two (a ∷ []) b = let two = b.two in absurd (omega arith)
front_two (a ∷ b ∷ w) l = front_from (a ∷ b ∷ []) (front_of_two a b (asks_for_three a l.low l.high) l.second)

pub subpart_of_two : (w : List ℕ) → NoneBegins utf8 w → BeginsLongCode w → (ThirdContinues w → ⊥) → IsMaximalSubpart utf8 w 0 2
subpart_of_two w none long short =
    let two = long.two in
    record {
      offset = record { within = omega arith; none = none };
      some = omega arith;
      within = omega arith;
      front = λ more. front_two w long;
      longest = λ k fits f.
          let g = fronted w k none fits f in
          let within = g.within in
          ⊎_elim (λ (lt : 2 < k). let third = third_of_front w k g lt in absurd (short (omega arith, third.0, third.1))) (λ (le : k ≤ 2). le) (cases_lt 2 k);
    }

front_three : (w : List ℕ) → NoneBegins utf8 w → 2 < length w → BeginsLongCode w → 0x80 ≤ get_or w 2 0 → get_or w 2 0 < 0xC0 → IsFrontOfCode utf8 (slice_range w 0 3)
front_three [] none three l low high = absurd (omega arith)
front_three (a ∷ []) none three l low high = absurd (omega arith)
front_three (a ∷ b ∷ []) none three l low high = absurd (omega arith)
front_three (a ∷ b ∷ c ∷ w) none three l low high =
    ⊎_elim
    (λ (lt : a < 0xF0).
    let x = char_encodes (a ∷ b ∷ c ∷ []) (three_are_char a b c l.low lt l.second low high) in
    absurd (none x.scalar (stands_first utf8 (a ∷ b ∷ c ∷ w) w x.scalar x.is_scalar (ap (λ ys. ys ++ w) x.equal))))
    (λ (ge : 0xF0 ≤ a). front_from (a ∷ b ∷ c ∷ []) (front_of_three a b c (omega (arith, asked-4 a ge l.high)) l.second low high))
    (cases_lt a 0xF0)

pub subpart_of_three : (w : List ℕ) → NoneBegins utf8 w → BeginsLongCode w → ThirdContinues w → IsMaximalSubpart utf8 w 0 3
subpart_of_three w none long third = record {
  offset = record { within = omega (arith, third.0); none = none };
  some = omega arith;
  within = omega (arith, third.0);
  front = λ more. front_three w none third.0 long third.1 third.2;
  longest = λ k fits f. few_in_front w k (fronted w k none fits f);
}

-- If no code begins the bytes whatever follows them, the subpart's length does not depend on what follows.

pub some_where_no_code : (w : List ℕ) → BeginsNoCode w → 0 < length w
some_where_no_code [] none = absurd (none (0 ∷ []) 0 (begins_with-1 (0 ∷ []) (lit< tt) (lit< tt)).0)
some_where_no_code (a ∷ w) none = omega arith

pub none_alone : (w : List ℕ) → BeginsNoCode w → NoneBegins utf8 w
none_alone w none s h = none [] s (rw (append-nil w) h)

range_of_front : (w later : List ℕ) (k : ℕ) → k ≤ length w → slice_range (w ++ later) 0 (0 + k) ≡ slice_range w 0 (0 + k)
range_of_front w later k le = grind (arith, common_steps)

-- the front of a code that begins them is no longer than they are
front_within : (w later : List ℕ) (k : ℕ) → BeginsNoCode w → 0 + k ≤ length (w ++ later) → IsFrontOfCode utf8 (slice_range (w ++ later) 0 (0 + k)) → k ≤ length w
front_within w later k none fits f =
    let span : 0 + k - 0 ≡ k = omega arith in
    let xs : List ℕ = w ++ later in
    let code : List ℕ = utf8 f.char in
    let len : length (take k xs) ≡ k = omega (arith, length-take k xs) in
    let h : take k code ≡ take k xs = rw (span, len) at f.front in
    ⊎_elim
    (λ (gt : length w < k).
    let begun : take (length w) code ≡ w =
    sym (take-take (length w) k code (omega arith)) ∙ ap (take (length w)) h ∙ take-take (length w) k xs (omega arith) ∙ take_at w later (length w) refl in
    let whole : w ++ drop (length w) code ≡ code = ap (λ ys. ys ++ drop (length w) code) (sym begun) ∙ take-append-drop (length w) code in
    absurd (none (drop (length w) code) f.char (stands_first utf8 (w ++ drop (length w) code) [] f.char f.scalar (whole ∙ sym (append-nil code)))))
    (λ (le : k ≤ length w). le)
    (cases_lt (length w) k)

pub subpart_stays : (w : List ℕ) (n : ℕ) → BeginsNoCode w → IsMaximalSubpart utf8 w 0 n → BeginsSubpart w n
subpart_stays w n none h later =
    let within = h.within in
    let some = h.some in
    record {
      offset = record { within = omega (arith, length-append w later); none = none later };
      some = some;
      within = omega (arith, length-append w later);
      front = λ more. rw (range_of_front w later n (omega arith)) (h.front more);
      longest = λ k fits f.
          let le = front_within w later k none fits f in
          h.longest k (omega arith) (rw (range_of_front w later k le) at f);
    }
