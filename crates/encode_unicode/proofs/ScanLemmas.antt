-- What the bytes that a scan from the end has read decode to.
use Rattle.std.proofs.Common.{◌≡◌, ℕ, zero, suc, take, ◌+◌, ◌-◌, ◌<◌, ◌≤◌, List, [], ◌∷◌, length, get_or, drop, min, arith, refl, ap, sym, ◌∙◌, true, false, Result, Ok, Err}
use Rattle.std.proofs.lemmas.Grind.{common_steps}
use Rattle.std.specs.Prelude.{slice_range}
use Rattle.utf_base.specs.declared.errors.Utf8ErrorKind.{Utf8ErrorKind}
use Rattle.utf_base.specs.declared.errors.Utf8ErrorKind.TheVariants.{UnexpectedContinuationByte}
use Rattle.utf_base.specs.Back.{DecodesEnd, EndsInContinuationBytes, end_fault, last_bytes}
use Rattle.utf_base.specs.Code.{utf8}
use Rattle.utf_base.specs.Ends.{last_of, EndsWith, NoCodeEnds}
use Rattle.utf_base.specs.Front.{as_scalar, DecodesFront}
use Rattle.utf_base.specs.Kinds.{is_continuation}
use Rattle.utf_base.proofs.BackLemmas.{answer_of_end, decoded_end_code, end_len_utf8, end_found, end_missed, end_missed-all, end_fault-some, no_whole_by_fault}
use Rattle.utf_base.proofs.DecodedLemmas.{front_len_utf8}
use Rattle.utf_base.proofs.EndLemmas.{back_kind-continuation, code_or_last_byte}
use Rattle.encode_unicode.specs.Scan.{IsScanned, IsWholeOrUnexpected}
use Rattle.encode_unicode.proofs.ItemCodes.{ends_taken, ends_there}
use Rattle.encode_unicode.specs.Window.{GivesBack}

-- A last byte that is no continuation byte is decoded without the bytes before it.

last_alone : (w : List ℕ) → 0 < length w → last_bytes 1 w ≡ last_of w ∷ []
last_alone w some = grind (arith, common_steps)

pub single_decides : (w : List ℕ) (r : Result (ℕ × ℕ) Utf8ErrorKind) → EndsInContinuationBytes w 0 → 0 < length w → DecodesFront as_scalar (last_bytes 1 w) r
    → DecodesEnd as_scalar w r
single_decides w (Ok (s, n)) scan some h =
    let len = front_len_utf8 (last_bytes 1 w) s n h in
    let one : length (last_bytes 1 w) ≡ 1 = ap length (last_alone w some) in
    let n_is : n ≡ 1 = omega (arith, len) in
    rw n_is (end_found w s 1 some (h.0, one ∙ sym n_is ∙ h.1))
single_decides w (Err k) scan some h =
    let none = end_missed w 0 scan (no_whole_by_fault (last_bytes 1 w) k h) in
    let alone = (code_or_last_byte.fault w some none).1 in
    let same = last_alone w some in
    (none, cc (h, same, alone) ∙ sym (end_fault-some w some))

-- If the last byte is a continuation byte, the only possible fault is that no code ends with it.

unexpected : (w : List ℕ) (t : ℕ) → EndsInContinuationBytes w t → 0 < t → end_fault w ≡ UnexpectedContinuationByte
unexpected w t scan some =
    let last = scan.continuation_bytes 0 some in
    let low : 0x80 ≤ last_of w = grind (arith, common_steps) in
    let high : last_of w < 0xC0 = grind (arith, common_steps) in
    end_fault-some w (omega arith) ∙ back_kind-continuation (last_of w) low high

pub whole_decides : (w : List ℕ) (t : ℕ) (r : Result (ℕ × ℕ) Utf8ErrorKind) → EndsInContinuationBytes w t → 0 < t → t < length w
    → IsWholeOrUnexpected (last_bytes (t + 1) w) r → DecodesEnd as_scalar w r
whole_decides w t (Ok (s, n)) scan some fits h =
    let len : length (last_bytes (t + 1) w) ≡ t + 1 = grind (arith, common_steps) in
    let n_is : n ≡ t + 1 = h.1 ∙ len in
    rw n_is (end_found w s (t + 1) (omega arith) h.0)
whole_decides w t (Err k) scan some fits h = (end_missed w t scan h.0, h.1 ∙ sym (unexpected w t scan some))

pub all_decides : (w : List ℕ) (t : ℕ) (k : Utf8ErrorKind) → EndsInContinuationBytes w t → 0 < t → length w ≤ t → k ≡ UnexpectedContinuationByte
    → NoCodeEnds utf8 w × (k ≡ end_fault w)
all_decides w t k scan some all e = (end_missed-all w t scan all, e ∙ sym (unexpected w t scan some))

-- The last bytes of a window as the end of four bytes, of which `count` are there.

pub record IsEndOfFour (b : List ℕ) (count : ℕ) : Type 0 where
  pub four : length b ≡ 4
  pub some : 1 ≤ count
  pub most : count ≤ 4

-- the byte at k from their end
at : (b : List ℕ) (count k : ℕ) → IsEndOfFour b count → k < count → get_or (drop (4 - count) b) (length (drop (4 - count) b) - 1 - k) 0 ≡ get_or b (3 - k) 0
at b count k e lt =
    grind (arith, common_steps)

length_of : (b : List ℕ) (count : ℕ) → IsEndOfFour b count → length (drop (4 - count) b) ≡ count
length_of b count e =
    grind (arith, common_steps)

-- the last n of them
part_of : (b : List ℕ) (count n : ℕ) → IsEndOfFour b count → n ≤ count → last_bytes n (drop (4 - count) b) ≡ take n (drop (4 - n) b)
part_of b count n e le =
    grind (arith, common_steps)

-- t continuation bytes, and before them, if there is one, a byte that is none
pub scanned : (b : List ℕ) (count t : ℕ) → IsEndOfFour b count → t ≤ 3 → t ≤ count
    → ((k : ℕ) → k < t → is_continuation (get_or b (3 - k) 0) ≡ true)
    → (t < 3 → t < count → is_continuation (get_or b (3 - t) 0) ≡ false)
    → EndsInContinuationBytes (drop (4 - count) b) t
scanned b count t e bound within continuation_bytes stops =
    let len = length_of b count e in
    record {
      bound = bound;
      within = omega arith;
      continuation_bytes = λ k lt. rw (at b count k e (omega arith)) (continuation_bytes k lt);
      stops = λ short fits. rw (at b count t e (omega arith)) (stops short (omega arith));
    }

below_1 : (P : ℕ → Type 0) → P 0 → (k : ℕ) → k < 1 → P k
below_1 P p0 zero lt = p0
below_1 P p0 (suc k) lt = absurd (omega arith)

below_2 : (P : ℕ → Type 0) → P 0 → P 1 → (k : ℕ) → k < 2 → P k
below_2 P p0 p1 zero lt = p0
below_2 P p0 p1 (suc k) lt = below_1 (λ k. P (suc k)) p1 k (omega arith)

below_3 : (P : ℕ → Type 0) → P 0 → P 1 → P 2 → (k : ℕ) → k < 3 → P k
below_3 P p0 p1 p2 zero lt = p0
below_3 P p0 p1 p2 (suc k) lt = below_2 (λ k. P (suc k)) p1 p2 k (omega arith)

pub scanned-0 : (b : List ℕ) (count : ℕ) → IsEndOfFour b count → is_continuation (get_or b 3 0) ≡ false → EndsInContinuationBytes (drop (4 - count) b) 0
scanned-0 b count e last = scanned b count 0 e (omega arith) (omega arith) (λ k lt. absurd (omega arith)) (λ short fits. last)

pub scanned-1 : (b : List ℕ) (count : ℕ) → IsEndOfFour b count → is_continuation (get_or b 3 0) ≡ true
    → (1 < count → is_continuation (get_or b 2 0) ≡ false) → EndsInContinuationBytes (drop (4 - count) b) 1
scanned-1 b count e last stops = scanned b count 1 e (omega arith) e.some (below_1 (λ k. is_continuation (get_or b (3 - k) 0) ≡ true) last) (λ short fits. stops fits)

pub scanned-2 : (b : List ℕ) (count : ℕ) → IsEndOfFour b count → 2 ≤ count → is_continuation (get_or b 3 0) ≡ true → is_continuation (get_or b 2 0) ≡ true
    → (2 < count → is_continuation (get_or b 1 0) ≡ false) → EndsInContinuationBytes (drop (4 - count) b) 2
scanned-2 b count e two last third stops =
    scanned b count 2 e (omega arith) two (below_2 (λ k. is_continuation (get_or b (3 - k) 0) ≡ true) last third) (λ short fits. stops fits)

pub scanned-3 : (b : List ℕ) (count : ℕ) → IsEndOfFour b count → 3 ≤ count → is_continuation (get_or b 3 0) ≡ true → is_continuation (get_or b 2 0) ≡ true
    → is_continuation (get_or b 1 0) ≡ true → EndsInContinuationBytes (drop (4 - count) b) 3
scanned-3 b count e three last third second =
    scanned b count 3 e (omega arith) three (below_3 (λ k. is_continuation (get_or b (3 - k) 0) ≡ true) last third second) (λ short fits. absurd (omega arith))

-- The number of steps that were taken.

looked : (w : List ℕ) (t old new : ℕ) → 0 < length w → EndsInContinuationBytes w t → new ≡ old + min (t + 1) (length w) → IsScanned w old new
looked w t old new some scan e =
    let least : 1 ≤ min (t + 1) (length w) = grind (arith, common_steps) in
    let most : min (t + 1) (length w) ≤ 4 = grind (arith, common_steps) in
    let within : min (t + 1) (length w) ≤ length w = grind (arith, common_steps) in
    record { least = omega arith; most = omega arith; within = omega arith; exact = (t, scan, omega arith) }

-- a byte before the last that continue
pub four_looked : (b : List ℕ) (count t old new : ℕ) → IsEndOfFour b count → EndsInContinuationBytes (drop (4 - count) b) t → t < count → new ≡ old + (t + 1)
    → IsScanned (drop (4 - count) b) old new
four_looked b count t old new e scan fits taken =
    let len = length_of b count e in
    let all : min (t + 1) (length (drop (4 - count) b)) ≡ t + 1 = grind (arith, common_steps) in
    looked (drop (4 - count) b) t old new (omega arith) scan (omega arith)

-- no other byte
pub four_looked-all : (b : List ℕ) (count old new : ℕ) → IsEndOfFour b count → EndsInContinuationBytes (drop (4 - count) b) count → new ≡ old + count
    → IsScanned (drop (4 - count) b) old new
four_looked-all b count old new e scan taken =
    let len = length_of b count e in
    let all : min (count + 1) (length (drop (4 - count) b)) ≡ count = grind (arith, common_steps) in
    looked (drop (4 - count) b) count old new (omega arith) scan (omega arith)

-- The result of the scan.

pub four_single : (b : List ℕ) (count : ℕ) (r : Result (ℕ × ℕ) Utf8ErrorKind) → IsEndOfFour b count → is_continuation (get_or b 3 0) ≡ false
    → DecodesFront as_scalar (take 1 (drop 3 b)) r → DecodesEnd as_scalar (drop (4 - count) b) r
four_single b count r e last h =
    let some = e.some in
    let len = length_of b count e in
    single_decides (drop (4 - count) b) r (scanned-0 b count e last) (omega arith) (rw (part_of b count 1 e e.some) h)

pub four_whole : (b : List ℕ) (count t : ℕ) (r : Result (ℕ × ℕ) Utf8ErrorKind) → IsEndOfFour b count → 0 < t → t < count → EndsInContinuationBytes (drop (4 - count) b) t
    → IsWholeOrUnexpected (take (t + 1) (drop (4 - (t + 1)) b)) r → DecodesEnd as_scalar (drop (4 - count) b) r
four_whole b count t r e some fits scan h =
    let len = length_of b count e in
    whole_decides (drop (4 - count) b) t r scan some (omega arith) (rw (part_of b count (t + 1) e (omega arith)) h)

pub four_all : (b : List ℕ) (count : ℕ) (k : Utf8ErrorKind) → IsEndOfFour b count → EndsInContinuationBytes (drop (4 - count) b) count → k ≡ UnexpectedContinuationByte
    → NoCodeEnds utf8 (drop (4 - count) b) × (k ≡ end_fault (drop (4 - count) b))
four_all b count k e scan h =
    let some = e.some in
    let len = length_of b count e in
    all_decides (drop (4 - count) b) count k scan some (omega arith) h

pub last_two : (b : List ℕ) → length b ≡ 4 → take 2 (drop 2 b) ≡ get_or b 2 0 ∷ get_or b 3 0 ∷ []
last_two b e = grind (arith, common_steps)

pub last_three : (b : List ℕ) → length b ≡ 4 → take 3 (drop 1 b) ≡ get_or b 1 0 ∷ get_or b 2 0 ∷ get_or b 3 0 ∷ []
last_three b e = grind (arith, common_steps)

pub take_four : (b : List ℕ) → length b ≡ 4 → take 4 (drop 0 b) ≡ b
take_four b e = grind (arith, common_steps)

-- the last four bytes of four or more
pub last_four : (w : List ℕ) → 4 ≤ length w
    → last_bytes 4 w ≡ get_or w (length w - 4) 0 ∷ get_or w (length w - 3) 0 ∷ get_or w (length w - 2) 0 ∷ get_or w (length w - 1) 0 ∷ []
last_four w le =
    let third : length w - 4 + 1 ≡ length w - 3 = omega arith in
    let second : length w - 3 + 1 ≡ length w - 2 = omega arith in
    let first : length w - 2 + 1 ≡ length w - 1 = omega arith in
    let end : length w - 1 + 1 ≡ length w = omega arith in
    grind (arith, common_steps)

-- a scan of the last four bytes is one of all
pub last_four_scanned : (w : List ℕ) (old new : ℕ) → 4 ≤ length w → IsScanned (last_bytes 4 w) old new → IsScanned w old new
last_four_scanned w old new le s =
    let least = s.least in
    let most = s.most in
    let four : length (last_bytes 4 w) ≡ 4 = grind (arith, common_steps) in
    let t = s.exact.0 in
    let scan = s.exact.1 in
    let bound = scan.bound in
    let at : (k : ℕ) → k < 4 → get_or (last_bytes 4 w) (length (last_bytes 4 w) - 1 - k) 0 ≡ get_or w (length w - 1 - k) 0 = λ k lt. grind (arith, common_steps) in
    let same : min (t + 1) (length (last_bytes 4 w)) ≡ min (t + 1) (length w) = grind (arith, common_steps) in
    let all : EndsInContinuationBytes w t = record {
      bound = bound;
      within = omega arith;
      continuation_bytes = λ k lt. rw (at k (omega arith)) at (scan.continuation_bytes k lt);
      stops = λ short fits. rw (at t (omega arith)) at (scan.stops short (omega arith));
    } in
    record { least = least; most = most; within = omega arith; exact = (t, all, s.exact.2 ∙ same) }

-- One call of a decoder, derived from the result of the scan.

pub gives_back_char : {whole : List ℕ} {i j s n : ℕ} → i < j → j ≤ length whole → EndsWith utf8 (slice_range whole i j) s n
    → GivesBack (record { whole = whole; front = i; back = j }) (j - n, Ok s, n) (record { whole = whole; front = i; back = j - n })
gives_back_char {whole} {i} {j} {s} {n} some fits h =
    let len = end_len_utf8 (slice_range whole i j) s n h in
    let elements : length (slice_range whole i j) ≡ j - i = grind (arith, common_steps) in
    record {
      some = some;
      place = omega arith;
      piece = h;
      known = rw (decoded_end_code (slice_range whole i j) s n h) refl;
      len = len;
      left = refl;
      taken = ends_taken utf8 (slice_range whole i j) s n h;
      there = ends_there utf8 whole i j s n some fits len.2 h;
    }

pub gives_back_fault : (whole : List ℕ) (i j : ℕ) (k : Utf8ErrorKind) → i < j → j ≤ length whole → NoCodeEnds utf8 (slice_range whole i j) × (k ≡ end_fault (slice_range whole i j))
    → GivesBack (record { whole = whole; front = i; back = j }) (j - 1, Err k, 1) (record { whole = whole; front = i; back = j - 1 })
gives_back_fault whole i j k some fits h =
    let elements : length (slice_range whole i j) ≡ j - i = grind (arith, common_steps) in
    record {
      some = some;
      place = omega arith;
      piece = (h.0, h.1 ∙ end_fault-some (slice_range whole i j) (omega arith), refl);
      known = rw (← answer_of_end (slice_range whole i j) (Err k) h) refl;
      len = (omega arith, omega arith, omega arith);
      left = refl;
      taken = tt;
      there = tt;
    }
