-- The faults by windows: those after text, and those of a window from one fault to the next.
use Rattle.std.proofs.Common.{◌≡◌, ◌↔◌, ℕ, zero, suc, ◌+◌, ◌-◌, ◌^◌, ◌<◌, ◌≤◌, List, length, length-drop, length-take, drop, set, Option, Some, None, Ok, Err, arith, refl, ap, sym, ◌∙◌, inl, inr, w64, subst}
use Rattle.std.proofs.lemmas.Bool.{cases_lt, cases_eq}
use Rattle.std.proofs.lemmas.List.{drop-drop, get_or-drop, get_or-take}
use Rattle.std.proofs.lemmas.Nat.Bits.{bit_at-trailing_zeros, bit_at-zero}
use Rattle.std.specs.Int.{bit_at, trailing_zeros}
use Rattle.std.specs.Prelude.{IsUtf8, slice_range, take}
use Rattle.utf_base.specs.Code.{utf8}
use Rattle.utf_base.specs.Decoded.{decoded}
use Rattle.utf_base.specs.Kinds.{fault_kind, value}
use Rattle.utf_base.specs.Piece.{Inside, IsPieceAt, Stands}
use Rattle.utf_base.specs.declared.errors.Utf8ErrorKind.{Utf8ErrorKind}
use Rattle.utf_base.proofs.CutChanges.{piece_ends_outside}
use Rattle.utf_base.proofs.DecodedLemmas.{decoded_code}
use Rattle.utf_base.proofs.FrontLemmas.{code_where_no_fault, no_code_where_fault}
use Rattle.utf_base.proofs.Rests.{stands_in_list, stands_in_rest}
use Rattle.utf_base.proofs.Standing.{outside_after, outside_front}
use Rattle.utf_base.proofs.Utf8Code.{utf8_is_code}
use Rattle.utf_base.proofs.Walks.{piece_over}
use Rattle.utf_lanes.specs.AsciiTexts.{AreAscii}
use Rattle.utf_lanes.specs.FaultMasks.{AreJudged}
use Rattle.utf_lanes.proofs.AsciiTexts.{ascii_text}
use Rattle.utf_lanes.proofs.FaultKinds.{some_kind}
use Rattle.encode_unicode.specs.Window.{Placed, as_piece}
use Rattle.encode_unicode.proofs.ForCallers.{some_bytes}
use Rattle.recoding.proofs.FirstFaults.{IsGoodTo}
use Rattle.recoding.proofs.GoodCodes.{good_text}
use Rattle.text_stream.specs.FaultLists.{BeginsFault, IsSoFar}
use Rattle.text_stream.proofs.FoundFaults.{so_far_fault, so_far_on}
use Rattle.text_runs.proofs.FaultLemmas.{char_step, faults_by}

-- what is wrong with the bytes that a fault begins
pub fault_known : (w : List ℕ) (k : Utf8ErrorKind) → fault_kind w ≡ Some k → as_piece (decoded w) ≡ (Err k, 1)
unfolding decoded
fault_known w k e = rw e refl

module _ (xs : List ℕ) (place : ℕ) where
  abbrev rest : List ℕ
  rest = drop place xs

  -- One character, where a code begins: from there on, and from its end on, there are the same faults.
  record OneCode (j m : ℕ) : Type 0 where
    len : ℕ
    some : 0 < len
    fits : j + len ≤ m
    next : Inside utf8 rest (j + len) → ⊥
    same : faults_by decoded (place + j) (drop j rest) ≡ faults_by decoded (place + (j + len)) (drop (j + len) rest)

  one_code : (j m : ℕ) → j < m → m ≤ length rest → (Inside utf8 rest j → ⊥) → (Inside utf8 rest m → ⊥) → (IsPieceAt utf8 rest j 1 None → ⊥) → (found : Option Utf8ErrorKind) → fault_kind (drop j rest) ≡ found → OneCode j m
  one_code j m lt most front back none (Some k) e = absurd (none (
    omega arith,
    refl,
    λ v.
        let begins = v.begins in
        elim (cases_eq v.from j) [
          | inl same ↦ no_code_where_fault (drop j rest) k v.char e (stands_in_rest utf8 rest j 0 v.from v.char (omega arith) v.stands)
          | inr other ↦ front (record { from = v.from; char = v.char; stands = v.stands; begins = omega arith; ends = v.ends })
        ],
  ))
  one_code j m lt most front back none None e =
      let stands = (code_where_no_fault (drop j rest) e).0 in
      let s = value (drop j rest) in
      let there : Stands utf8 rest j s = stands_in_list utf8 rest j 0 j s (omega arith) (omega arith) stands in
      let n = length (utf8 s) in
      let known : as_piece (decoded (drop j rest)) ≡ (Ok s, n) = ap as_piece (decoded_code (drop j rest) s stands) in
      let at : place + j + n ≡ place + (j + n) = omega arith in
      record {
        len = n;
        some = utf8_is_code.some s there.scalar;
        fits = piece_over utf8 rest j n (Some s) m (there, refl) back lt;
        next = outside_after utf8 utf8_is_code rest j s there;
        same = char_step decoded some_bytes (place + j) (drop j rest) s n (omega (arith, length-drop j rest)) known
            ∙ ap (faults_by decoded (place + j + n)) (drop-drop n j rest) ∙ ap (λ p. faults_by decoded p (drop (j + n) rest)) at;
      }

  -- from one place to another, with no fault between them
  pub pass : (fuel j m : ℕ) → m ≤ j + fuel → j ≤ m → m ≤ length rest → (Inside utf8 rest j → ⊥) → (Inside utf8 rest m → ⊥) → ((k : ℕ) → j ≤ k → k < m → IsPieceAt utf8 rest k 1 None → ⊥)
      → faults_by decoded (place + j) (drop j rest) ≡ faults_by decoded (place + m) (drop m rest)
  pass zero j m few le most front back none = (let e : j ≡ m = omega arith in ap (λ n. faults_by decoded (place + n) (drop n rest)) e)
  pass (suc fuel) j m few le most front back none = elim (cases_lt j m) [
    | inr ge ↦ (let e : j ≡ m = omega arith in ap (λ n. faults_by decoded (place + n) (drop n rest)) e)
    | inl lt ↦
        let one = one_code j m lt most front back (none j (omega arith) lt) (fault_kind (drop j rest)) refl in
        let some = one.some in
        one.same ∙ pass fuel (j + one.len) m (omega arith) one.fits most one.next back (λ k more less. none k (omega arith) less)
  ]

module _ {P : Type 0} (made : Placed Utf8ErrorKind → P) (xs : List ℕ) (start : ℕ) (old : List P) where
  -- after text
  pub so_far_good : (new : List P) (place n wrote : ℕ) → IsSoFar made decoded xs start old new place wrote → IsGoodTo utf8 (drop place xs) n → IsSoFar made decoded xs start old new (place + n) wrote
  so_far_good new place n wrote h good =
      let within = h.within in
      let least = good.within in
      let left = length-drop place xs in
      let at : place + 0 ≡ place = omega arith in
      let same = pass xs place n 0 n (omega arith) (omega arith) good.within (outside_front utf8 (drop place xs)) good.outside (λ k more less p. let ge = good.none (record { start = k; len = 1; char = None }) p refl in omega arith) in
      so_far_on made decoded some_bytes xs old new place wrote (place + n) h (omega arith) (ap (λ p. faults_by decoded p (drop place xs)) (sym at) ∙ same ∙ ap (faults_by decoded (place + n)) (drop-drop n place xs))

  -- Inside of a window, of which the first len bytes are judged: up to a place, those faults are written which `marks` has no longer.
  pub record IsInWindow (new : List P) (place len faults marks wrote : ℕ) : Type 0 where
    pub from : ℕ
    pub le : from ≤ len
    pub outside : Inside utf8 (drop place xs) from → ⊥
    pub so_far : IsSoFar made decoded xs start old new (place + from) wrote
    pub fits : marks < 2 ^ 64
    pub left : (k : ℕ) → k < 64 → bit_at marks k ≡ 1 ↔ (from ≤ k) × (bit_at faults k ≡ 1)

  pub window_begins : (new : List P) (place len faults wrote : ℕ) → faults < 2 ^ 64 → IsSoFar made decoded xs start old new place wrote → IsInWindow new place len faults faults wrote
  window_begins new place len faults wrote fits h =
      let at : place ≡ place + 0 = omega arith in
      record {
        from = 0;
        le = omega arith;
        outside = outside_front utf8 (drop place xs);
        so_far = subst (λ p. IsSoFar made decoded xs start old new p wrote) at h;
        fits = fits;
        left = λ k lt. (λ one. (omega arith, one), λ both. both.1);
      }

  module _ (place len wide faults inner none : ℕ) (within : place + 64 ≤ length xs) (judged : AreJudged (drop place xs) len wide faults inner none) where
    -- with no fault from a place on and before another
    on : (new : List P) (from m wrote : ℕ) → from ≤ m → m ≤ len → (Inside utf8 (drop place xs) from → ⊥) → (Inside utf8 (drop place xs) m → ⊥) → IsSoFar made decoded xs start old new (place + from) wrote
        → ((k : ℕ) → from ≤ k → k < m → bit_at faults k ≡ 1 → ⊥) → IsSoFar made decoded xs start old new (place + m) wrote
    on new from m wrote le most front back h unset =
        let few = judged.most in
        let left = length-drop place xs in
        let same = pass xs place m from m (omega arith) le (omega arith) front back (λ k more less p. unset k more less ((judged.faults k (omega arith)).1 (omega arith, p))) in
        so_far_on made decoded some_bytes xs old new (place + from) wrote (place + m) h (omega arith)
        (ap (faults_by decoded (place + from)) (sym (drop-drop from place xs)) ∙ same ∙ ap (faults_by decoded (place + m)) (drop-drop m place xs))

    -- where no mark is left, the window is done
    pub window_ends : (new : List P) (marks wrote : ℕ) → marks ≡ 0 → IsInWindow new place len faults marks wrote → IsSoFar made decoded xs start old new (place + len) wrote
    window_ends new marks wrote e h =
        let few = judged.most in
        on new h.from len wrote h.le (omega arith) h.outside judged.ends h.so_far
        (λ k more less set. let one = (h.left k (omega arith)).1 (more, set) in let nought : bit_at marks k ≡ 0 = ap (λ m. bit_at m k) e ∙ bit_at-zero k in omega arith)

    -- The lowest mark is at the next fault.
    pub record IsNext (new : List P) (from index wrote : ℕ) : Type 0 where
      pub ahead : from ≤ index
      pub below : index < len
      pub small : index < 64
      pub fault : IsPieceAt utf8 (drop place xs) index 1 None
      pub so_far : IsSoFar made decoded xs start old new (place + index) wrote

    pub next_fault : (new : List P) (marks wrote : ℕ) → 0 < marks → (h : IsInWindow new place len faults marks wrote) → IsNext new h.from (trailing_zeros w64 marks) wrote
    next_fault new marks wrote some h =
        let m = trailing_zeros w64 marks in
        let z = bit_at-trailing_zeros w64 marks some h.fits in
        let few : m < 64 = z.0 in
        let first = (h.left m few).0 z.1 in
        let fault = (judged.faults m few).0 first.1 in
        let none : (k : ℕ) → h.from ≤ k → k < m → bit_at faults k ≡ 1 → ⊥ = λ k more less set. let one = (h.left k (omega arith)).1 (more, set) in let nought = z.2 k less in omega arith in
        record {
          ahead = first.0;
          below = fault.0;
          small = few;
          fault = fault.1;
          so_far = on new h.from m wrote first.0 (omega (arith, fault.0)) h.outside (λ v. fault.1.2 (record { from = v.from; char = v.char; stands = v.stands; begins = omega (arith, v.begins); ends = v.ends })) h.so_far none;
        }

    -- it is written, and the others are left
    pub next_written : (new : List P) (marks later wrote : ℕ) (k : Utf8ErrorKind) (piece : P) → 0 < marks → later < 2 ^ 64 → IsInWindow new place len faults marks wrote
        → fault_kind (drop (place + trailing_zeros w64 marks) xs) ≡ Some k → (wrote ≡ length new → ⊥) → piece ≡ made (place + trailing_zeros w64 marks, Err k, 1)
        → ((i : ℕ) → bit_at later i ≡ 1 ↔ (bit_at marks i ≡ 1) × (trailing_zeros w64 marks < i)) → IsInWindow (set new wrote piece) place len faults later (wrote + 1)
    next_written new marks later wrote k piece some small h kind room is without =
        let m = trailing_zeros w64 marks in
        let n = next_fault new marks wrote some h in
        let same = n.so_far.len in
        let capacity = n.so_far.fits in
        let ahead = n.ahead in
        let below = n.below in
        let few = judged.most in
        let left = length-drop (place + m) xs in
        let at : place + m + 1 ≡ place + (m + 1) = omega arith in
        record {
          from = m + 1;
          le = omega arith;
          outside = piece_ends_outside utf8 utf8_is_code (drop place xs) m 1 None n.fault;
          so_far = subst (λ p. IsSoFar made decoded xs start old (set new wrote piece) p (wrote + 1)) at
              (so_far_fault made decoded some_bytes xs old new (place + m) wrote 1 k piece n.so_far (omega arith) (fault_known (drop (place + m) xs) k kind) (omega arith) (omega arith) is);
          fits = small;
          left = λ i lt. (
            λ set. (let both = (without i).0 set in let more = both.1 in (omega arith, ((h.left i lt).0 both.0).1)),
            λ both. (let more = both.0 in (without i).1 ((h.left i lt).1 (omega arith, both.1), omega arith)),
          );
        }

-- ASCII from one place to another is text
pub ascii_part : (xs : List ℕ) (place end : ℕ) → place ≤ end → end ≤ length xs → AreAscii xs place end → IsUtf8 (slice_range xs place end)
ascii_part xs place end le within ascii =
    let n = end - place in
    let rest = drop place xs in
    let len : length (take n rest) ≡ n = omega (arith, length-take n rest, length-drop place xs) in
    ascii_text (take n rest) (λ k least lt. rw (get_or-take n rest k 0 (omega arith), get_or-drop place xs k 0) (ascii (place + k) (omega arith) (omega arith)))

-- a fault that is not written yet begins what is left
pub stops_at : (xs : List ℕ) (place index : ℕ) → IsPieceAt utf8 (drop place xs) index 1 None → BeginsFault (drop (place + index) xs)
stops_at xs place index fault = rw (drop-drop index place xs) at (some_kind (drop place xs) index fault (fault_kind (drop index (drop place xs))) refl)

-- after text up to a place
pub so_far_text_to : {P : Type 0} (made : Placed Utf8ErrorKind → P) (xs : List ℕ) (start : ℕ) (old new : List P) (place end wrote : ℕ) → IsSoFar made decoded xs start old new place wrote → place ≤ end → end ≤ length xs → IsUtf8 (slice_range xs place end)
    → IsSoFar made decoded xs start old new end wrote
so_far_text_to made xs start old new place end wrote h le within text =
    let n = end - place in
    let at : place + n ≡ end = omega arith in
    let good = good_text (drop place xs) n (omega (arith, length-drop place xs)) text in
    subst (λ p. IsSoFar made decoded xs start old new p wrote) at (so_far_good made xs start old new place n wrote h good)
