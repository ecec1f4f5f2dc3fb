-- The text of a window, from one mark to the next: what its masks say of the bytes that are replaced together.
use Rattle.std.proofs.Common.{◌≡◌, ◌↔◌, ℕ, zero, suc, ◌+◌, ◌-◌, ◌*◌, ◌/◌, ◌^◌, ◌<◌, ◌≤◌, Bool, false, true, List, length, drop, Option, None, arith, refl, ap, sym, ◌∙◌, inl, inr, lit<, min, bit_and, w64, eq-zero-or-pos}
use Rattle.std.proofs.lemmas.Bool.{cases_eq, cases_lt}
use Rattle.std.proofs.lemmas.Nat.Bits.{bit_at-lt, bit_at-trailing_zeros, bit_at-zero, bit_at_above, bit_at_and, bit_at_not}
use Rattle.std.specs.Int.{bit_at, bit_not, trailing_zeros}
use Rattle.std.specs.Prelude.{slice_range}
use Rattle.utf_base.specs.Code.{utf8}
use Rattle.utf_base.specs.Piece.{Covered, Inside, IsPieceAt}
use Rattle.utf_base.proofs.CutChanges.{piece_ends_outside}
use Rattle.utf_base.proofs.PartLists.{part_in_list}
use Rattle.utf_base.proofs.Standing.{Stands-at}
use Rattle.utf_base.proofs.Utf8Code.{utf8_is_code}
use Rattle.utf_lanes.specs.FaultMasks.{AreJudged, AreSetWhere, GoesOn}
use Rattle.utf_lanes.specs.Mending.{AreJoined, IsJoined, IsMark, IsMendedAt, Mends, MendsFront}
use Rattle.utf_lanes.proofs.FaultPlaces.{fault_of_all, outside_on}
use Rattle.utf_lanes.proofs.FaultSubparts.{is_subpart}
use Rattle.utf_lanes.proofs.FaultWindows.{of_part, part_len}
use Rattle.utf_lanes.proofs.MaskBits.{shr_bit, unset}
use Rattle.utf_lanes.proofs.MendedTexts.{text_between}

-- The byte before one that goes on is a fault too.

module _ (xs : List ℕ) (k : ℕ) (g : GoesOn xs k) where
  uncovered : Covered utf8 xs (k - 1) → ⊥
  uncovered v =
      let lt = g.fault.0 in
      let before = g.before in
      let begins = v.begins in
      let ends = v.ends in
      let f = g.front in
      let within = f.within in
      let len = part_len xs g.from k lt f in
      let some = utf8_is_code.some v.char v.stands.scalar in
      elim (cases_lt k (v.from + length (utf8 v.char))) [
        | inl over ↦ g.fault.2 (record { from = v.from; char = v.char; stands = v.stands; begins = omega arith; ends = over })
        | inr not_over ↦
            elim (cases_lt v.from g.from) [
              | inl earlier ↦
                  let inner = Stands-at utf8 xs v.from v.char (g.from - v.from) g.from (omega arith) v.stands (omega arith) in
                  let first = of_part xs g.from k lt f 0 g.from (omega arith) (omega arith) in
                  utf8_is_code.apart v.char f.char (g.from - v.from) v.stands.scalar f.scalar (omega arith) (omega arith) (sym inner ∙ first)
              | inr ge ↦ elim (cases_eq v.from g.from) [
                | inl same ↦
                    let here = Stands-at utf8 xs v.from v.char 0 g.from (omega arith) v.stands some in
                    let first = of_part xs g.from k lt f 0 g.from (omega arith) (omega arith) in
                    let sizes = utf8_is_code.sized v.char f.char v.stands.scalar f.scalar (sym here ∙ first) in
                    omega arith
                | inr other ↦
                    let here = Stands-at utf8 xs v.from v.char 0 v.from (omega arith) v.stands some in
                    let inner = of_part xs g.from k lt f (v.from - g.from) v.from (omega arith) (omega arith) in
                    utf8_is_code.apart f.char v.char (v.from - g.from) f.scalar v.stands.scalar (omega arith) (omega arith) (sym inner ∙ here)
              ]
            ]
      ]

  goes_on_after : (0 < k) × IsPieceAt utf8 xs (k - 1) 1 None
  goes_on_after = let lt = g.fault.0 in let before = g.before in (omega arith, (omega arith, refl, uncovered))

joined_after : (subparts : Bool) (xs : List ℕ) (k : ℕ) → IsJoined subparts xs k → (0 < k) × IsPieceAt utf8 xs (k - 1) 1 None
joined_after false xs k h = absurd h
joined_after true xs k h = goes_on_after xs k h

joined_fault : (subparts : Bool) (xs : List ℕ) (k : ℕ) → IsJoined subparts xs k → IsPieceAt utf8 xs k 1 None
joined_fault false xs k h = absurd h
joined_fault true xs k h = h.fault

not_joined_first : (subparts : Bool) (xs : List ℕ) → IsJoined subparts xs 0 → ⊥
not_joined_first false xs h = h
not_joined_first true xs h = let before = h.before in omega arith

-- without a mark there is no fault
no_fault : (subparts : Bool) (xs : List ℕ) (from m : ℕ) → (IsJoined subparts xs from → ⊥) → ((k : ℕ) → from ≤ k → k < m → IsMark subparts xs k → ⊥) → (n : ℕ) → from + n < m → IsPieceAt utf8 xs (from + n) 1 None → ⊥
no_fault subparts xs from m fresh none zero lt h =
    let at : from + 0 ≡ from = omega arith in
    none (from + 0) (omega arith) lt (record { fault = h; first = λ j. fresh (rw at at j) })
no_fault subparts xs from m fresh none (suc n) lt h =
    let at : from + suc n - 1 ≡ from + n = omega arith in
    none (from + suc n) (omega arith) lt (record {
      fault = h;
      first = λ j. no_fault subparts xs from m fresh none n (omega arith) (rw at at ((joined_after subparts xs (from + suc n) j).1));
    })

halved : (n : ℕ) → n < 2 ^ 64 → n / 2 ^ 1 < 2 ^ 63
halved n lt = omega arith

not_fits : (n : ℕ) → bit_not w64 n < 2 ^ 64
not_fits n = omega arith

-- The marks of a window, and how many bytes are replaced together.

module _ (xs : List ℕ) (len wide wrong later none : ℕ) (judged : AreJudged xs len wide wrong later none) where
  pub marks_of_faults : AreSetWhere 64 wrong (λ k. (k < len) × IsMark false xs k)
  marks_of_faults k lt =
      let told = judged.faults k lt in (
        λ one. let h = told.0 one in (h.0, record { fault = h.1; first = λ j. j }),
        λ h. told.1 (h.0, h.1.fault),
      )

  pub marks_of_subparts : later < 2 ^ 64 → AreSetWhere 64 (bit_and wrong (bit_not w64 later)) (λ k. (k < len) × IsMark true xs k)
  marks_of_subparts fits k lt =
      let told = judged.faults k lt in
      let on = judged.inner k lt in
      let bits : bit_at (bit_and wrong (bit_not w64 later)) k ≡ min (bit_at wrong k) (1 - bit_at later k) = bit_at_and wrong (bit_not w64 later) k ∙ ap (min (bit_at wrong k)) (bit_at_not w64 later k fits lt) in
      let low = bit_at-lt wrong k in
      let low2 = bit_at-lt later k in (
        λ one.
            let set : bit_at wrong k ≡ 1 = omega arith in
            let clear : bit_at later k ≡ 0 = omega arith in
            let h = told.0 set in
            (h.0, record { fault = h.1; first = λ j. let one2 = on.1 (h.0, j) in omega arith }),
        λ h.
            let set = told.1 (h.0, h.1.fault) in
            let clear = unset later k (λ one. h.1.first (on.0 one).1) in
            omega arith,
      )

  pub joined_faults : (k : ℕ) → k < len → AreJoined false xs k 1 × (k + 1 ≤ len)
  joined_faults k lt = (record { some = omega arith; all = λ i more less. absurd (omega arith); last = λ j. j }, omega arith)

  module _ (k : ℕ) (small : k < 64) (lt : k < len) (fits : later < 2 ^ 64) (rest : later / 2 ^ k < 2 ^ 64) where
    abbrev after : ℕ
    after = later / 2 ^ k / 2 ^ 1

    abbrev clear : ℕ
    clear = bit_not w64 after

    after_bit : (i : ℕ) → bit_at after i ≡ bit_at later (i + 1 + k)
    after_bit i = shr_bit (later / 2 ^ k) 1 i ∙ shr_bit later k (i + 1)

    half : after < 2 ^ 63
    half = halved (later / 2 ^ k) rest

    wide_after : after < 2 ^ 64
    wide_after = omega (arith, half)

    clear_bit : (i : ℕ) → i < 64 → bit_at clear i ≡ 1 - bit_at after i
    clear_bit i less = bit_at_not w64 after i wide_after less

    some_clear : 0 < clear
    some_clear = elim (eq-zero-or-pos clear) [
      | inl z ↦
          let none_set : bit_at clear 63 ≡ 0 = ap (λ m. bit_at m 63) z ∙ bit_at-zero 63 in
          let top = bit_at_above after 63 63 half (omega arith) in
          let one = clear_bit 63 (lit< tt) in
          absurd (omega arith)
      | inr some ↦ some
    ]

    clear_fits : clear < 2 ^ 64
    clear_fits = not_fits after

    pub joined_subparts : AreJoined true xs k (1 + trailing_zeros w64 clear) × (k + (1 + trailing_zeros w64 clear) ≤ len)
    joined_subparts =
        let t = trailing_zeros w64 clear in
        let z = bit_at-trailing_zeros w64 clear some_clear clear_fits in
        let few : t < 64 = z.0 in
        let most = judged.most in
        let set : (i : ℕ) → i < t → bit_at later (i + 1 + k) ≡ 1 = λ i less.
        let nought = z.2 i less in
        let bit = clear_bit i (omega arith) in
        let low = bit_at-lt after i in
        sym (after_bit i) ∙ omega arith in
        let on : (i : ℕ) → i < t → (i + 1 + k < len) × GoesOn xs (i + 1 + k) = λ i less.
        elim (cases_lt (i + 1 + k) 64) [
          | inl l ↦ (judged.inner (i + 1 + k) l).0 (set i less)
          | inr ge ↦ (let high = bit_at_above later 64 (i + 1 + k) fits ge in let one = set i less in absurd (omega arith))
        ] in
        let within : k + (1 + t) ≤ len = elim (eq-zero-or-pos t) [
          | inl e ↦ omega arith
          | inr some ↦ (let last = (on (t - 1) (omega arith)).0 in omega arith)
        ] in
        let stop : GoesOn xs (k + (1 + t)) → ⊥ = λ h.
        elim (cases_lt (k + (1 + t)) len) [
          | inl less ↦
              let one = (judged.inner (k + (1 + t)) (omega arith)).1 (less, h) in
              let at : t + 1 + k ≡ k + (1 + t) = omega arith in
              let bit = clear_bit t few in
              let same : bit_at after t ≡ 1 = after_bit t ∙ ap (bit_at later) at ∙ one in
              let set_there = z.1 in
              omega arith
          | inr ge ↦ (let e : k + (1 + t) ≡ len = omega arith in judged.parts (rw e at h))
        ] in (
          record {
            some = omega arith;
            all = λ i more less.
                let at : i - k - 1 + 1 + k ≡ i = omega arith in
                rw at at ((on (i - k - 1) (omega arith)).1);
            last = stop;
          },
          within,
        )

-- In a window: up to an offset the text is written, and the marks from there on are left.
pub record InWindow (subparts : Bool) (shown : ℕ → Option ℕ) (xs : List ℕ) (start len at : ℕ) (made : List ℕ) (marks read count replaced : ℕ) : Type 0 where
  pub front : MendsFront subparts shown xs made read count replaced
  pub least : start ≤ read
  pub most : read ≤ start + len
  pub outside : Inside utf8 xs read → ⊥
  pub fresh : IsJoined subparts (drop start xs) (read - start) → ⊥
  pub fits : marks < 2 ^ 64
  pub left : (k : ℕ) → k < 64 → bit_at marks k ≡ 1 ↔ (read ≤ start + k) × (k < len) × IsMark subparts (drop start xs) k
  pub room : count ≤ at + 3 * (read - start)

pub window_begins : (subparts : Bool) (shown : ℕ → Option ℕ) (xs made : List ℕ) (start len marks at replaced : ℕ) → marks < 2 ^ 64 → (Inside utf8 xs start → ⊥) → MendsFront subparts shown xs made start at replaced
    → AreSetWhere 64 marks (λ k. (k < len) × IsMark subparts (drop start xs) k) → InWindow subparts shown xs start len at made marks start at replaced
window_begins subparts shown xs made start len marks at replaced fits outside front told =
    let none : start - start ≡ 0 = omega arith in
    record {
      front = front;
      least = omega arith;
      most = omega arith;
      outside = outside;
      fresh = λ j. not_joined_first subparts (drop start xs) (rw none at j);
      fits = fits;
      left = λ k lt. (λ one. let t = (told k lt).0 one in (omega arith, t.0, t.1), λ h. (told k lt).1 (h.1, h.2));
      room = omega arith;
    }

module _ (subparts : Bool) (shown : ℕ → Option ℕ) (xs : List ℕ) (start len at : ℕ) (le : start + 64 ≤ length xs) (few : len ≤ 64) (apart : Inside utf8 xs start → ⊥) where
  abbrev w : List ℕ
  w = drop start xs

  -- from one offset to another without a mark
  text_to : (read m : ℕ) → start ≤ read → read ≤ start + m → m ≤ len → (Inside utf8 xs read → ⊥) → (Inside utf8 xs (start + m) → ⊥) → (IsJoined subparts w (read - start) → ⊥)
      → ((k : ℕ) → read ≤ start + k → k < m → IsMark subparts w k → ⊥) → Mends subparts shown xs read (start + m) (slice_range xs read (start + m)) 0
  text_to read m least more less front back fresh none =
      text_between xs 64 read (start + m) (omega arith) more (omega arith) front back
      (λ p lo hi fault.
      let k = p - start in
      let from = read - start in
      let here : start + k ≡ p = omega arith in
      let there : from + (k - from) ≡ k = omega arith in
      let inner : IsPieceAt utf8 w k 1 None = (fault_of_all xs start (omega arith) apart k).1 (rw here fault) in
      no_fault subparts w from m fresh (λ j ge lt. none j (omega arith) lt) (k - from) (omega arith) (rw there inner))

  module _ (made : List ℕ) (marks read count replaced : ℕ) (h : InWindow subparts shown xs start len at made marks read count replaced) where
    -- The lowest mark: the text up to it, and what it replaces.
    pub record IsNext (m : ℕ) : Type 0 where
      pub ahead : read ≤ start + m
      pub below : m < len
      pub small : m < 64
      pub mark : IsMark subparts w m
      pub text : Mends subparts shown xs read (start + m) (slice_range xs read (start + m)) 0

    pub next_mark : 0 < marks → IsNext (trailing_zeros w64 marks)
    next_mark some =
        let m = trailing_zeros w64 marks in
        let z = bit_at-trailing_zeros w64 marks some h.fits in
        let small : m < 64 = z.0 in
        let first = (h.left m small).0 z.1 in
        let here : IsPieceAt utf8 xs (start + m) 1 None = (fault_of_all xs start (omega arith) apart m).0 first.2.fault in
        record {
          ahead = first.0;
          below = first.1;
          small = small;
          mark = first.2;
          text = text_to read m h.least first.0 (omega (arith, first.1)) h.outside (λ v. here.2 (record { from = v.from; char = v.char; stands = v.stands; begins = omega (arith, v.begins); ends = v.ends })) h.fresh
              (λ k lo less mark. let one = (h.left k (omega arith)).1 (lo, omega (arith, first.1), mark) in let nought = z.2 k less in omega arith);
        }

    -- where no mark is left
    pub last_text : marks ≡ 0 → (Inside utf8 w len → ⊥) → Mends subparts shown xs read (start + len) (slice_range xs read (start + len)) 0
    last_text z ends =
        text_to read len h.least h.most (omega arith) h.outside (outside_on xs start (omega arith) apart len ends) h.fresh
        (λ k lo less mark. let one = (h.left k (omega arith)).1 (lo, less, mark) in let nought : bit_at marks k ≡ 0 = ap (λ n. bit_at n k) z ∙ bit_at-zero k in omega arith)

  -- a mark and the bytes that are replaced with it
  last_fault : (m n : ℕ) → IsMark subparts w m → AreJoined subparts w m n → IsPieceAt utf8 w (m + n - 1) 1 None
  last_fault m n mark joined =
      let some = joined.some in
      elim (cases_eq n 1) [
        | inl e ↦ (let here : m + n - 1 ≡ m = omega arith in rw here mark.fault)
        | inr other ↦ joined_fault subparts w (m + n - 1) (joined.all (m + n - 1) (omega arith) (omega arith))
      ]

  pub ends_outside : (m n : ℕ) → IsMark subparts w m → AreJoined subparts w m n → Inside utf8 xs (start + m + n) → ⊥
  ends_outside m n mark joined v =
      let some = joined.some in
      let fault = (fault_of_all xs start (omega arith) apart (m + n - 1)).0 (last_fault m n mark joined) in
      let e : start + (m + n - 1) + 1 ≡ start + m + n = omega arith in
      piece_ends_outside utf8 utf8_is_code xs (start + (m + n - 1)) 1 None fault (rw e v)

  pub window_on : (made new : List ℕ) (marks later read count replaced m n end : ℕ) → InWindow subparts shown xs start len at made marks read count replaced → IsMark subparts w m → AreJoined subparts w m n → m + n ≤ len → read ≤ start + m → later < 2 ^ 64
      → ((k : ℕ) → bit_at later k ≡ 1 ↔ (bit_at marks k ≡ 1) × (m < k)) → MendsFront subparts shown xs new (start + m + n) end (replaced + n) → end ≤ count + (start + m - read) + 3
      → InWindow subparts shown xs start len at new later (start + m + n) end (replaced + n)
  window_on made new marks later read count replaced m n end h mark joined within ahead fits without front few_more =
      let some = joined.some in
      let room = h.room in
      let least = h.least in
      let from : start + m + n - start ≡ m + n = omega arith in
      record {
        front = front;
        least = omega arith;
        most = omega arith;
        outside = ends_outside m n mark joined;
        fresh = λ j. joined.last (rw from at j);
        fits = fits;
        left = λ k lt. (
          λ one.
              let both = (without k).0 one in
              let more = both.1 in
              let told = (h.left k lt).0 both.0 in (
                elim (cases_lt k (m + n)) [
                  | inl less ↦ absurd (told.2.first (joined.all k more less))
                  | inr ge ↦ omega arith
                ],
                told.1,
                told.2,
              ),
          λ told. (let lo = told.0 in (without k).1 ((h.left k lt).1 (omega arith, told.1, told.2), omega arith)),
        );
        room = omega arith;
      }

-- what is replaced together in a window, of all bytes
pub replaced_at : (subparts : Bool) (xs : List ℕ) (start m n : ℕ) → start ≤ length xs → (Inside utf8 xs start → ⊥) → IsMark subparts (drop start xs) m → AreJoined subparts (drop start xs) m n → IsMendedAt subparts xs (start + m) n None
replaced_at false xs start m n le apart mark joined =
    let some = joined.some in
    let one : n ≡ 1 = elim (cases_lt 1 n) [ inl more ↦ absurd (joined.all (m + 1) (omega arith) (omega arith)) | inr few ↦ omega arith ] in
    rw one ((fault_of_all xs start le apart m).0 mark.fault)
replaced_at true xs start m n le apart mark joined =
    part_in_list utf8 xs start m n None le (is_subpart (drop start xs) m n joined.some mark.fault mark.first joined.all joined.last)
