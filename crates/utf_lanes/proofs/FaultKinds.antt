-- The table of kinds: each entry is the kind by the first byte and by what follows it.
use Rattle.std.proofs.Common.{◌≡◌, ◌⊎◌, lit<, length-drop, ◌↔◌, ℕ, ◌+◌, ◌-◌, ◌*◌, ◌/◌, ◌%◌, ◌<◌, ◌≤◌, List, length, get_or, drop, map, arith, refl, sym, ap, ◌∙◌, Some, None, Bool, Option, true, false, ◌&&◌, ◌||◌, inl, inr, if◌then◌else◌, nat_lt, nat_le, ◌==◌, eqb, ltb}
use Rattle.std.proofs.lemmas.Bool.{cases_lt, cases_eq}
use Rattle.std.proofs.lemmas.Grind.{common_steps}
use Rattle.std.proofs.lemmas.List.{get_or-drop}
use Rattle.std.proofs.lemmas.List.FromFn.{get_or-map-range_with_len}
use Rattle.std.specs.List.{range_with_len}
use Rattle.utf_base.specs.declared.errors.Utf8ErrorKind.{Utf8ErrorKind}
use Rattle.utf_base.specs.declared.errors.Utf8ErrorKind.TheVariants.{NonUtf8Byte, UnexpectedContinuationByte, InterruptedSequence, OverlongEncoding, Utf16ReservedCodepoint, TooHighCodepoint}
use Rattle.utf_base.specs.Code.{utf8}
use Rattle.utf_base.specs.Kinds.{all_continue, fault_kind, is_continuation}
use Rattle.utf_base.specs.Piece.{IsPieceAt}
use Rattle.utf_base.specs.Scalar.{IsScalar}
use Rattle.utf_base.proofs.FrontLemmas.{asked-0, code_where_no_fault, least_value-below_3, least_value-3, least_value-4}
use Rattle.utf_base.proofs.KindCases.{Asks, Asks-2, Asks-3, Asks-4, Sums, Sums-2, Sums-3, Sums-4, kind-continuation, kind-never, kind-none, kind-overlong, kind-surrogate, kind-too_high}
use Rattle.utf_base.proofs.KindLemmas.{ascii_stands_alone}
use Rattle.utf_base.proofs.Rests.{stands_in_list}
use Rattle.utf_base.proofs.Utf8Code.{utf8_is_code}
use Rattle.utf_lanes.specs.declared.fault_masks.TheConstants.{KINDS}
use Rattle.utf_lanes.specs.FaultMasks.{Continues}
use Rattle.utf_lanes.specs.TextBlocks.{IsContinuation}

-- by the byte, and by whether it lacks a continuation byte (1) or not (0)
abbrev kind_by : ℕ → ℕ → Utf8ErrorKind
kind_by b n =
    if nat_lt b 0xC0 then UnexpectedContinuationByte
    else if nat_lt b 0xC2 || nat_le 0xF5 b then NonUtf8Byte
    else if n == 1 then InterruptedSequence
    else if b == 0xE0 || b == 0xF0 then OverlongEncoding
    else if b == 0xED then Utf16ReservedCodepoint
    else if b == 0xF4 then TooHighCodepoint
    else InterruptedSequence

-- The whole table, computed.
kinds : KINDS ≡ map (λ i. kind_by (0x80 + i % 0x80) (i / 0x80)) (range_with_len 0 256)
kinds = refl

table_at : (b n : ℕ) (d : Utf8ErrorKind) → 0x80 ≤ b → b < 256 → n < 2 → get_or KINDS (b - 0x80 + 0x80 * n) d ≡ kind_by b n
table_at b n d high fits few =
    let i = b - 0x80 + 0x80 * n in
    let byte : 0x80 + i % 0x80 ≡ b = omega arith in
    let half : i / 0x80 ≡ n = omega arith in
    ap (λ xs. get_or xs i d) kinds ∙ get_or-map-range_with_len (λ i. kind_by (0x80 + i % 0x80) (i / 0x80)) 0 256 i i d (omega arith) (omega arith) ∙ rw (byte, half) refl

continuation : (b : ℕ) → IsContinuation b → is_continuation b ≡ true
continuation b h = grind (arith, common_steps)

no_continuation : (b : ℕ) → is_continuation b ≡ true → IsContinuation b
no_continuation b e = (grind (arith, common_steps), grind (arith, common_steps))

-- the value of three bytes, and of four
abbrev of_three : ℕ → ℕ → ℕ → ℕ
of_three b c d = (b - 0xE0) * 4096 + (c - 0x80) * 64 + (d - 0x80)

abbrev of_four : ℕ → ℕ → ℕ → ℕ → ℕ
of_four b c d e = (b - 0xF0) * 262144 + (c - 0x80) * 4096 + (d - 0x80) * 64 + (e - 0x80)

-- where all bytes are there that the first asks for, but one does not continue
interrupted_by : (w : List ℕ) (m : ℕ) → Asks w m → m ≤ length w → all_continue w ≡ false → fault_kind w ≡ Some InterruptedSequence
unfolding fault_kind
interrupted_by w m a within e =
    let some = a.some in
    let positive = a.positive in
    let not_empty : eqb (length w) 0 ≡ false = grind (arith, common_steps) in
    let occurs : eqb m 0 ≡ false = grind (arith, common_steps) in
    let short : ltb (length w) m ≡ false = grind (arith, common_steps) in
    rw (e, not_empty, a.first, a.asks, occurs, short) refl

module _ (w : List ℕ) (enough : 4 ≤ length w) (n : ℕ) (few : n < 2) (told : 0xC2 ≤ get_or w 0 0 → n ≡ 0 ↔ Continues w 0) (k : Utf8ErrorKind) (fault : fault_kind w ≡ Some k) where
  is : (x : Utf8ErrorKind) → fault_kind w ≡ Some x → k ≡ x
  is x e = let both : Some k ≡ Some x = sym fault ∙ e in grind arith

  sound : fault_kind w ≡ None → ⊥
  sound e = let both : Some k ≡ None = sym fault ∙ e in grind arith

  -- a byte that is asked for is none that continues
  broken : (m : ℕ) → Asks w m → m ≤ length w → 0xC2 ≤ get_or w 0 0 → n ≡ 1 → (all_continue w ≡ true → Continues w 0) → k ≡ InterruptedSequence
  broken m a within high one all = by (all_continue w) refl
    where
      by : (c : Bool) → all_continue w ≡ c → k ≡ InterruptedSequence
      by true e = let zero = (told high).1 (all e) in absurd (omega arith)
      by false e = is InterruptedSequence (interrupted_by w m a within e)

  interrupted : n ≡ 1 → 0xC2 ≤ get_or w 0 0 → get_or w 0 0 < 0xF5 → kind_by (get_or w 0 0) n ≡ InterruptedSequence
  interrupted e low high = grind (arith, common_steps)

  stray : 0x80 ≤ get_or w 0 0 → get_or w 0 0 < 0xC0 → k ≡ kind_by (get_or w 0 0) n
  stray low high = let e : kind_by (get_or w 0 0) n ≡ UnexpectedContinuationByte = grind (arith, common_steps) in is _ (kind-continuation w (omega arith) low high) ∙ sym e

  never : (0xC0 ≤ get_or w 0 0) × (get_or w 0 0 < 0xC2) ⊎ (0xF5 ≤ get_or w 0 0) → k ≡ kind_by (get_or w 0 0) n
  never (inl (low, high)) =
      let e : kind_by (get_or w 0 0) n ≡ NonUtf8Byte = grind (arith, common_steps) in
      let first : is_continuation (get_or w 0 0) ≡ false = grind (arith, common_steps) in
      is _ (kind-never w (omega arith) (asked-0 _ (inl (omega arith, high))) first) ∙ sym e
  never (inr low) =
      let e : kind_by (get_or w 0 0) n ≡ NonUtf8Byte = grind (arith, common_steps) in
      let first : is_continuation (get_or w 0 0) ≡ false = grind (arith, common_steps) in
      is _ (kind-never w (omega arith) (asked-0 _ (inr low)) first) ∙ sym e

  two : 0xC2 ≤ get_or w 0 0 → get_or w 0 0 < 0xE0 → k ≡ kind_by (get_or w 0 0) n
  two low high =
      let a = Asks-2 w (omega arith) low high in
      elim (cases_eq n 0) [
        | inl zero ↦
            let c = (told low).0 zero in
            let second = c.second in
            let v = (get_or w 0 0 - 0xC0) * 64 + (get_or w 1 0 - 0x80) in
            let any : 0 ≤ v = omega arith in
            let scalar : IsScalar v = record { below = omega arith; no_surrogate = λ g. omega arith } in
            absurd (sound (kind-none w 2 v (Sums-2 w v a (omega arith) (continuation _ c.second) refl) (rw (least_value-below_3 2 (lit< tt)) any) scalar))
        | inr other ↦
            let one : n ≡ 1 = omega arith in
            broken 2 a (omega arith) low one (λ e. record {
              second = no_continuation _ (let f = rw a.asks at e in grind (arith, common_steps));
              third = λ ge. absurd (omega arith);
              fourth = λ ge. absurd (omega arith);
            }) ∙ sym (interrupted one low (omega arith))
      ]

  three : 0xE0 ≤ get_or w 0 0 → get_or w 0 0 < 0xF0 → k ≡ kind_by (get_or w 0 0) n
  three low high =
      let a = Asks-3 w (omega arith) low high in
      elim (cases_eq n 0) [
        | inl zero ↦
            let c = (told (omega arith)).0 zero in
            let second = c.second in
            let third = c.third low in
            let both : (is_continuation (get_or w 1 0) && is_continuation (get_or w 2 0)) ≡ true = rw (continuation _ second, continuation _ third) refl in
            of_value zero (of_three (get_or w 0 0) (get_or w 1 0) (get_or w 2 0)) (Sums-3 w _ a (omega arith) both refl) refl second third
        | inr other ↦
            let one : n ≡ 1 = omega arith in
            broken 3 a (omega arith) (omega arith) one (λ e. record {
              second = no_continuation _ (let f = rw a.asks at e in grind (arith, common_steps));
              third = λ _. no_continuation _ (let f = rw a.asks at e in grind (arith, common_steps));
              fourth = λ ge. absurd (omega arith);
            }) ∙ sym (interrupted one (omega arith) (omega arith))
      ]
    where
      of_value : n ≡ 0 → (v : ℕ) → Sums w 3 v → v ≡ of_three (get_or w 0 0) (get_or w 1 0) (get_or w 2 0) → IsContinuation (get_or w 1 0) → IsContinuation (get_or w 2 0) → k ≡ kind_by (get_or w 0 0) n
      of_value zero v s sum second third = elim (cases_lt v 0x800) [
        | inl less ↦
            let byte : get_or w 0 0 ≡ 0xE0 = omega arith in
            let e : kind_by (get_or w 0 0) n ≡ OverlongEncoding = rw (byte, zero) refl in
            is _ (kind-overlong w 3 v s (rw least_value-3 less)) ∙ sym e
        | inr enough ↦ elim (cases_lt v 0xD800) [
          | inl before ↦ absurd (sound (kind-none w 3 v s (rw least_value-3 enough) (record { below = omega arith; no_surrogate = λ g. omega arith })))
          | inr from ↦ elim (cases_lt v 0xE000) [
            | inl within ↦
                let byte : get_or w 0 0 ≡ 0xED = omega arith in
                let e : kind_by (get_or w 0 0) n ≡ Utf16ReservedCodepoint = rw (byte, zero) refl in
                is _ (kind-surrogate w 3 v s (rw least_value-3 enough) from within) ∙ sym e
            | inr past ↦ absurd (sound (kind-none w 3 v s (rw least_value-3 enough) (record { below = omega arith; no_surrogate = λ g. omega arith })))
          ]
        ]
      ]

  four : 0xF0 ≤ get_or w 0 0 → get_or w 0 0 < 0xF5 → k ≡ kind_by (get_or w 0 0) n
  four low high =
      let a = Asks-4 w (omega arith) low high in
      elim (cases_eq n 0) [
        | inl zero ↦
            let c = (told (omega arith)).0 zero in
            let second = c.second in
            let third = c.third (omega arith) in
            let fourth = c.fourth low in
            let all : (is_continuation (get_or w 1 0) && is_continuation (get_or w 2 0) && is_continuation (get_or w 3 0)) ≡ true = rw (continuation _ second, continuation _ third, continuation _ fourth) refl in
            of_value zero (of_four (get_or w 0 0) (get_or w 1 0) (get_or w 2 0) (get_or w 3 0)) (Sums-4 w _ a (omega arith) all refl) refl second third fourth
        | inr other ↦
            let one : n ≡ 1 = omega arith in
            broken 4 a (omega arith) (omega arith) one (λ e. record {
              second = no_continuation _ (let f = rw a.asks at e in grind (arith, common_steps));
              third = λ _. no_continuation _ (let f = rw a.asks at e in grind (arith, common_steps));
              fourth = λ _. no_continuation _ (let f = rw a.asks at e in grind (arith, common_steps));
            }) ∙ sym (interrupted one (omega arith) high)
      ]
    where
      of_value : n ≡ 0 → (v : ℕ) → Sums w 4 v → v ≡ of_four (get_or w 0 0) (get_or w 1 0) (get_or w 2 0) (get_or w 3 0) → IsContinuation (get_or w 1 0) → IsContinuation (get_or w 2 0) → IsContinuation (get_or w 3 0)
          → k ≡ kind_by (get_or w 0 0) n
      of_value zero v s sum second third fourth = elim (cases_lt v 0x1_0000) [
        | inl less ↦
            let byte : get_or w 0 0 ≡ 0xF0 = omega arith in
            let e : kind_by (get_or w 0 0) n ≡ OverlongEncoding = rw (byte, zero) refl in
            is _ (kind-overlong w 4 v s (rw least_value-4 less)) ∙ sym e
        | inr enough ↦ elim (cases_lt v 0x11_0000) [
          | inl within ↦ absurd (sound (kind-none w 4 v s (rw least_value-4 enough) (record { below = omega arith; no_surrogate = λ g. omega arith })))
          | inr past ↦
              let byte : get_or w 0 0 ≡ 0xF4 = omega arith in
              let e : kind_by (get_or w 0 0) n ≡ TooHighCodepoint = rw (byte, zero) refl in
              is _ (kind-too_high w 4 v s (rw least_value-4 enough) past) ∙ sym e
        ]
      ]

  kind_is : 0x80 ≤ get_or w 0 0 → k ≡ kind_by (get_or w 0 0) n
  kind_is low = elim (cases_lt (get_or w 0 0) 0xC0) [
    | inl less ↦ stray low less
    | inr a ↦ elim (cases_lt (get_or w 0 0) 0xC2) [
      | inl less ↦ never (inl (a, less))
      | inr b ↦ elim (cases_lt (get_or w 0 0) 0xE0) [
        | inl less ↦ two b less
        | inr c ↦ elim (cases_lt (get_or w 0 0) 0xF0) [
          | inl less ↦ three c less
          | inr d ↦ elim (cases_lt (get_or w 0 0) 0xF5) [ inl less ↦ four d less | inr e ↦ never (inr e) ]
        ]
      ]
    ]
  ]

-- A fault of some bytes from a place on.
module _ (xs : List ℕ) (i : ℕ) (fault : IsPieceAt utf8 xs i 1 None) where
  -- it is not ASCII
  pub not_ascii : 0x80 ≤ get_or xs i 0
  not_ascii = elim (cases_lt (get_or xs i 0) 0x80) [
    | inr ge ↦ ge
    | inl low ↦ (let (stands, len) = ascii_stands_alone xs i fault.0 low in absurd (fault.2 (record { from = i; char = get_or xs i 0; stands = stands; begins = omega arith; ends = omega (arith, len) })))
  ]

  pub some_kind : (found : Option Utf8ErrorKind) → fault_kind (drop i xs) ≡ found → (k : Utf8ErrorKind) × (fault_kind (drop i xs) ≡ Some k)
  some_kind (Some k) e = (k, e)
  some_kind None e =
      let (stands, len) = code_where_no_fault (drop i xs) e in
      let within = fault.0 in
      let there = stands_in_list utf8 xs i 0 i _ (omega arith) (omega arith) stands in
      absurd (fault.2 (record { from = i; char = _; stands = there; begins = omega arith; ends = omega (arith, utf8_is_code.some _ there.scalar) }))

  continue_on : Continues xs i ↔ Continues (drop i xs) 0
  continue_on =
      let at : (j m : ℕ) → i + j ≡ m → get_or (drop i xs) j 0 ≡ get_or xs m 0 = λ j m e. get_or-drop i xs j 0 ∙ ap (λ n. get_or xs n 0) e in (
        λ c. record {
          second = rw (at 1 (i + 1) refl) c.second;
          third = rw (at 0 i (omega arith), at 2 (i + 2) refl) c.third;
          fourth = rw (at 0 i (omega arith), at 3 (i + 3) refl) c.fourth;
        },
        λ c. record {
          second = rw (at 1 (i + 1) refl) at c.second;
          third = rw (at 0 i (omega arith), at 2 (i + 2) refl) at c.third;
          fourth = rw (at 0 i (omega arith), at 3 (i + 3) refl) at c.fourth;
        },
      )

  -- the entry of the table is its kind
  pub kind_in_table : (n : ℕ) (d : Utf8ErrorKind) → i + 4 ≤ length xs → get_or xs i 0 < 256 → n < 2 → (0xC2 ≤ get_or xs i 0 → n ≡ 0 ↔ Continues xs i) → fault_kind (drop i xs) ≡ Some (get_or KINDS (get_or xs i 0 - 0x80 + 0x80 * n) d)
  kind_in_table n d enough fits few told =
      let byte : get_or (drop i xs) 0 0 ≡ get_or xs i 0 = get_or-drop i xs 0 0 ∙ (let e : i + 0 ≡ i = omega arith in ap (λ n. get_or xs n 0) e) in
      let (k, e) = some_kind (fault_kind (drop i xs)) refl in
      let same = kind_is (drop i xs) (omega (arith, length-drop i xs)) n few (rw byte (λ high. (λ z. continue_on.0 ((told high).0 z), λ c. (told high).1 (continue_on.1 c)))) k e (rw byte not_ascii) in
      e ∙ ap (λ x. Some x) (same ∙ ap (λ b. kind_by b n) byte ∙ sym (table_at (get_or xs i 0) n d not_ascii fits few))
