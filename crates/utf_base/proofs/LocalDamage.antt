-- Damage stays local: a code that covers an offset far enough from a change lies in a part that did not
-- change.
use Rattle.std.proofs.Common.{◌≡◌, ℕ, zero, suc, ◌+◌, ◌-◌, ◌<◌, ◌≤◌, List, [], ◌∷◌, ◌++◌, length, get_or, take, drop, arith, refl, ap, sym, ◌∙◌, append_assoc, length-append, Some, None, Option, lit<}
use Rattle.std.proofs.lemmas.Grind.{common_steps}
use Rattle.std.proofs.lemmas.List.{take_at, take_rest, drop_at, drop-drop, drop-append-le, take-append-le}
use Rattle.std.proofs.lemmas.Slice.{between_from_start}
use Rattle.std.specs.Prelude.{◌↔◌, slice_range}
use Rattle.utf_base.specs.declared.errors.Utf8ErrorKind.TheVariants.{UnexpectedContinuationByte}
use Rattle.utf_base.specs.Code.{utf8, utf16, IsCode}
use Rattle.utf_base.specs.Kinds.{fault_kind}
use Rattle.utf_base.specs.LocalLaws.{FrontStays, RestStays, DamageIsLocal}
use Rattle.utf_base.specs.Piece.{Stands, Covered, IsPieceAt}
use Rattle.utf_base.specs.Units.{unit_fault_kind}
use Rattle.utf_base.proofs.FrontLemmas.{no_code_where_fault}
use Rattle.utf_base.proofs.KindLemmas.{four_bytes_decide}
use Rattle.utf_base.proofs.Standing.{stands_in_part, stands_in_whole}
use Rattle.utf_base.proofs.UnitLemmas.{two_units_decide}
use Rattle.utf_base.proofs.Utf8Code.{utf8_is_code, length_utf8}
use Rattle.utf_base.proofs.Utf16Code.{utf16_is_code, length_utf16}

-- Two lists with a part in common: the offsets from i to j of xs hold what those from k to l of ys hold.
record SamePart (xs : List ℕ) (i j : ℕ) (ys : List ℕ) (k l : ℕ) : Type 0 where
  pub first_in_order : i ≤ j
  pub first_within : j ≤ length xs
  pub second_in_order : k ≤ l
  pub second_within : l ≤ length ys
  pub equal : slice_range xs i j ≡ slice_range ys k l

same_part : {xs : List ℕ} {i j : ℕ} {ys : List ℕ} {k l : ℕ} (zs : List ℕ) → i ≤ j → j ≤ length xs → k ≤ l → l ≤ length ys
    → slice_range xs i j ≡ zs → slice_range ys k l ≡ zs → SamePart xs i j ys k l
same_part zs o w p q e f = record { first_in_order = o; first_within = w; second_in_order = p; second_within = q; equal = e ∙ sym f }

SamePart-sym : (xs : List ℕ) (i j : ℕ) (ys : List ℕ) (k l : ℕ) → SamePart xs i j ys k l → SamePart ys k l xs i j
SamePart-sym xs i j ys k l same = same_part _ same.second_in_order same.second_within same.first_in_order same.first_within (sym same.equal) refl

length-range : (xs : List ℕ) (i j : ℕ) → j ≤ length xs → length (slice_range xs i j) ≡ j - i
length-range xs i j h = grind (arith, common_steps)

-- each code that is in xs over the offset q lies between the offsets i and j
abbrev LieBetween : (ℕ → List ℕ) → List ℕ → ℕ → ℕ → ℕ → Type 0
LieBetween code xs i j q = (from s : ℕ) → Stands code xs from s → from ≤ q → q < from + length (code s) → (i ≤ from) × (from + length (code s) ≤ j)

-- a code in the part of one list is in the part of the other
stands_over : (code : ℕ → List ℕ) (xs : List ℕ) (i j : ℕ) (ys : List ℕ) (k l p q r s : ℕ) → SamePart xs i j ys k l → i + p ≡ q → k + p ≡ r → Stands code xs q s
    → q + length (code s) ≤ j → Stands code ys r s
stands_over code xs i j ys k l p q r s same e f h fits =
    let part = stands_in_part code xs i j p q s e same.first_within h fits in
    (stands_in_whole code ys k l p r s f same.second_in_order same.second_within (rw same.equal at part)).0

-- a piece in the part of one list is a piece of the other
piece_over : (code : ℕ → List ℕ) → IsCode code → (xs : List ℕ) (i j : ℕ) (ys : List ℕ) (k l p q r n : ℕ) (char : Option ℕ) → SamePart xs i j ys k l → i + p ≡ q → k + p ≡ r
    → LieBetween code xs i j q → LieBetween code ys k l r → (q < length xs → q < j) → IsPieceAt code xs q n char → IsPieceAt code ys r n char
piece_over code c xs i j ys k l p q r n (Some s) same e f of_x of_y lt h =
    let some = c.some s h.0.scalar in
    (stands_over code xs i j ys k l p q r s same e f h.0 (of_x q s h.0 (omega arith) (omega arith)).1, h.1)
piece_over code c xs i j ys k l p q r n None same e f of_x of_y lt h =
    let within = lt h.0 in
    let len = ap length same.equal in
    let of_first = length-range xs i j same.first_within in
    let of_second = length-range ys k l same.second_within in
    let uncovered : Covered code ys r → ⊥ = λ v.
    let w = of_y v.from v.char v.stands v.begins v.ends in
    let begins = v.begins in
    let ends = v.ends in
    let stands = stands_over code ys k l xs i j (v.from - k) v.from (i + (v.from - k)) v.char (SamePart-sym xs i j ys k l same) (omega arith) refl v.stands w.1 in
    h.2 (record { from = i + (v.from - k); char = v.char; stands = stands; begins = omega arith; ends = omega arith }) in
    (omega arith, h.1, uncovered)

same_pieces : (code : ℕ → List ℕ) → IsCode code → {xs : List ℕ} {i j : ℕ} {ys : List ℕ} {k l : ℕ} (p q r : ℕ) → SamePart xs i j ys k l → i + p ≡ q → k + p ≡ r
    → LieBetween code xs i j q → LieBetween code ys k l r → (q < length xs → q < j) → (r < length ys → r < l)
    → (n : ℕ) (char : Option ℕ) → IsPieceAt code xs q n char ↔ IsPieceAt code ys r n char
same_pieces code c {xs} {i} {j} {ys} {k} {l} p q r same e f of_x of_y lt gt n char = (
  piece_over code c xs i j ys k l p q r n char same e f of_x of_y lt,
  piece_over code c ys k l xs i j p r q n char (SamePart-sym xs i j ys k l same) f e of_y of_x gt,
)

-- The front that a change leaves, and the rest.

same_front : (front old new rest : List ℕ) → SamePart (front ++ old ++ rest) 0 (length front) (front ++ new ++ rest) 0 (length front)
same_front front old new rest =
    let part : (mid : List ℕ) → slice_range (front ++ mid ++ rest) 0 (length front) ≡ front = λ mid.
    rw append_assoc (between_from_start (front ++ (mid ++ rest)) (length front) ∙ take_at front (mid ++ rest) (length front) refl) in
    let long : (mid : List ℕ) → length front ≤ length (front ++ mid ++ rest) = λ mid. omega (arith, length-append (front ++ mid) rest, length-append front mid) in
    same_part front (omega arith) (long old) (omega arith) (long new) (part old) (part new)

same_rest : (front old new rest : List ℕ)
    → SamePart (front ++ old ++ rest) (length front + length old) (length (front ++ old ++ rest)) (front ++ new ++ rest) (length front + length new) (length (front ++ new ++ rest))
same_rest front old new rest =
    let part : (mid : List ℕ) → slice_range (front ++ mid ++ rest) (length front + length mid) (length (front ++ mid ++ rest)) ≡ rest = λ mid.
    take_rest (front ++ mid ++ rest) (length front + length mid) ∙ drop_at (front ++ mid) rest (length front + length mid) (length-append front mid) in
    let long : (mid : List ℕ) → length front + length mid ≤ length (front ++ mid ++ rest) = λ mid. omega (arith, length-append (front ++ mid) rest, length-append front mid) in
    same_part rest (long old) (omega arith) (long new) (omega arith) (part old) (part new)

-- the rest from an offset of the front on begins with elements of the front
front_of_left : (m : ℕ) (front mid rest : List ℕ) (p : ℕ) → p + m ≤ length front → take m (drop p (front ++ mid ++ rest)) ≡ take m (drop p front)
front_of_left m front mid rest p h =
    let lo : p ≤ length front = omega arith in
    let hi : m ≤ length (drop p front) = grind (arith, common_steps) in
    rw (append_assoc, drop-append-le p front (mid ++ rest) lo) (take-append-le m (drop p front) (mid ++ rest) hi)

left_of_rest : (front mid rest : List ℕ) (p : ℕ) → drop (length front + length mid + p) (front ++ mid ++ rest) ≡ drop p rest
left_of_rest front mid rest p =
    sym (drop-drop p (length front + length mid) (front ++ mid ++ rest))
    ∙ ap (λ xs. drop p xs) (drop_at (front ++ mid) rest (length front + length mid) (length-append front mid))

-- The law, if no code has more than m elements.

-- what a change leaves of the front, if the first m elements decide the kind
front_stays : {E : Type 0} (code : ℕ → List ℕ) → IsCode code → (kind : List ℕ → Option E) (m : ℕ) → 0 < m → ((s : ℕ) → length (code s) ≤ m)
    → ((w : List ℕ) → kind (take m w) ≡ kind w) → FrontStays code kind m
front_stays code c kind m some short decides front old new rest p h =
    let before : (xs : List ℕ) → LieBetween code xs 0 (length front) p = λ xs from s stands begins ends. let le = short s in (omega arith, omega arith) in
    record {
      pieces = same_pieces code c p p p (same_front front old new rest) (omega arith) (omega arith) (before _) (before _) (λ lt. omega arith) (λ lt. omega arith);
      kinds =
          sym (decides (drop p (front ++ old ++ rest)))
          ∙ ap kind (front_of_left m front old rest p h ∙ sym (front_of_left m front new rest p h))
          ∙ decides (drop p (front ++ new ++ rest));
    }

rest_stays : {E : Type 0} (code : ℕ → List ℕ) → IsCode code → (kind : List ℕ → Option E) (m : ℕ) → ((s : ℕ) → length (code s) ≤ m) → RestStays code kind m
rest_stays code c kind m short front old new rest p h =
    let following : (xs : List ℕ) (i : ℕ) → LieBetween code xs i (length xs) (i + p) = λ xs i from s stands begins ends.
    let le = short s in let within = stands.within in (omega arith, omega arith) in
    record {
      pieces = same_pieces code c p _ _ (same_rest front old new rest) refl refl (following _ _) (following _ _) (λ lt. lt) (λ lt. lt);
      kinds = ap kind (left_of_rest front old rest p ∙ sym (left_of_rest front new rest p));
    }

pub utf8_damage_is_local : DamageIsLocal utf8 fault_kind 4
utf8_damage_is_local = record {
  front = front_stays utf8 utf8_is_code fault_kind 4 (omega arith) length_utf8 four_bytes_decide;
  rest = rest_stays utf8 utf8_is_code fault_kind 4 length_utf8;
}

pub utf16_damage_is_local : DamageIsLocal utf16 unit_fault_kind 2
utf16_damage_is_local = record {
  front = front_stays utf16 utf16_is_code unit_fault_kind 2 (omega arith) length_utf16 two_units_decide;
  rest = rest_stays utf16 utf16_is_code unit_fault_kind 2 length_utf16;
}

-- Two changes of bytes whose effects extend as far as the bounds allow.

-- U+10000, with its last byte replaced
first_of_four : Stands utf8 (0xF0 ∷ 0x90 ∷ 0x80 ∷ 0x80 ∷ []) 0 0x1_0000
unfolding utf8
first_of_four = record { scalar = record { below = omega arith; no_surrogate = λ h. omega arith }; within = lit< tt; equal = refl }

pub front_is_reached : ¬ FrontStays utf8 fault_kind 3
unfolding utf8
front_is_reached h =
    let same = h (0xF0 ∷ 0x90 ∷ 0x80 ∷ []) (0x80 ∷ []) (0x58 ∷ []) [] 0 (omega arith) in
    let stands = ((same.pieces 4 (Some 0x1_0000)).0 (first_of_four, refl)).0 in
    let last : ◌≡◌ {A = ℕ} 0x58 0x80 = ap (λ xs. get_or xs 3 0) stands.equal in
    omega arith

-- the last three bytes of U+10000, with its first one put before them
abbrev last_three : List ℕ
last_three = 0x90 ∷ 0x80 ∷ 0x80 ∷ []

none_begins : (from s : ℕ) → from ≤ 2 → Stands utf8 last_three from s → ⊥
unfolding fault_kind
none_begins zero s le h = no_code_where_fault last_three UnexpectedContinuationByte s refl h
none_begins (suc zero) s le h = no_code_where_fault (drop 1 last_three) UnexpectedContinuationByte s refl (stands_in_part utf8 last_three 1 3 0 1 s refl (omega arith) h h.within)
none_begins (suc (suc zero)) s le h = no_code_where_fault (drop 2 last_three) UnexpectedContinuationByte s refl (stands_in_part utf8 last_three 2 3 0 2 s refl (omega arith) h h.within)
none_begins (suc (suc (suc from))) s le h = omega arith

pub rest_is_reached : ¬ RestStays utf8 fault_kind 3
unfolding utf8
rest_is_reached h =
    let same = h [] [] (0xF0 ∷ []) last_three 2 (omega arith) in
    let alone : IsPieceAt utf8 last_three 2 1 None = (omega arith, refl, λ v. none_begins v.from v.char v.begins v.stands) in
    let joined = (same.pieces 1 None).0 alone in
    joined.2 (record { from = 0; char = 0x1_0000; stands = first_of_four; begins = omega arith; ends = lit< tt })
