-- The code that a character keeps or lends decodes to the character.
use Rattle.std.proofs.Common.{◌≡◌, ℕ, ◌+◌, ◌-◌, ◌≤◌, List, [], ◌++◌, length, take, drop, Ok, true, refl, ap, sym, ◌∙◌, arith}
use Rattle.std.proofs.lemmas.List.{append-nil, take_at, take_rest}
use Rattle.std.specs.Prelude.{IfOk, Result, Err, replicate, slice_index, slice_range}
use Rattle.utf_base.specs.Scalar.{IsScalar}
use Rattle.utf_base.specs.Code.{utf8, utf16}
use Rattle.utf_base.specs.declared.errors.Utf8ErrorKind.{Utf8ErrorKind}
use Rattle.utf_base.specs.declared.errors.units.Utf16SliceError.{Utf16SliceError}
use Rattle.utf_base.specs.Decoded.{decoded, decoded_bytes, decoded_units, decoded_two}
use Rattle.utf_base.specs.Back.{decoded_end, decoded_units_end}
use Rattle.utf_base.specs.Ends.{EndsWith}
use Rattle.utf_base.specs.Front.{as_scalar, BeginsWith, DecodesFront, DecodesUnits, IsFrontLen}
use Rattle.utf_base.specs.Kinds.{value}
use Rattle.utf_base.specs.Piece.{Stands}
use Rattle.utf_base.specs.Units.{is_padded_units}
use Rattle.utf_base.proofs.DecodedLemmas.{decoded_code, decoded_bytes_code, decoded_units_code, decoded_two_code, front_len_utf8, front_len_utf16}
use Rattle.utf_base.proofs.BackLemmas.{decoded_end_code}
use Rattle.utf_base.proofs.UnitEnds.{decoded_units_end_code}
use Rattle.utf_base.proofs.Standing.{stands_first}
use Rattle.utf_chars.specs.Padded.{padded, IsPadded}
use Rattle.utf_chars.proofs.PaddedLemmas.{IsPadded_padded}
use Rattle.utf_chars.proofs.PaddedUnits.{padded_cases}

alone : (code : ℕ → List ℕ) (xs : List ℕ) (s : ℕ) → IsScalar s → xs ≡ code s → Stands code xs 0 s
alone code xs s h e = stands_first code xs [] s h (e ∙ sym (append-nil (code s)))

in_array : (code : ℕ → List ℕ) (places : ℕ) (xs : List ℕ) (s : ℕ) → IsScalar s → xs ≡ padded places (code s) → Stands code xs 0 s
unfolding padded
in_array code places xs s h e = stands_first code xs (replicate (places - length (code s)) 0) s h e

-- the results for a list that begins with a code of n elements, if no code has more than m
pub record OwnFront {E : Type 0} (decoder : List ℕ → Result (ℕ × ℕ) E) (m : ℕ) (xs : List ℕ) (s n : ℕ) : Type 0 where
  pub bounds : IsFrontLen m xs n
  pub decodes : decoder xs ≡ Ok (s, n)

pub own_front : (xs rest : List ℕ) (s n : ℕ) → IsScalar s → xs ≡ utf8 s ++ rest → n ≡ length (utf8 s) → OwnFront decoded 4 xs s n
own_front xs rest s n h e l =
    record { bounds = front_len_utf8 xs s n (stands_first utf8 xs rest s h e, l); decodes = decoded_code xs s (stands_first utf8 xs rest s h e) ∙ ap (λ k. Ok (s, k)) (sym l) }

-- a view of a code
pub own_view : (xs : List ℕ) (s : ℕ) → IsScalar s → xs ≡ utf8 s → OwnFront decoded 4 xs s (length xs)
own_view xs s h e = own_front xs [] s (length xs) h (e ∙ sym (append-nil (utf8 s))) (ap length e)

pub own_unit_front : (xs rest : List ℕ) (s n : ℕ) → IsScalar s → xs ≡ utf16 s ++ rest → n ≡ length (utf16 s) → OwnFront decoded_units 2 xs s n
own_unit_front xs rest s n h e l =
    record { bounds = front_len_utf16 xs s n (stands_first utf16 xs rest s h e, l); decodes = decoded_units_code xs s (stands_first utf16 xs rest s h e) ∙ ap (λ k. Ok (s, k)) (sym l) }

pub own_unit_view : (xs : List ℕ) (s : ℕ) → IsScalar s → xs ≡ utf16 s → OwnFront decoded_units 2 xs s (length xs)
own_unit_view xs s h e = own_unit_front xs [] s (length xs) h (e ∙ sym (append-nil (utf16 s))) (ap length e)

-- the results for an array that begins with a code of n bytes
pub record OwnArray (xs : List ℕ) (s n : ℕ) : Type 0 where
  pub front : take n xs ≡ utf8 s
  pub bounds : IsFrontLen 4 xs n
  pub own : IsPadded utf8 4 value xs
  pub decodes : decoded xs ≡ Ok (s, n)
  pub decodes_bytes : decoded_bytes xs ≡ Ok s
  pub decodes_front : decoded (take n xs) ≡ Ok (s, n)

pub own_array : (xs : List ℕ) (s n : ℕ) → IsScalar s → xs ≡ padded 4 (utf8 s) → n ≡ length (utf8 s) → OwnArray xs s n
unfolding padded
own_array xs s n h e l =
    let stands = in_array utf8 4 xs s h e in
    let front : take n xs ≡ utf8 s = rw (e, l) (take_at (utf8 s) (replicate (4 - length (utf8 s)) 0) _ refl) in
    let view = own_view (take n xs) s h front in
    record {
      front = front;
      bounds = front_len_utf8 xs s n (stands, l);
      own = IsPadded_padded xs s h e;
      decodes = decoded_code xs s stands ∙ ap (λ k. Ok (s, k)) (sym l);
      decodes_bytes = decoded_bytes_code xs s stands;
      decodes_front = view.decodes ∙ ap (λ k. Ok (s, k)) (ap length front ∙ sym l);
    }

-- the results for two units that are a code, followed by 0 if it has one unit
pub record OwnUnits (xs : List ℕ) (s : ℕ) : Type 0 where
  pub own : is_padded_units (slice_index xs 0) (slice_index xs 1) ≡ true
  pub decodes : decoded_two xs ≡ Ok s
  pub decodes_units : decoded_units xs ≡ Ok (s, length (utf16 s))

pub own_units : (xs : List ℕ) (s : ℕ) → IsScalar s → xs ≡ padded 2 (utf16 s) → OwnUnits xs s
own_units xs s h e =
    let stands = in_array utf16 2 xs s h e in
    record { own = padded_cases xs s h e; decodes = decoded_two_code xs s stands; decodes_units = decoded_units_code xs s stands }

-- The code at the front of a list, or at its end, decodes to the same separately.

front_code : (code : ℕ → List ℕ) (xs : List ℕ) (s n : ℕ) → BeginsWith code xs s n → take n xs ≡ code s
front_code code xs s n h =
    let span : n ≡ 0 + length (code s) - 0 = omega arith in
    ap (λ k. take k xs) span ∙ h.0.equal

pub front_alone : (xs : List ℕ) (s n : ℕ) → BeginsWith utf8 xs s n → decoded (take n xs) ≡ Ok (s, n)
front_alone xs s n h = let front = front_code utf8 xs s n h in rw (ap length front ∙ sym h.1) at (own_view (take n xs) s h.0.scalar front).decodes

pub unit_front_alone : (xs : List ℕ) (s n : ℕ) → BeginsWith utf16 xs s n → decoded_units (take n xs) ≡ Ok (s, n)
unit_front_alone xs s n h = let front = front_code utf16 xs s n h in rw (ap length front ∙ sym h.1) at (own_unit_view (take n xs) s h.0.scalar front).decodes

end_code : (code : ℕ → List ℕ) (xs : List ℕ) (s n : ℕ) → EndsWith code xs s n → drop (length xs - n) xs ≡ code s
end_code code xs s n h =
    let len = h.1 in
    let within = h.0.within in
    let end : length xs ≡ length xs - n + length (code s) = whole (length xs) n (length (code s)) len within in
    sym (take_rest xs (length xs - n)) ∙ ap (λ k. slice_range xs (length xs - n) k) end ∙ h.0.equal
  where
    whole : (all n m : ℕ) → n ≡ m → all - n + m ≤ all → all ≡ all - n + m
    whole all n m e h = omega arith

code_ends : (code : ℕ → List ℕ) (xs : List ℕ) (s n : ℕ) → IsScalar s → xs ≡ code s → n ≡ length (code s) → EndsWith code xs s n
code_ends code xs s n h e len =
    let zero : length xs - n ≡ 0 = omega (arith, ap length e) in
    (rw zero (alone code xs s h e), len)

-- the results for a list that ends with a code of n elements
pub record OwnEnd {E : Type 0} (decoder end_decoder : List ℕ → Result (ℕ × ℕ) E) (xs : List ℕ) (s n : ℕ) : Type 0 where
  pub exact : decoder xs ≡ Ok (s, n)
  pub exact_end : end_decoder xs ≡ Ok (s, n)

own_end : {E : Type 0} (code : ℕ → List ℕ) (decoder end_decoder : List ℕ → Result (ℕ × ℕ) E) → ((ys : List ℕ) (t : ℕ) → IsScalar t → ys ≡ code t → decoder ys ≡ Ok (t, length ys))
    → ((ys : List ℕ) (t k : ℕ) → EndsWith code ys t k → end_decoder ys ≡ Ok (t, k)) → (xs : List ℕ) (s n : ℕ) → EndsWith code xs s n → OwnEnd decoder end_decoder (drop (length xs - n) xs) s n
own_end code decoder end_decoder alone_decodes end_decodes xs s n h =
    let end = end_code code xs s n h in
    record {
      exact = alone_decodes _ s h.0.scalar end ∙ ap (λ k. Ok (s, k)) (ap length end ∙ sym h.1);
      exact_end = end_decodes _ s n (code_ends code _ s n h.0.scalar end h.1);
    }

pub end_alone : (xs : List ℕ) (s n : ℕ) → EndsWith utf8 xs s n → OwnEnd decoded decoded_end (drop (length xs - n) xs) s n
end_alone = own_end utf8 decoded decoded_end (λ ys t h e. (own_view ys t h e).decodes) decoded_end_code

pub unit_end_alone : (xs : List ℕ) (s n : ℕ) → EndsWith utf16 xs s n → OwnEnd decoded_units decoded_units_end (drop (length xs - n) xs) s n
unit_end_alone = own_end utf16 decoded_units decoded_units_end (λ ys t h e. (own_unit_view ys t h e).decodes) decoded_units_end_code

-- the results, as the methods of `char` state them
pub front_alone_of : (xs : List ℕ) (r : Result (ℕ × ℕ) Utf8ErrorKind) → DecodesFront as_scalar xs r → IfOk r (λ x. decoded (take x.1 xs) ≡ Ok (x.0, x.1))
front_alone_of xs (Ok (s, n)) h = front_alone xs s n h
front_alone_of xs (Err k) h = tt

pub unit_front_alone_of : (xs : List ℕ) (r : Result (ℕ × ℕ) Utf16SliceError) → DecodesUnits as_scalar xs r → IfOk r (λ x. decoded_units (take x.1 xs) ≡ Ok (x.0, x.1))
unit_front_alone_of xs (Ok (s, n)) h = unit_front_alone xs s n h
unit_front_alone_of xs (Err k) h = tt
