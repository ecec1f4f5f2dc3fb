-- The text of damaged bytes, one part after another.
use borrow.Rule.Slice.PartMut.{put_mid}
use Rattle.std.proofs.Common.{◌≡◌, ℕ, zero, suc, ◌+◌, ◌-◌, ◌*◌, ◌<◌, ◌≤◌, Bool, false, true, List, [], ◌∷◌, ◌++◌, length, get_or, drop, take, Option, Some, None, arith, refl, ap, ap₂, sym, subst, ◌∙◌, inl, inr, lit<, length-take, length-drop, length-append, append_assoc}
use Rattle.std.proofs.lemmas.Bool.{cases_eq, cases_lt}
use Rattle.std.proofs.lemmas.List.{append-nil, drop-drop}
use Rattle.std.proofs.lemmas.Slice.{drop-put_mid, take-put_mid}
use Rattle.std.proofs.lemmas.List.Concat.{flat_map-append}
use Rattle.std.proofs.lemmas.List.Elements.{All-append, All-cons, All-nil}
use Rattle.std.proofs.lemmas.List.Sums.{sum_by-append}
use Rattle.std.proofs.lemmas.List.{drop-take, drop_at, length-take-le, take-append-drop, take-take, take_at}
use Rattle.std.proofs.lemmas.Simd.{length-chunk, length-put_chunk, take_more_put_chunk}
use lib.Lanes.{chunk, put_chunk}
use Rattle.std.specs.Prelude.{flat_map, if◌then◌else◌, is_none, slice_range}
use Rattle.utf_base.specs.Code.{utf8}
use Rattle.utf_base.specs.CutLaws.{Follow}
use Rattle.utf_base.specs.Kinds.{fault_kind, value}
use Rattle.utf_base.specs.Piece.{Inside, IsPieceAt, Piece, Stands, end_of}
use Rattle.utf_base.specs.declared.errors.Utf8ErrorKind.{Utf8ErrorKind}
use Rattle.utf_base.proofs.CutChanges.{piece_ends_outside}
use Rattle.utf_base.proofs.FrontLemmas.{code_where_no_fault, no_code_where_fault}
use Rattle.utf_base.proofs.KindLemmas.{ascii_stands_alone}
use Rattle.utf_base.proofs.Rests.{stands_in_list, stands_in_rest}
use Rattle.utf_base.proofs.Standing.{outside_after}
use Rattle.utf_base.proofs.Utf8Code.{utf8_is_code}
use Rattle.utf_base.proofs.Walks.{piece_over}
use Rattle.utf_lanes.specs.Mending.{IsCodeShown, IsMendedAt, Mends, MendsFront, all_shown, invalid_bytes, scalars_of, shown_as, shown_code}

Follow-append : (i j k : ℕ) (ps qs : List Piece) → Follow i ps j → Follow j qs k → Follow i (ps ++ qs) k
Follow-append i j k [] qs f g = subst (λ n. Follow n qs k) (sym f) g
Follow-append i j k (x ∷ ps) qs f g = (f.0, Follow-append (end_of x) j k ps qs f.1 g)

invalid_bytes-append : (ps qs : List Piece) → invalid_bytes (ps ++ qs) ≡ invalid_bytes ps + invalid_bytes qs
invalid_bytes-append ps qs = sum_by-append (λ x. if is_none x.char then x.len else 0) ps qs

char_mended : (subparts : Bool) (xs : List ℕ) (p s : ℕ) → Stands utf8 xs p s → IsMendedAt subparts xs p (length (utf8 s)) (Some s)
char_mended false xs p s h = (h, refl)
char_mended true xs p s h = (h, refl)

module _ {subparts : Bool} {shown : ℕ → Option ℕ} {xs : List ℕ} where
  pub Mends-none : (i j : ℕ) → i ≡ j → Mends subparts shown xs i j [] 0
  Mends-none i j e = record { parts = []; each = All-nil (λ x. IsMendedAt subparts xs x.start x.len x.char); follow = e; text = refl; count = refl }

  -- one part after another
  pub Mends-then : {i j k m n : ℕ} {a b : List ℕ} → Mends subparts shown xs i j a m → Mends subparts shown xs j k b n → Mends subparts shown xs i k (a ++ b) (m + n)
  Mends-then {i} {j} {k} f g = record {
    parts = f.parts ++ g.parts;
    each = All-append (λ x. IsMendedAt subparts xs x.start x.len x.char) f.parts g.parts f.each g.each;
    follow = Follow-append i j k f.parts g.parts f.follow g.follow;
    text =
        ap₂ (λ a b. a ++ b) f.text g.text ∙ sym (flat_map-append utf8 (all_shown shown xs f.parts) (all_shown shown xs g.parts))
        ∙ ap (flat_map utf8) (sym (flat_map-append (λ (x : Piece). scalars_of (shown_as x.char (shown (get_or xs x.start 0)))) f.parts g.parts));
    count = ap₂ (λ a b. a + b) f.count g.count ∙ sym (invalid_bytes-append f.parts g.parts);
  }

  -- one character
  Mends-char : (p s : ℕ) → Stands utf8 xs p s → Mends subparts shown xs p (p + length (utf8 s)) (utf8 s) 0
  Mends-char p s h = record {
    parts = record { start = p; len = length (utf8 s); char = Some s } ∷ [];
    each = All-cons (λ x. IsMendedAt subparts xs x.start x.len x.char) _ [] (char_mended subparts xs p s h) (All-nil _);
    follow = (refl, refl);
    text = sym (append-nil (utf8 s));
    count = refl;
  }

  -- what is replaced together
  pub Mends-one : (p n : ℕ) → IsMendedAt subparts xs p n None → Mends subparts shown xs p (p + n) (flat_map utf8 (scalars_of (shown (get_or xs p 0)))) n
  Mends-one p n h = record {
    parts = record { start = p; len = n; char = None } ∷ [];
    each = All-cons (λ x. IsMendedAt subparts xs x.start x.len x.char) _ [] h (All-nil _);
    follow = (refl, refl);
    text = ap (flat_map utf8) (sym (append-nil (scalars_of (shown (get_or xs p 0)))));
    count = omega arith;
  }

  -- the text of more bytes was written after that of the first ones
  pub MendsFront-on : {made new : List ℕ} {read end len count replaced n : ℕ} {out : List ℕ} → MendsFront subparts shown xs made read len replaced → Mends subparts shown xs read end out n → take count new ≡ take len made ++ out
      → read ≤ end → end ≤ length xs → count ≤ length new → count ≤ len + 3 * (end - read) → n ≤ end - read → MendsFront subparts shown xs new end count (replaced + n)
  MendsFront-on f m e le within fits short few =
      let before = f.short in
      let fewer = f.few in
      record {
        mends = rw e (Mends-then f.mends m);
        within = within;
        fits = fits;
        short = omega arith;
        few = omega arith;
      }

  pub MendsFront-none : (made : List ℕ) → MendsFront subparts shown xs made 0 0 0
  MendsFront-none made = record { mends = Mends-none 0 0 refl; within = omega arith; fits = omega arith; short = omega arith; few = omega arith }

-- What is written.

-- the second of two vectors, after the first
pub two_chunks : (xs a b : List ℕ) (i j : ℕ) → i + length a ≡ j → j + length b ≤ length xs → take (j + length b) (put_chunk j (put_chunk i xs a) b) ≡ take i xs ++ (a ++ b)
two_chunks xs a b i j e room =
    let len = length-put_chunk i xs a in
    take_more_put_chunk j (put_chunk i xs a) b (j + length b) refl (omega arith)
    ∙ ap (λ ys. ys ++ b) (ap (λ k. take k (put_chunk i xs a)) (sym e) ∙ take_more_put_chunk i xs a (i + length a) refl (omega arith))
    ∙ append_assoc (take i xs) a b

take_more : (n m : ℕ) (xs : List ℕ) → take n xs ++ take m (drop n xs) ≡ take (n + m) xs
take_more n m xs = sym (ap₂ (λ ys zs. ys ++ zs) (take-take n (n + m) xs (omega arith)) (drop-take n m xs)) ∙ take-append-drop n (take (n + m) xs)

pub range_more : (xs : List ℕ) (i j k : ℕ) → i ≤ j → j ≤ k → slice_range xs i j ++ slice_range xs j k ≡ slice_range xs i k
range_more xs i j k le more =
    let at : i + (j - i) ≡ j = omega arith in
    let all : j - i + (k - j) ≡ k - i = omega arith in
    let at2 : j - i + i ≡ j = omega arith in
    ap (λ ys. take (j - i) (drop i xs) ++ take (k - j) ys) (sym (drop-drop (j - i) i xs ∙ ap (λ n. drop n xs) at)) ∙ take_more (j - i) (k - j) (drop i xs) ∙ ap (λ n. take n (drop i xs)) all

take_on : (p q : List ℕ) (n k : ℕ) → length p ≡ n → take (n + k) (p ++ q) ≡ p ++ take k q
take_on p q n k e = sym (take_more n k (p ++ q)) ∙ ap₂ (λ a b. a ++ take k b) (take_at p q n e) (drop_at p q n e)

-- of 64 bytes that were copied, the first are those that are wanted
pub copied : (xs old new : List ℕ) (at read end : ℕ) → read + 64 ≤ length xs → at ≤ length old → read ≤ end → end ≤ read + 64 → take (at + 64) new ≡ take at old ++ slice_range xs read (read + 64)
    → take (at + (end - read)) new ≡ take at old ++ slice_range xs read end
copied xs old new at read end within fits le few e =
    let n = end - read in
    let all : read + 64 - read ≡ 64 = omega arith in
    let part : take n (slice_range xs read (read + 64)) ≡ slice_range xs read end = ap (λ k. take n (take k (drop read xs))) all ∙ take-take n 64 (drop read xs) (omega arith) in
    sym (take-take (at + n) (at + 64) new (omega arith)) ∙ ap (take (at + n)) e
    ∙ take_on (take at old) (slice_range xs read (read + 64)) at n (omega (arith, length-take at old)) ∙ ap (λ ys. take at old ++ ys) part

-- Text between two offsets.

module _ (xs : List ℕ) where
  -- a code begins where no fault is, and no code lies over
  code_here : (j : ℕ) → j < length xs → (Inside utf8 xs j → ⊥) → (IsPieceAt utf8 xs j 1 None → ⊥) → (found : Option Utf8ErrorKind) → fault_kind (drop j xs) ≡ found → (s : ℕ) × Stands utf8 xs j s
  code_here j lt outside none (Some k) e = absurd (none (
    lt,
    refl,
    λ v.
        let begins = v.begins in
        elim (cases_eq v.from j) [
          | inl same ↦ no_code_where_fault (drop j xs) k v.char e (stands_in_rest utf8 xs j 0 v.from v.char (omega arith) v.stands)
          | inr other ↦ outside (record { from = v.from; char = v.char; stands = v.stands; begins = omega arith; ends = v.ends })
        ],
  ))
  code_here j lt outside none None e = (value (drop j xs), stands_in_list utf8 xs j 0 j (value (drop j xs)) (omega arith) (omega arith) (code_where_no_fault (drop j xs) e).0)

  -- ASCII is text, and ends it
  ascii_code : (p : ℕ) → p < length xs → get_or xs p 0 < 0x80 → IsPieceAt utf8 xs p 1 (Some (get_or xs p 0))
  ascii_code p lt low = ascii_stands_alone xs p lt low

  pub ascii_ends : (n : ℕ) → 0 < n → n ≤ length xs → get_or xs (n - 1) 0 < 0x80 → Inside utf8 xs n → ⊥
  ascii_ends n some le low v =
      let back : n - 1 + 1 ≡ n = omega arith in
      piece_ends_outside utf8 utf8_is_code xs (n - 1) 1 (Some (get_or xs (n - 1) 0)) (ascii_code (n - 1) (omega arith) low) (rw back v)

module _ {subparts : Bool} {shown : ℕ → Option ℕ} (xs : List ℕ) where
  -- what has no fault becomes itself
  pub text_between : (fuel j m : ℕ) → m ≤ j + fuel → j ≤ m → m ≤ length xs → (Inside utf8 xs j → ⊥) → (Inside utf8 xs m → ⊥) → ((k : ℕ) → j ≤ k → k < m → IsPieceAt utf8 xs k 1 None → ⊥)
      → Mends subparts shown xs j m (slice_range xs j m) 0
  text_between zero j m few le most front back none =
      let e : j ≡ m = omega arith in
      let empty : m - j ≡ 0 = omega arith in
      rw empty (Mends-none j m e)
  text_between (suc fuel) j m few le most front back none = elim (cases_lt j m) [
    | inr ge ↦ (let e : j ≡ m = omega arith in let empty : m - j ≡ 0 = omega arith in rw empty (Mends-none j m e))
    | inl lt ↦
        let found = code_here xs j (omega arith) front (none j (omega arith) lt) (fault_kind (drop j xs)) refl in
        let s = found.0 in
        let h = found.1 in
        let n = length (utf8 s) in
        let some = utf8_is_code.some s h.scalar in
        let fits : j + n ≤ m = piece_over utf8 xs j n (Some s) m (h, refl) back lt in
        let rest = text_between fuel (j + n) m (omega arith) fits most (outside_after utf8 utf8_is_code xs j s h) back (λ k more less. none k (omega arith) less) in
        let joined : utf8 s ++ slice_range xs (j + n) m ≡ slice_range xs j m = ap (λ ys. ys ++ slice_range xs (j + n) m) (sym h.equal) ∙ range_more xs j (j + n) m (omega arith) fits in
        rw joined at (Mends-then (Mends-char j s h) rest)
  ]

  -- ASCII
  pub ascii_between : (j : ℕ) → j + 64 ≤ length xs → (Inside utf8 xs j → ⊥) → ((k : ℕ) → k < 64 → get_or xs (j + k) 0 < 0x80) → Mends subparts shown xs j (j + 64) (slice_range xs j (j + 64)) 0
  ascii_between j within front low =
      let last : j + 64 - 1 ≡ j + 63 = omega arith in
      text_between 64 j (j + 64) (omega arith) (omega arith) within front (ascii_ends xs (j + 64) (omega arith) within (rw last (low 63 (lit< tt))))
      (λ k more less h.
      let at : j + (k - j) ≡ k = omega arith in
      let code = ascii_code xs k (omega arith) (rw at at (low (k - j) (omega arith))) in
      h.2 (record { from = k; char = get_or xs k 0; stands = code.0; begins = omega arith; ends = omega (arith, code.1) }))

-- the code of U+FFFD
pub replacement_code : IsCodeShown (Some 0xFFFD) (0xEF ∷ 0xBF ∷ 0xBD ∷ 3 ∷ [])
unfolding utf8
replacement_code = record { few = omega arith; code = refl }

-- the length of a code
pub code_length : (c : Option ℕ) (xs : List ℕ) → IsCodeShown c xs → length xs ≡ 4 → get_or xs 3 0 ≡ length (shown_code c)
code_length c xs h four =
    let few = h.few in
    sym (length-take-le (get_or xs 3 0) xs (omega arith)) ∙ ap length h.code

-- elements that are written over as many others
pub length_put : (xs ys : List ℕ) (n m : ℕ) → n + m ≤ length xs → length ys ≡ m → length (put_mid n m xs ys) ≡ length xs
length_put xs ys n m room same =
    let new = put_mid n m xs ys in
    let rest = drop-put_mid n m xs ys (n + m) (omega arith) (omega arith) same in
    let front = take-put_mid n m xs ys (n + m) (omega arith) (omega arith) in
    omega (arith, ap length front, ap length rest, length-take (n + m) new, length-drop (n + m) new, length-drop (n + m) xs, length-take n xs, length-append (take n xs) ys)

-- the first of elements that were written at once
pub few_put : (xs ys : List ℕ) (n m k : ℕ) → n ≤ length xs → k ≤ length ys → take (n + k) (put_mid n m xs ys) ≡ take n xs ++ take k ys
few_put xs ys n m k within few =
    sym (take-take (n + k) (n + length ys) (put_mid n m xs ys) (omega arith)) ∙ ap (take (n + k)) (take-put_mid n m xs ys (n + length ys) refl within)
    ∙ take_on (take n xs) ys n k (omega (arith, length-take n xs))

pub MendsFront-text : {subparts : Bool} {shown : ℕ → Option ℕ} {xs made new : List ℕ} {read end len replaced : ℕ} → MendsFront subparts shown xs made read len replaced → Mends subparts shown xs read end (slice_range xs read end) 0
    → take (len + (end - read)) new ≡ take len made ++ slice_range xs read end → read ≤ end → end ≤ length xs → len + (end - read) ≤ length new → MendsFront subparts shown xs new end (len + (end - read)) replaced
MendsFront-text {replaced = replaced} f m e le within fits =
    let none : replaced + 0 ≡ replaced = omega arith in
    rw none at (MendsFront-on f m e le within fits (omega arith) (omega arith))

chunk_range : (i n : ℕ) (xs : List ℕ) → chunk i n xs ≡ slice_range xs i (i + n)
chunk_range i n xs = let e : n ≡ i + n - i = omega arith in ap (λ k. take k (drop i xs)) e

pub two_chunks_at : (room xs : List ℕ) (at place : ℕ) → place + 64 ≤ length xs → at + 64 ≤ length room → take (at + 64) (put_chunk (at + 32) (put_chunk at room (chunk place 32 xs)) (chunk (place + 32) 32 xs)) ≡ take at room ++ slice_range xs place (place + 64)
two_chunks_at room xs at place within fits =
    let a = chunk place 32 xs in
    let b = chunk (place + 32) 32 xs in
    let first : length a ≡ 32 = length-chunk place 32 xs (omega arith) in
    let second : length b ≡ 32 = length-chunk (place + 32) 32 xs (omega arith) in
    let end : at + 64 ≡ at + 32 + length b = omega arith in
    let far : place + 64 ≡ place + 32 + 32 = omega arith in
    ap (λ n. take n (put_chunk (at + 32) (put_chunk at room a) b)) end ∙ two_chunks room a b at (at + 32) (omega arith) (omega arith)
    ∙ ap (λ ys. take at room ++ ys) (ap₂ (λ p q. p ++ q) (chunk_range place 32 xs) (chunk_range (place + 32) 32 xs) ∙ range_more xs place (place + 32) (place + 32 + 32) (omega arith) (omega arith) ∙ ap (slice_range xs place) (sym far))
