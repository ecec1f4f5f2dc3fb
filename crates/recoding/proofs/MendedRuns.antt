-- Damaged bytes that were mended, as transcoded bytes: the text of each of their parts, whatever follows.
use Rattle.std.proofs.Common.{◌≡◌, ℕ, suc, ◌+◌, ◌-◌, ◌*◌, ◌<◌, ◌≤◌, Bool, false, true, List, [], ◌∷◌, ◌++◌, length, get_or, take, drop, refl, lit<, Option, Some, None, arith, ap, ap₂, sym, subst, ◌∙◌, inl, inr, length-append, length-drop, length-take, take-append-drop}
use Rattle.std.proofs.lemmas.Bool.{cases_lt}
use Rattle.std.proofs.lemmas.List.{drop-drop, drop-take, get_or-drop, get_or-take, take-append-le, take-take, take_all, take_rest}
use Rattle.std.proofs.lemmas.List.Sums.{sum_by-cons}
use Rattle.std.proofs.lemmas.List.Elements.{All-cons, All-nil}
use Rattle.std.specs.Prelude.{All, IsUtf8, flat_map, if◌then◌else◌, is_none, slice_range}
use Rattle.utf_base.specs.Code.{utf8}
use Rattle.utf_base.specs.CutLaws.{Follow}
use Rattle.utf_base.specs.Piece.{Covered, Piece, Stands, end_of}
use Rattle.utf_base.specs.Scalar.{IsScalar}
use Rattle.utf_base.specs.Subparts.{IsFrontOfCode, IsMaximalSubpart}
use Rattle.utf_base.proofs.Rests.{stands_in_list, stands_on}
use Rattle.utf_base.proofs.Utf8Code.{length_utf8, utf8_is_code}
use Rattle.utf_lanes.specs.Mending.{IsMendedAt, MendsFront, all_shown, invalid_bytes, scalars_of, shown_as}
use Rattle.utf_lanes.specs.Utf8ToUtf16.{utf16_bytes}
use Rattle.recoding.specs.Lossy.{BeginsNoCode, BeginsSubpart}
use Rattle.recoding.specs.NextScalars.{HasByteOrder}
use Rattle.recoding.specs.Recoded.{written}
use Rattle.recoding.specs.Replacing.{Becomes, BeginsBy, Recodes, byte_shown, code_of, joins}
use Rattle.recoding.specs.Strict.{BeginsChar, PutsText}
use Rattle.recoding.specs.declared.form.Form.{Form}
use Rattle.recoding.specs.declared.form.Form.TheVariants.{Utf8}
use Rattle.recoding.specs.declared.way.Way.{Way}
use Rattle.recoding.specs.declared.way.Way.TheVariants.{Faults, Subparts, Table}
use Rattle.recoding.proofs.Becoming.{Becomes-more, Becomes-none, Becomes-where, begins_short, next_piece, run_after}
use Rattle.recoding.proofs.FrontBytes.{replacement}
use Rattle.recoding.proofs.GivenRuns.{given_codes}
use Rattle.recoding.proofs.NextPieces.{Begins-byte, Begins-char, Begins-repaired, Begins-subpart, no_code_of_four}
use Rattle.recoding.proofs.Recodes.{Recodes-text}
use Rattle.recoding.proofs.Repairing.{char_short}
use Rattle.recoding.proofs.RoomLemmas.{take_more}
use Rattle.recoding.proofs.TextRuns.{PutsText-given, PutsText-text}

-- One part, which four bytes decide.

module _ (xs : List ℕ) (p : ℕ) (four : p + 4 ≤ length xs) where
  abbrev w : List ℕ
  w = take 4 (drop p xs)

  len_w : length w ≡ 4
  len_w = omega (arith, length-take 4 (drop p xs), length-drop p xs)

  range_is : (n : ℕ) → n ≤ 4 → take n w ≡ slice_range xs p (p + n)
  range_is n le = let e : n ≡ p + n - p = omega arith in take-take n 4 (drop p xs) le ∙ ap (λ k. take k (drop p xs)) e

  char_begins : (s : ℕ) → Stands utf8 xs p s → BeginsChar Utf8 w s (length (utf8 s))
  char_begins s h =
      let most = length_utf8 s in
      record { scalar = h.scalar; some = utf8_is_code.some s h.scalar; within = omega (arith, len_w); code = range_is (length (utf8 s)) (omega arith) ∙ h.equal }

  none_begins : ((s : ℕ) → Stands utf8 xs p s → ⊥) → BeginsNoCode w
  none_begins none =
      no_code_of_four w (omega (arith, len_w)) (λ s h. none s (stands_in_list utf8 xs p 0 p s (omega arith) (omega arith) (rw (take-append-drop 4 (drop p xs)) at (stands_on utf8 w (drop 4 (drop p xs)) s h))))

  subpart_begins : (n : ℕ) → IsMaximalSubpart utf8 xs p n → (n ≤ 4) × BeginsSubpart w n
  subpart_begins n h =
      let some = h.some in
      let few : n ≤ 4 = elim (cases_lt 1 n) [
        | inl more ↦
            let f = h.front more in
            let within = f.within in
            let most = length_utf8 f.char in
            let inside = h.within in
            let e : p + n - p ≡ n = omega arith in
            omega (arith, length-take (p + n - p) (drop p xs), length-drop p xs)
        | inr le ↦ omega arith
      ] in
      let range : (later : List ℕ) (k : ℕ) → k ≤ 4 → slice_range (w ++ later) 0 (0 + k) ≡ slice_range xs p (p + k) = λ later k le.
      let none : 0 + k - 0 ≡ k = omega arith in
      ap (λ n. take n (w ++ later)) none ∙ take-append-le k w later (omega (arith, len_w)) ∙ range_is k le in (
        few,
        λ later. record {
          offset = record { within = omega (arith, len_w, length-append w later); none = none_begins h.offset.none later };
          some = some;
          within = omega (arith, len_w, length-append w later);
          front = λ more. subst (λ ys. IsFrontOfCode utf8 ys) (sym (range later n few)) (h.front more);
          longest = λ k fits f.
              let within = f.within in
              let most = length_utf8 f.char in
              let none : 0 + k - 0 ≡ k = omega arith in
              let part : length (take k (w ++ later)) ≡ k = omega (arith, length-take k (w ++ later)) in
              let len : length (slice_range (w ++ later) 0 (0 + k)) ≡ k = ap (λ n. length (take n (w ++ later))) none ∙ part in
              let le : k ≤ 4 = omega arith in
              h.longest k (omega arith) (subst (λ ys. IsFrontOfCode utf8 ys) (range later k le) f);
        },
      )

front_byte : (xs : List ℕ) (p : ℕ) → get_or (take 4 (drop p xs)) 0 0 ≡ get_or xs p 0
front_byte xs p = let e : p + 0 ≡ p = omega arith in get_or-take 4 (drop p xs) 0 0 (lit< tt) ∙ get_or-drop p xs 0 0 ∙ ap (λ k. get_or xs k 0) e

no_char_covers : (xs : List ℕ) (p : ℕ) → (Covered utf8 xs p → ⊥) → (s : ℕ) → Stands utf8 xs p s → ⊥
no_char_covers xs p none s stands = none (record { from = p; char = s; stands = stands; begins = omega arith; ends = omega (arith, utf8_is_code.some s stands.scalar) })

part_begins : (way : Way) (xs : List ℕ) (p n : ℕ) (a : Option ℕ) → p + 4 ≤ length xs → IsMendedAt (joins way) xs p n a
    → BeginsBy way Utf8 (take 4 (drop p xs)) (shown_as a (byte_shown way (get_or xs p 0))) n (if is_none a then n else 0)
part_begins Faults xs p n (Some s) four h = rw h.1 (Begins-char Faults (char_begins xs p four s h.0))
part_begins Subparts xs p n (Some s) four h = rw h.1 (Begins-char Subparts (char_begins xs p four s h.0))
part_begins (Table t) xs p n (Some s) four h = rw h.1 (Begins-char (Table t) (char_begins xs p four s h.0))
part_begins Faults xs p n None four h = rw h.1 (Begins-byte (none_begins xs p four (no_char_covers xs p h.2)))
part_begins Subparts xs p n None four h =
    let begins = subpart_begins xs p four n h in
    Begins-subpart (omega (arith, begins.0, len_w xs p four)) begins.1
part_begins (Table t) xs p n None four h = rw (h.1, sym (front_byte xs p)) (Begins-repaired t (none_begins xs p four (no_char_covers xs p h.2)))

part_some : (subparts : Bool) (xs : List ℕ) (p n : ℕ) (a : Option ℕ) → IsMendedAt subparts xs p n a → 0 < n
part_some false xs p n (Some s) h = let some = utf8_is_code.some s h.0.scalar in omega (arith, h.1)
part_some true xs p n (Some s) h = let some = utf8_is_code.some s h.0.scalar in omega (arith, h.1)
part_some false xs p n None h = omega (arith, h.1)
part_some true xs p n None h = h.some

-- the scalar that replaces a byte, if one does
byte_scalar : (way : Way) (byte s : ℕ) → byte_shown way byte ≡ Some s → IsScalar s
byte_scalar Faults byte s e = let same : 0xFFFD ≡ s = cc in subst IsScalar same replacement
byte_scalar Subparts byte s e = let same : 0xFFFD ≡ s = cc in subst IsScalar same replacement
byte_scalar (Table t) byte s e = (char_short t.chars.now byte s e).scalar

part_scalar : (way : Way) (xs : List ℕ) (p n : ℕ) (a : Option ℕ) → IsMendedAt (joins way) xs p n a → (s : ℕ) → shown_as a (byte_shown way (get_or xs p 0)) ≡ Some s → IsScalar s
part_scalar Faults xs p n (Some t) h s e = let same : t ≡ s = cc in subst IsScalar same h.0.scalar
part_scalar Subparts xs p n (Some t) h s e = let same : t ≡ s = cc in subst IsScalar same h.0.scalar
part_scalar (Table r) xs p n (Some t) h s e = let same : t ≡ s = cc in subst IsScalar same h.0.scalar
part_scalar way xs p n None h s e = byte_scalar way (get_or xs p 0) s e

-- All parts, one after another.

pub count_first : (x : Piece) (ps : List Piece) → (if is_none x.char then x.len else 0) + invalid_bytes ps ≡ invalid_bytes (x ∷ ps)
count_first x ps = sym (sum_by-cons (λ y. if is_none y.char then y.len else 0) x ps)

follow_up : (i : ℕ) (ps : List Piece) (j : ℕ) → Follow i ps j → i ≤ j
follow_up i [] j f = omega arith
follow_up i (x ∷ ps) j f = let more = follow_up (end_of x) ps j f.1 in omega (arith, f.0)

-- the code of at most one scalar, and those of others
pub code_then : (to : Form) (c : Option ℕ) (ss : List ℕ) → code_of to c ++ flat_map (written to) ss ≡ flat_map (written to) (scalars_of c ++ ss)
code_then to None ss = refl
code_then to (Some s) ss = refl

pub parts_become : (way : Way) (to : Form) (xs : List ℕ) (ps : List Piece) (i j : ℕ) → All (λ x. IsMendedAt (joins way) xs x.start x.len x.char) ps → Follow i ps j → j + 3 ≤ length xs
    → Becomes way Utf8 to (take (j - i + 3) (drop i xs)) (flat_map (written to) (all_shown (byte_shown way) xs ps)) (invalid_bytes ps) (take 3 (drop j xs))
parts_become way to xs [] i j each f le =
    let e : j - i + 3 ≡ 3 = omega arith in
    Becomes-where (take (j - i + 3) (drop i xs)) (take 3 (drop j xs)) (ap (λ n. take n (drop i xs)) (sym e)) (ap (λ n. take 3 (drop n xs)) f) (Becomes-none way Utf8 to (take 3 (drop i xs)))
parts_become way to xs (x ∷ ps) i j each f le =
    let n = x.len in
    let first : IsMendedAt (joins way) xs i n x.char = rw f.0 at (each 0 x (omega arith)) in
    let some = part_some (joins way) xs i n x.char first in
    let next : Follow (i + n) ps j = rw f.0 at f.1 in
    let up = follow_up (i + n) ps j next in
    let m = j - (i + n) in
    let c = shown_as x.char (byte_shown way (get_or xs i 0)) in
    let begins = part_begins way xs i n x.char (omega arith) first in
    let rest = parts_become way to xs ps (i + n) j (λ k d lt. each (suc k) d (omega arith)) next le in
    let bytes = drop i xs in
    let here : drop (i + n) xs ≡ drop n bytes = sym (drop-drop n i xs) in
    let there : drop j xs ≡ drop m (drop n bytes) = let e : i + n + m ≡ j = omega arith in sym (drop-drop m (i + n) xs ∙ ap (λ k. drop k xs) e) ∙ ap (drop m) here in
    let moved = Becomes-where (take (m + 3) (drop n bytes)) (take 3 (drop m (drop n bytes))) (ap (take (m + 3)) here) (ap (take 3) there) rest in
    let both = run_after bytes n m (next_piece bytes c n begins) moved in
    let all : n + m + 3 ≡ j - i + 3 = omega arith in
    let end : drop (n + m) bytes ≡ drop j xs = drop-drop (n + m) i xs ∙ ap (λ k. drop k xs) (omega arith) in
    let grown : code_of to c ++ flat_map (written to) (all_shown (byte_shown way) xs ps) ≡ flat_map (written to) (all_shown (byte_shown way) xs (x ∷ ps)) =
    code_then to c (all_shown (byte_shown way) xs ps) ∙ ap (λ k. flat_map (written to) (scalars_of (shown_as x.char (byte_shown way (get_or xs k 0))) ++ all_shown (byte_shown way) xs ps)) (sym f.0) in
    rw (sym (count_first x ps), sym grown) (Becomes-where (take (j - i + 3) bytes) (take 3 (drop j xs)) (ap (λ k. take k bytes) all) (ap (take 3) end) both)

option_scalars : (c : Option ℕ) (ss : List ℕ) → ((s : ℕ) → c ≡ Some s → IsScalar s) → All IsScalar ss → All IsScalar (scalars_of c ++ ss)
option_scalars None ss one all = all
option_scalars (Some s) ss one all = All-cons IsScalar s ss (one s refl) all

scalars_shown : (way : Way) (xs : List ℕ) (ps : List Piece) → All (λ x. IsMendedAt (joins way) xs x.start x.len x.char) ps → All IsScalar (all_shown (byte_shown way) xs ps)
scalars_shown way xs [] each = All-nil IsScalar
scalars_shown way xs (x ∷ ps) each =
    option_scalars (shown_as x.char (byte_shown way (get_or xs x.start 0))) (all_shown (byte_shown way) xs ps) (part_scalar way xs x.start x.len x.char (each 0 x (omega arith)))
    (scalars_shown way xs ps (λ k d lt. each (suc k) d (omega arith)))

-- The codes of all parts have at most three bytes for each byte of these.
pub parts_short : (way : Way) (to : Form) (xs : List ℕ) (ps : List Piece) (i j : ℕ) → All (λ x. IsMendedAt (joins way) xs x.start x.len x.char) ps → Follow i ps j → j + 3 ≤ length xs
    → length (flat_map (written to) (all_shown (byte_shown way) xs ps)) ≤ 3 * (j - i)
parts_short way to xs [] i j each f le = omega arith
parts_short way to xs (x ∷ ps) i j each f le =
    let n = x.len in
    let first : IsMendedAt (joins way) xs i n x.char = rw f.0 at (each 0 x (omega arith)) in
    let some = part_some (joins way) xs i n x.char first in
    let next : Follow (i + n) ps j = rw f.0 at f.1 in
    let up = follow_up (i + n) ps j next in
    let c = shown_as x.char (byte_shown way (get_or xs i 0)) in
    let one = begins_short to (part_begins way xs i n x.char (omega arith) first) in
    let rest = parts_short way to xs ps (i + n) j (λ k d lt. each (suc k) d (omega arith)) next le in
    let ss = all_shown (byte_shown way) xs ps in
    let len : length (code_of to c ++ flat_map (written to) ss) ≡ length (code_of to c) + length (flat_map (written to) ss) = length-append (code_of to c) (flat_map (written to) ss) in
    let joined : length (code_of to c ++ flat_map (written to) ss) ≤ 3 * (j - i) = omega (arith, one, rest, len) in
    let short : length (flat_map (written to) (scalars_of c ++ ss)) ≤ 3 * (j - i) = rw (code_then to c ss) at joined in
    rw f.0 short

becomes_by : (way : Way) (to : Form) (xs made : List ℕ) (read len replaced : ℕ) → (f : MendsFront (joins way) (byte_shown way) xs made read len replaced) → read + 3 ≤ length xs
    → Becomes way Utf8 to (take (read + 3) xs) (flat_map (written to) (all_shown (byte_shown way) xs f.mends.parts)) replaced (take 3 (drop read xs))
becomes_by way to xs made read len replaced f le =
    let m = f.mends in
    let all : read - 0 + 3 ≡ read + 3 = omega arith in
    rw (all, sym m.count) at (parts_become way to xs m.parts 0 read m.each m.follow le)

-- what the windows of a way of replacing wrote
pub mends_by : (way : Way) {subparts : Bool} {shown : ℕ → Option ℕ} {xs made : List ℕ} {read len replaced : ℕ} → subparts ≡ joins way → shown ≡ byte_shown way → MendsFront subparts shown xs made read len replaced
    → MendsFront (joins way) (byte_shown way) xs made read len replaced
mends_by way {subparts} {shown} {xs} {made} {read} {len} {replaced} e f h =
    subst (λ b. MendsFront b (byte_shown way) xs made read len replaced) e (subst (λ g. MendsFront subparts g xs made read len replaced) f h)

module _ {O : Type 0} {appends : O → List ℕ → O → Type 0} {way : Way} {xs made : List ℕ} {read len replaced : ℕ} {old new : O} where
  -- the text itself
  pub Recodes-mended : MendsFront (joins way) (byte_shown way) xs made read len replaced → 0 < read → read ≤ length xs - 3 → appends old (take len made) new → Recodes appends way Utf8 Utf8 xs old new read replaced
  Recodes-mended f some le put = record {
    grown = take len made;
    appended = put;
    within = f.within;
    short = omega (arith, f.short, length-take len made);
    few = f.few;
    becomes = rw f.mends.text (becomes_by way Utf8 xs made read len replaced f (omega arith));
  }

  -- the units of the text
  pub Recodes-widened : {to : Form} (high : Bool) → HasByteOrder high to → MendsFront (joins way) (byte_shown way) xs made read len replaced → 0 < read → read ≤ length xs - 3 → (grown : List ℕ)
      → grown ≡ utf16_bytes high (take len made) 0 (length (take len made)) → appends old grown new → Recodes appends way Utf8 to xs old new read replaced
  Recodes-widened {to} high order f some le grown e put =
      let m = f.mends in
      let ss = all_shown (byte_shown way) xs m.parts in
      let codes : grown ≡ flat_map (written to) ss = e ∙ sym (given_codes high to order (take len made) ss (scalars_shown way xs m.parts m.each) m.text) in
      record {
        grown = grown;
        appended = put;
        within = f.within;
        short = rw codes (let e : read - 0 ≡ read = omega arith in rw e at (parts_short way to xs m.parts 0 read m.each m.follow (omega arith)));
        few = f.few;
        becomes = rw codes (becomes_by way to xs made read len replaced f (omega arith));
      }

-- What was transcoded of the first bytes is what was transcoded of all.

becomes_more : (way : Way) (to : Form) (bytes grown : List ℕ) (count n k : ℕ) → n ≤ count → count ≤ length bytes → Becomes way Utf8 to (take (n + 3) (take count bytes)) grown k (take 3 (drop n (take count bytes)))
    → Becomes way Utf8 to (take (n + 3) bytes) grown k (take 3 (drop n bytes))
becomes_more way to bytes grown count n k le within h =
    let rest : drop n (take count bytes) ≡ take (count - n) (drop n bytes) = let e : count ≡ n + (count - n) = omega arith in ap (λ m. drop n (take m bytes)) e ∙ drop-take n (count - n) bytes in
    elim (cases_lt count (n + 3)) [
      | inr more ↦
          Becomes-where (take (n + 3) bytes) (take 3 (drop n bytes)) (take-take (n + 3) count bytes more) (ap (take 3) rest ∙ take-take 3 (count - n) (drop n bytes) (omega arith)) h
      | inl less ↦
          let x = take (n + 3 - count) (drop count bytes) in
          let front : take (n + 3) (take count bytes) ≡ take count bytes = take_all (n + 3) (take count bytes) (omega (arith, length-take count bytes)) in
          let back : take 3 (drop n (take count bytes)) ≡ take (count - n) (drop n bytes) = ap (take 3) rest ∙ take_all 3 (take (count - n) (drop n bytes)) (omega (arith, length-take (count - n) (drop n bytes))) in
          let all : count + (n + 3 - count) ≡ n + 3 = omega arith in
          let three : count - n + (n + 3 - count) ≡ 3 = omega arith in
          let there : drop count bytes ≡ drop (count - n) (drop n bytes) = let e : n + (count - n) ≡ count = omega arith in sym (drop-drop (count - n) n bytes ∙ ap (λ m. drop m bytes) e) in
          Becomes-where (take (n + 3) bytes) (take 3 (drop n bytes)) (ap (λ ys. ys ++ x) front ∙ take_more count (n + 3 - count) bytes ∙ ap (λ m. take m bytes) all)
          (ap₂ (λ ys zs. ys ++ take (n + 3 - count) zs) back there ∙ take_more (count - n) (n + 3 - count) (drop n bytes) ∙ ap (λ m. take m (drop n bytes)) three) (Becomes-more x h)
    ]

pub Recodes-part : {O : Type 0} {appends : O → List ℕ → O → Type 0} {way : Way} {to : Form} {bytes : List ℕ} {old new : O} {n k : ℕ} (count : ℕ) → count ≤ length bytes → Recodes appends way Utf8 to (take count bytes) old new n k
    → Recodes appends way Utf8 to bytes old new n k
Recodes-part {way = way} {to = to} {bytes = bytes} {n = n} {k = k} count le f =
    let within = f.within in
    let len : length (take count bytes) ≡ count = omega (arith, length-take count bytes) in
    record {
      grown = f.grown;
      appended = f.appended;
      within = omega arith;
      short = f.short;
      few = f.few;
      becomes = becomes_more way to bytes f.grown count n k (omega arith) le f.becomes;
    }

-- Text after what was transcoded.

module _ {O : Type 0} {appends : O → List ℕ → O → Type 0} {way : Way} {bytes : List ℕ} {p end k : ℕ} {old mid new : O} (law : (a b c : O) (xs ys : List ℕ) → appends a xs b → appends b ys c → appends a (xs ++ ys) c) where
  pub text_on : {to : Form} → Recodes appends way Utf8 to bytes old mid p k → p ≤ end → PutsText appends Utf8 to (drop p bytes) mid new (end - p) → Recodes appends way Utf8 to bytes old new end k
  text_on {to} f le t =
      let e : p + (end - p) ≡ end = omega arith in
      subst (λ q. Recodes appends way Utf8 to bytes old new q k) e (Recodes-text law f (rw (take_rest bytes p) t))

  pub Recodes-then-text : Recodes appends way Utf8 Utf8 bytes old mid p k → p ≤ end → end ≤ length bytes → IsUtf8 (slice_range bytes p end) → appends mid (slice_range bytes p end) new → Recodes appends way Utf8 Utf8 bytes old new end k
  Recodes-then-text f le within text put = text_on f le (PutsText-text (omega (arith, length-drop p bytes)) text put)

  pub Recodes-then-units : {to : Form} (high : Bool) → HasByteOrder high to → Recodes appends way Utf8 to bytes old mid p k → p ≤ end → end ≤ length bytes → IsUtf8 (slice_range bytes p end)
      → appends mid (utf16_bytes high (slice_range bytes p end) 0 (length (slice_range bytes p end))) new → Recodes appends way Utf8 to bytes old new end k
  Recodes-then-units high order f le within text put = text_on f le (PutsText-given high order (omega (arith, length-drop p bytes)) text put)
