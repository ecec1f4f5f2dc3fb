-- Windows in which each byte is ASCII, or is replaced by itself, as transcoded bytes.
use Rattle.std.proofs.Common.{◌≡◌, ℕ, zero, suc, ◌+◌, ◌<◌, ◌≤◌, Bool, true, false, cond, leb, List, [], ◌∷◌, ◌++◌, length, get_or, take, drop, flat_map, refl, Some, arith, lit<, ap₂, sym, subst, ◌∙◌, inl, inr, le-leb, le-ltb, lt-ltb, drop-cons, length-take}
use Rattle.std.proofs.lemmas.Bool.{cases_lt, lt-leb}
use Rattle.std.proofs.lemmas.List.Elements.{All-cons, All-nil}
use Rattle.std.proofs.lemmas.List.Sums.{count_by-le-length, sum_by-cons}
use Rattle.std.specs.Prelude.{All, count_by, is_none}
use Rattle.utf_base.specs.CutLaws.{Follow}
use Rattle.utf_base.specs.Piece.{Piece}
use Rattle.utf_base.proofs.Utf16Code.{utf16-1}
use Rattle.utf_lanes.specs.Mending.{IsMendedAt, all_shown, invalid_bytes, shown_as}
use Rattle.utf_lanes.specs.PlainWindows.{ArePlain, char_alone, plain_unit}
use Rattle.utf_lanes.specs.Utf8ToUtf16.{concat_range, halves}
use Rattle.utf_lanes.proofs.Joined.{joined_add}
use Rattle.recoding.specs.NextScalars.{HasByteOrder}
use Rattle.recoding.specs.Recoded.{written}
use Rattle.recoding.specs.Replacing.{Recodes, byte_shown, code_of, joins}
use Rattle.recoding.specs.declared.form.Form.{Form}
use Rattle.recoding.specs.declared.form.Form.TheVariants.{Utf8}
use Rattle.recoding.specs.declared.way.Way.{Way}
use Rattle.recoding.proofs.AsciiToUtf16.{unit_written}
use Rattle.recoding.proofs.CopiedUnits.{as_written}
use Rattle.recoding.specs.UnitRuns.{widened}
use Rattle.recoding.proofs.AsciiToUtf16.{PutsText-widened, ascii_front}
use Rattle.recoding.proofs.MendedRuns.{code_then, count_first, parts_become, parts_short, text_on}
use Rattle.recoding.proofs.Recodes.{Recodes-none}

-- The parts of such bytes: each byte is one.

plain_parts : List ℕ → ℕ → ℕ → List Piece
plain_parts xs p zero = []
plain_parts xs p (suc n) = record { start = p; len = 1; char = char_alone (get_or xs p 0) } ∷ plain_parts xs (suc p) n

parts_each : (subparts : Bool) (xs : List ℕ) (p n : ℕ) → ((k : ℕ) → p ≤ k → k < p + n → IsMendedAt subparts xs k 1 (char_alone (get_or xs k 0))) → All (λ x. IsMendedAt subparts xs x.start x.len x.char) (plain_parts xs p n)
unfolding plain_parts
parts_each subparts xs p zero each = All-nil (λ x. IsMendedAt subparts xs x.start x.len x.char)
parts_each subparts xs p (suc n) each =
    All-cons (λ x. IsMendedAt subparts xs x.start x.len x.char) (record { start = p; len = 1; char = char_alone (get_or xs p 0) }) (plain_parts xs (suc p) n) (each p (omega arith) (omega arith))
    (parts_each subparts xs (suc p) n (λ k ge lt. each k (omega arith) (omega arith)))

parts_follow : (xs : List ℕ) (p n q : ℕ) → p + n ≡ q → Follow p (plain_parts xs p n) q
unfolding plain_parts
parts_follow xs p zero q e = omega arith
parts_follow xs p (suc n) q e = let next : suc p ≡ p + 1 = omega arith in (refl, subst (λ i. Follow i (plain_parts xs (suc p) n) q) next (parts_follow xs (suc p) n q (omega arith)))

one_counted : (b : ℕ) → cond (is_none (char_alone b)) 1 0 ≡ cond {A = ℕ} (leb 0x80 b) 1 0
one_counted b = elim (cases_lt b 0x80) [
  | inl low ↦ rw (lt-ltb b 0x80 low, lt-leb 0x80 b low) refl
  | inr high ↦ rw (le-ltb b 0x80 high, le-leb 0x80 b high) refl
]

parts_count : (xs : List ℕ) (p n : ℕ) → p + n ≤ length xs → count_by (leb 0x80) (take n (drop p xs)) ≡ invalid_bytes (plain_parts xs p n)
unfolding plain_parts
parts_count xs p zero le = refl
parts_count xs p (suc n) le =
    let b = get_or xs p 0 in
    let x : Piece = record { start = p; len = 1; char = char_alone b } in
    let next : drop p xs ≡ b ∷ drop (suc p) xs = drop-cons xs p 0 (omega arith) in
    rw next (sum_by-cons (λ c. cond (leb 0x80 c) 1 0) b (take n (drop (suc p) xs)) ∙ ap₂ (λ i j. i + j) (sym (one_counted b)) (parts_count xs (suc p) n (omega arith)) ∙ count_first x (plain_parts xs (suc p) n))

-- U+FFFD, in UTF-16
replacement_unit : (high : Bool) (to : Form) → HasByteOrder high to → written to 0xFFFD ≡ halves high 0xFD 0xFF
replacement_unit true to form = as_written true to 0xFFFD form ∙ rw (utf16-1 0xFFFD (lit< tt)) refl
replacement_unit false to form = as_written false to 0xFFFD form ∙ rw (utf16-1 0xFFFD (lit< tt)) refl

module _ (way : Way) (high : Bool) (to : Form) (form : HasByteOrder high to) (same : (byte : ℕ) → byte_shown way byte ≡ Some 0xFFFD) where
  one_code : (b : ℕ) → code_of to (shown_as (char_alone b) (byte_shown way b)) ≡ plain_unit high b
  one_code b = elim (cases_lt b 0x80) [
    | inl low ↦ rw (lt-ltb b 0x80 low) (unit_written high to b form low)
    | inr ge ↦ rw (le-ltb b 0x80 ge, same b) (replacement_unit high to form)
  ]

  parts_codes : (xs : List ℕ) (p n : ℕ) → concat_range (λ k. plain_unit high (get_or xs k 0)) p n ≡ flat_map (written to) (all_shown (byte_shown way) xs (plain_parts xs p n))
  unfolding plain_parts concat_range
  parts_codes xs p zero = refl
  parts_codes xs p (suc n) =
      let b = get_or xs p 0 in
      ap₂ (λ ys zs. ys ++ zs) (sym (one_code b)) (parts_codes xs (suc p) n) ∙ code_then to (shown_as (char_alone b) (byte_shown way b)) (all_shown (byte_shown way) xs (plain_parts xs (suc p) n))

-- a window that was written as its units
pub Recodes-plain : {O : Type 0} {appends : O → List ℕ → O → Type 0} {way : Way} {to : Form} {xs : List ℕ} {old new : O} {n : ℕ} (high : Bool) → HasByteOrder high to → ((byte : ℕ) → byte_shown way byte ≡ Some 0xFFFD) → 67 ≤ length xs → ArePlain xs n
    → appends old (concat_range (λ k. plain_unit high (get_or xs k 0)) 0 64) new → Recodes appends way Utf8 to xs old new 64 n
Recodes-plain {appends = appends} {way = way} {to = to} {xs = xs} {old = old} {new = new} {n = n} high form same enough plain put =
    let ps = plain_parts xs 0 64 in
    let each = parts_each (joins way) xs 0 64 (λ k ge lt. plain.each (joins way) k lt) in
    let follow = parts_follow xs 0 64 64 refl in
    let codes = parts_codes way high to form same xs 0 64 in
    let count : n ≡ invalid_bytes ps = plain.count ∙ parts_count xs 0 64 (omega arith) in
    record {
      grown = flat_map (written to) (all_shown (byte_shown way) xs ps);
      appended = subst (λ ys. appends old ys new) codes put;
      within = omega arith;
      short = parts_short way to xs ps 0 64 each follow (omega arith);
      few = omega (arith, plain.count, count_by-le-length (leb 0x80) (take 64 xs), length-take 64 xs);
      becomes = rw (sym count) at (parts_become way to xs ps 0 64 each follow (omega arith));
    }

-- a window of ASCII
pub Recodes-ascii : {O : Type 0} {appends : O → List ℕ → O → Type 0} {way : Way} {to : Form} {xs : List ℕ} {old new : O} (high : Bool) → HasByteOrder high to → ((a : O) → appends a [] a)
    → ((a b c : O) (xs ys : List ℕ) → appends a xs b → appends b ys c → appends a (xs ++ ys) c) → 64 ≤ length xs → ((k : ℕ) → k < 64 → get_or xs (0 + k) 0 < 0x80) → appends old (widened high (take 64 xs)) new
    → Recodes appends way Utf8 to xs old new 64 0
Recodes-ascii {xs = xs} high form none more enough low put =
    text_on more (Recodes-none none) (omega arith) (PutsText-widened high form enough (ascii_front xs 64 (λ k ge lt. let at : 0 + k ≡ k = omega arith in rw at at (low k lt))) put)

-- the two vectors of a window
pub window_units : (high : Bool) (xs first second : List ℕ) → first ≡ concat_range (λ k. plain_unit high (get_or xs k 0)) 0 32 → second ≡ concat_range (λ k. plain_unit high (get_or xs k 0)) 32 32
    → first ++ second ≡ concat_range (λ k. plain_unit high (get_or xs k 0)) 0 64
window_units high xs first second e f = ap₂ (λ ys zs. ys ++ zs) e f ∙ sym (joined_add (λ k. plain_unit high (get_or xs k 0)) 0 32 32)
