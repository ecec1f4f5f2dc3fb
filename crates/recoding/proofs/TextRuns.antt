-- Text transcoded, without faults: step by step.
use Rattle.std.proofs.Common.{◌≡◌, ℕ, suc, ◌∷◌, length-append, ◌+◌, ◌-◌, ◌*◌, ◌/◌, ◌≤◌, Bool, List, [], ◌++◌, length, get_or, take, drop, flat_map, arith, refl, ap, ap₂, sym, ◌∙◌, length-drop, length-take, take-append-drop, Fits, w8, IsUtf8}
use Rattle.std.specs.Prelude.{All}
use Rattle.std.proofs.lemmas.List.{append-nil, take_all, take_rest, take-append-le, take-take}
use Rattle.std.proofs.lemmas.List.Concat.{flat_map-append}
use Rattle.std.proofs.lemmas.List.Elements.{All-append, All-nil, All-cons}
use Rattle.utf_base.proofs.TextScalars.{joined_from_text}
use Rattle.utf_base.specs.Scalar.{IsScalar}
use Rattle.utf_lanes.specs.BytePairs.{units_of, bytes_of, turned}
use Rattle.utf_lanes.specs.Utf8ToUtf16.{utf16_bytes}
use Rattle.utf_lanes.specs.UnitBlocks.{AreCodes}
use Rattle.recoding.specs.Recoded.{written}
use Rattle.recoding.specs.Recodes.{CopiesUnits, differ}
use Rattle.recoding.specs.Replacing.{FillsPlace, at_place}
use Rattle.recoding.specs.NextScalars.{HasByteOrder}
use Rattle.recoding.specs.Strict.{Transcodes, BeginsChar, PutsText}
use Rattle.recoding.specs.declared.form.Form.{Form}
use Rattle.recoding.specs.declared.form.Form.TheVariants.{Utf8}
use Rattle.recoding.proofs.Forms.{by_form, is_units}
use Rattle.recoding.proofs.CopiedUnits.{all_written, coded_bytes, front_fits, in_order}
use Rattle.recoding.proofs.GivenRuns.{given_codes}
use Rattle.recoding.proofs.RoomLemmas.{take_more}
use Rattle.recoding.proofs.Growing.{length_units, length_written, two_bytes, two_units}
use Rattle.recoding.proofs.RoomRuns.{FillsPlace-none, few_written, some_written}
use Rattle.utf_base.proofs.Utf8Code.{utf8-4}
use Rattle.utf_base.specs.Code.{utf8, utf16}
use Rattle.utf_base.proofs.Utf16Code.{utf16_is_code}

-- A text in two encodings.

pub Transcodes-none : (from to : Form) → Transcodes from to [] []
Transcodes-none from to = record { scalars = []; all = All-nil IsScalar; codes = refl; made = refl }

pub Transcodes-one : (from to : Form) (s : ℕ) → IsScalar s → Transcodes from to (written from s) (written to s)
Transcodes-one from to s scalar = record {
  scalars = s ∷ [];
  all = All-cons IsScalar s [] scalar (All-nil IsScalar);
  codes = sym (append-nil (written from s));
  made = sym (append-nil (written to s));
}

pub Transcodes-then : {from to : Form} {xs ys out more : List ℕ} → Transcodes from to xs out → Transcodes from to ys more → Transcodes from to (xs ++ ys) (out ++ more)
Transcodes-then {from} {to} f g = record {
  scalars = f.scalars ++ g.scalars;
  all = All-append IsScalar f.scalars g.scalars f.all g.all;
  codes = ap₂ (λ cs ds. cs ++ ds) f.codes g.codes ∙ sym (flat_map-append (written from) f.scalars g.scalars);
  made = ap₂ (λ cs ds. cs ++ ds) f.made g.made ∙ sym (flat_map-append (written to) f.scalars g.scalars);
}

-- The capacity that a text needs.

pub wide_written : (from : Form) (s : ℕ) → 0x1_0000 ≤ s → 2 ≤ length (written from s)
wide_written =
    by_form _ (λ s wide. let len : length (written Utf8 s) ≡ 4 = ap length (utf8-4 s wide) in omega arith)
    (λ high. rw (is_units high, written) (λ s wide. omega (arith, two_bytes high (utf16 s), two_units s wide)))

pub code_room : (from to : Form) (s : ℕ) → IsScalar s → length (written to s) ≤ 3 * length (written from s)
code_room from to s scalar = length_written to s (length (written from s)) (some_written from s scalar) (wide_written from s)

codes_room : (from to : Form) (ss : List ℕ) → All IsScalar ss → length (flat_map (written to) ss) ≤ 3 * length (flat_map (written from) ss)
codes_room from to [] all = omega arith
codes_room from to (s ∷ ss) all =
    omega (
      arith,
      code_room from to s (all 0 s (omega arith)),
      codes_room from to ss (λ k d lt. all (suc k) d (omega arith)),
      length-append (written to s) (flat_map (written to) ss),
      length-append (written from s) (flat_map (written from) ss),
    )

pub text_room : {from to : Form} {text out : List ℕ} → Transcodes from to text out → length out ≤ 3 * length text
text_room {from} {to} t = omega (arith, codes_room from to t.scalars t.all, ap length t.codes, ap length t.made)

-- Text at most doubles.

bytes_double : (to : Form) (s : ℕ) → IsScalar s → length (written to s) ≤ 2 * length (written Utf8 s)
bytes_double =
    by_form _ (λ s scalar. omega arith)
    (λ high. rw (is_units high, written) (λ s scalar. omega (arith, two_bytes high (utf16 s), length_units s (length (utf8 s)) (some_written Utf8 s scalar) (wide_written Utf8 s))))

pub code_doubles : (from to : Form) (s : ℕ) → IsScalar s → length (written to s) ≤ 2 * length (written from s)
code_doubles =
    by_form _ bytes_double
    (λ high. rw (is_units high, written) (λ to s scalar. omega (arith, few_written to s, two_bytes high (utf16 s), utf16_is_code.some s scalar)))

codes_double : (from to : Form) (ss : List ℕ) → All IsScalar ss → length (flat_map (written to) ss) ≤ 2 * length (flat_map (written from) ss)
codes_double from to [] all = omega arith
codes_double from to (s ∷ ss) all =
    omega (
      arith,
      code_doubles from to s (all 0 s (omega arith)),
      codes_double from to ss (λ k d lt. all (suc k) d (omega arith)),
      length-append (written to s) (flat_map (written to) ss),
      length-append (written from s) (flat_map (written from) ss),
    )

pub text_doubles : {from to : Form} {text out : List ℕ} → Transcodes from to text out → length out ≤ 2 * length text
text_doubles {from} {to} t = omega (arith, codes_double from to t.scalars t.all, ap length t.codes, ap length t.made)

-- Appended to any output.

pub PutsText-as : {O P : Type 0} {appends : O → List ℕ → O → Type 0} {other : P → List ℕ → P → Type 0} {from to : Form} {bytes : List ℕ} {a b : O} {c d : P} {n : ℕ}
    → ((xs : List ℕ) → appends a xs b → other c xs d) → PutsText appends from to bytes a b n → PutsText other from to bytes c d n
PutsText-as turn f = record { within = f.within; grown = f.grown; appended = turn f.grown f.appended; transcodes = f.transcodes }

-- one character
pub PutsText-one : {O : Type 0} {appends : O → List ℕ → O → Type 0} {from to : Form} {bytes : List ℕ} {old new : O} {s n : ℕ} → BeginsChar from bytes s n → appends old (written to s) new
    → PutsText appends from to bytes old new n
PutsText-one {from = from} {to} {s = s} d put = record { within = d.within; grown = written to s; appended = put; transcodes = rw d.code (Transcodes-one from to s d.scalar) }

-- one character, followed by more bytes
pub PutsText-front : {O : Type 0} {appends : O → List ℕ → O → Type 0} {from to : Form} {bytes : List ℕ} {old new : O} {n : ℕ} (x : List ℕ) → PutsText appends from to bytes old new n
    → PutsText appends from to (bytes ++ x) old new n
PutsText-front {bytes = bytes} {n = n} x f =
    let within = f.within in
    record { within = omega (arith, length-append bytes x); grown = f.grown; appended = f.appended; transcodes = rw (take-append-le n bytes x within) f.transcodes }

module _ {O : Type 0} {appends : O → List ℕ → O → Type 0} {from to : Form} {bytes : List ℕ} where
  pub PutsText-none : ((a : O) → appends a [] a) → {out : O} → PutsText appends from to bytes out out 0
  PutsText-none none {out} = record { within = omega arith; grown = []; appended = none out; transcodes = Transcodes-none from to }

  pub PutsText-after : ((a b c : O) (xs ys : List ℕ) → appends a xs b → appends b ys c → appends a (xs ++ ys) c) → {old mid new : O} {p n : ℕ}
      → PutsText appends from to bytes old mid p → PutsText appends from to (drop p bytes) mid new n → PutsText appends from to bytes old new (p + n)
  PutsText-after more {old} {mid} {new} {p} {n} f g = record {
    within = omega (arith, f.within, g.within, length-drop p bytes);
    grown = f.grown ++ g.grown;
    appended = more old mid new f.grown g.grown f.appended g.appended;
    transcodes = rw (take_more p n bytes) at (Transcodes-then f.transcodes g.transcodes);
  }

  -- text that is the end of other bytes
  pub PutsText-then : ((a b c : O) (xs ys : List ℕ) → appends a xs b → appends b ys c → appends a (xs ++ ys) c) → {old mid new : O} {p n : ℕ}
      → PutsText appends from to bytes old mid p → PutsText appends from to (take (length bytes - p) (drop p bytes)) mid new n → PutsText appends from to bytes old new (p + n)
  PutsText-then more {p = p} f rest = PutsText-after more f (rw (take_rest bytes p) at rest)

  -- no more text
  pub PutsText-done : ((a b c : O) (xs ys : List ℕ) → appends a xs b → appends b ys c → appends a (xs ++ ys) c) → {old mid new : O} {p n : ℕ}
      → PutsText appends from to bytes old mid p → PutsText appends from to (take (length bytes - p) (drop p bytes)) mid new n → n ≡ 0 → PutsText appends from to bytes old new p
  PutsText-done more {p} {n} f rest none = let same : p + n ≡ p = omega arith in rw same at (PutsText-then more f rest)

  -- a character, decided by four bytes
  pub PutsText-char : ((a b c : O) (xs ys : List ℕ) → appends a xs b → appends b ys c → appends a (xs ++ ys) c) → {old mid new : O} {p s n : ℕ}
      → PutsText appends from to bytes old mid p → BeginsChar from (take 4 (drop p bytes)) s n → appends mid (written to s) new → PutsText appends from to bytes old new (p + n)
  PutsText-char more {mid = mid} {new = new} {p = p} {n = n} f d put =
      let one : PutsText appends from to (take 4 (drop p bytes)) mid new n = PutsText-one d put in
      let all : PutsText appends from to (take 4 (drop p bytes) ++ drop 4 (drop p bytes)) mid new n = PutsText-front (drop 4 (drop p bytes)) one in
      PutsText-after more f (rw (take-append-drop 4 (drop p bytes)) at all)

  -- the first bytes of some
  pub PutsText-part : {old new : O} {n : ℕ} (count : ℕ) → PutsText appends from to (take count bytes) old new n → PutsText appends from to bytes old new n
  PutsText-part {n} count f =
      let within = f.within in
      let le : n ≤ count = omega (arith, length-take count bytes) in
      record { within = omega (arith, length-take count bytes); grown = f.grown; appended = f.appended; transcodes = rw (take-take n count bytes le) at f.transcodes }

  -- capacity for all bytes is capacity for a character that begins the ones left
  pub room_for_char : {room : O → ℕ} → ((a b : O) (xs : List ℕ) → appends a xs b → room a ≤ room b + length xs) → {old mid : O} {p s n : ℕ}
      → PutsText appends from to bytes old mid p → BeginsChar from (take 4 (drop p bytes)) s n → 3 * length bytes ≤ room old → length (written to s) ≤ room mid
  room_for_char law {old} {mid} {p} {s} {n} f d all =
      let within = d.within in
      let start = f.within in
      let here : length (written from s) ≡ n = ap length (sym d.code) ∙ omega (arith, length-take n (take 4 (drop p bytes))) in
      omega (arith, all, law old mid f.grown f.appended, text_room f.transcodes, length-take p bytes, code_room from to s d.scalar, here, length-drop p bytes, length-take 4 (drop p bytes))

-- Text in UTF-8 unchanged, and as units.

pub PutsText-text : {O : Type 0} {appends : O → List ℕ → O → Type 0} {old new : O} {bytes : List ℕ} {n : ℕ} → n ≤ length bytes → IsUtf8 (take n bytes) → appends old (take n bytes) new
    → PutsText appends Utf8 Utf8 bytes old new n
PutsText-text {bytes} {n} within text put =
    let t = joined_from_text (take n bytes) text in
    record { within = within; grown = take n bytes; appended = put; transcodes = record { scalars = t.0; all = t.1.0; codes = t.1.1; made = t.1.1 } }

pub PutsText-given : {O : Type 0} {appends : O → List ℕ → O → Type 0} {old new : O} {to : Form} {bytes : List ℕ} {n : ℕ} (high : Bool) → HasByteOrder high to → n ≤ length bytes → IsUtf8 (take n bytes)
    → appends old (utf16_bytes high (take n bytes) 0 (length (take n bytes))) new → PutsText appends Utf8 to bytes old new n
PutsText-given {to} {bytes} {n} high form within text put =
    let t = joined_from_text (take n bytes) text in
    record {
      within = within;
      grown = utf16_bytes high (take n bytes) 0 (length (take n bytes));
      appended = put;
      transcodes = record { scalars = t.0; all = t.1.0; codes = t.1.1; made = sym (given_codes high to form (take n bytes) t.0 t.1.0 t.1.1) };
    }

-- text that is all of the bytes
pub PutsText-whole : {O : Type 0} {appends : O → List ℕ → O → Type 0} {old new : O} {to : Form} {bytes : List ℕ} (high : Bool) → HasByteOrder high to → IsUtf8 bytes
    → appends old (utf16_bytes high bytes 0 (length bytes)) new → PutsText appends Utf8 to bytes old new (length bytes)
PutsText-whole {appends = appends} {old = old} {new = new} {bytes = bytes} high form text put =
    let all : take (length bytes) bytes ≡ bytes = take_all (length bytes) bytes (omega arith) in
    PutsText-given high form (omega arith) (rw all text) (rw all put)

-- Units, in bytes.

pub PutsText-units : {O : Type 0} {appends : O → List ℕ → O → Type 0} {old new : O} {from to : Form} {bytes : List ℕ} {n : ℕ} (high other : Bool) (count : ℕ) → HasByteOrder high from → HasByteOrder other to
    → ((j : ℕ) → Fits w8 (get_or bytes j 0)) → CopiesUnits appends high (differ high other) (take count bytes) old new n → PutsText appends from to bytes old new n
PutsText-units {appends} {old} {new} {from} {to} {bytes} {n} high other count reads writes fits copied =
    let even = copied.even in
    let within = copied.within in
    let le : n ≤ count = omega (arith, length-take count bytes) in
    let all : n ≤ length bytes = omega (arith, length-take count bytes) in
    let h : AreCodes (units_of high (take n bytes)) = rw (take-take n count bytes le) at copied.codes in
    let put : appends old (turned (differ high other) (take n bytes)) new = rw (take-take n count bytes le) at copied.appended in
    let half : length (take n bytes) ≡ 2 * (n / 2) = omega (arith, length-take n bytes) in
    record {
      within = all;
      grown = turned (differ high other) (take n bytes);
      appended = put;
      transcodes = record {
        scalars = h.scalars;
        all = h.all;
        codes = coded_bytes high from (take n bytes) (n / 2) reads h half (front_fits bytes n fits);
        made =
            sym (all_written other to h.scalars writes ∙ ap (flat_map (bytes_of other)) (sym h.codes) ∙ in_order high other (take n bytes) (n / 2) half (front_fits bytes n fits));
      };
    }

-- Into a buffer of a fixed size, from an offset on.
pub PutsText-start : {from to : Form} {bytes old : List ℕ} {place : ℕ} → place ≤ length old → PutsText FillsPlace from to bytes (at_place old place) (at_place old place) 0
PutsText-start {from} {to} fits = record { within = omega arith; grown = []; appended = FillsPlace-none fits; transcodes = Transcodes-none from to }
