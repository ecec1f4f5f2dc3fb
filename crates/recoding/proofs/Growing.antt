-- An output that grows by the transcoded bytes, step by step.
use Rattle.std.proofs.Common.{◌≡◌, ℕ, ◌*◌, ◌<◌, ◌≤◌, ⊎_elim, Bool, true, false, List, [], ◌∷◌, ◌++◌, length, flat_map, arith, refl, ap, sym, ◌∙◌, append_assoc}
use Rattle.std.proofs.lemmas.Grind.{common_steps}
use Rattle.std.proofs.lemmas.Bool.{cases_lt}
use Rattle.utf_base.specs.Code.{utf8, utf16}
use Rattle.utf_base.proofs.Rests.{shows_none, shows_one}
use Rattle.utf_base.proofs.Utf8Code.{utf8_is_code, length_utf8}
use Rattle.utf_base.proofs.Utf16Code.{utf16_is_code, utf16-1, utf16-2}
use Rattle.recoding.specs.declared.form.Form.{Form}
use Rattle.recoding.specs.TextForms.{text_form}
use Rattle.recoding.proofs.Forms.{by_form, is_units}
use Rattle.recoding.specs.Recoded.{Reads, ShowsUnits, odd_end, written, IsRecoded, Continues, RecodedOnce, Grows}
use Rattle.utf_lanes.specs.BytePairs.{units_of, bytes_of}

-- Bytes have one list of scalars.

units_one : (high : Bool) (bytes ss ts : List ℕ) → ShowsUnits high bytes ss → ShowsUnits high bytes ts → ss ≡ ts
units_one high bytes ss ts (xs, a, e) (ys, b, f) =
    e ∙ ap (λ zs. zs ++ odd_end bytes) (shows_one utf16 utf16_is_code (units_of high bytes) xs ys a b) ∙ sym f

pub reads_some : (from : Form) (bytes : List ℕ) → (ss : List ℕ) × Reads from bytes ss
reads_some from = (text_form from).reads_some

reads_one : (from : Form) (bytes ss ts : List ℕ) → Reads from bytes ss → Reads from bytes ts → ss ≡ ts
reads_one = by_form _ (shows_one utf8 utf8_is_code) (λ high. rw (is_units high, Reads) (units_one high))

pub reads_none : (from : Form) → Reads from [] []
reads_none = by_form _ (shows_none utf8) (λ high. rw (is_units high, Reads) ([], shows_none utf16, refl))

pub recoded_once : RecodedOnce
recoded_once from to bytes =
    let r = reads_some from bytes in (
      flat_map (written to) r.0,
      (r.0, r.1, refl),
      λ other (ss, a, e). e ∙ ap (flat_map (written to)) (reads_one from bytes ss r.0 a r.1),
    )

pub recoded_nothing : (from to : Form) → IsRecoded from to [] []
recoded_nothing from to = ([], reads_none from, refl)

-- Output that later bytes continue.

pub Continues-none : (from to : Form) (bytes : List ℕ) → Continues from to bytes [] bytes
Continues-none from to bytes later rest h = h

pub Continues-trans : (from to : Form) (a g b k c : List ℕ) → Continues from to a g b → Continues from to b k c → Continues from to a (g ++ k) c
Continues-trans from to a g b k c h i later rest r = rw (append_assoc g k rest) (h later (k ++ rest) (i later rest r))

-- the same bytes after both outputs
pub Continues-append : (from to : Form) (a g b x : List ℕ) → Continues from to a g b → Continues from to (a ++ x) g (b ++ x)
Continues-append from to a g b x h later rest r = rw (append_assoc a x later) (h (x ++ later) rest (rw (append_assoc b x later) at r))

pub Grows-trans : (from to : Form) (a b c old mid new : List ℕ) → Grows from to a old mid b → Grows from to b mid new c → Grows from to a old new c
Grows-trans from to a b c old mid new g h = record {
  grown = g.grown ++ h.grown;
  appended = h.appended ∙ ap (λ x. x ++ h.grown) g.appended ∙ append_assoc old g.grown h.grown;
  continues = Continues-trans from to a g.grown b h.grown c g.continues h.continues;
}

pub Grows-append : (from to : Form) (a b x old new : List ℕ) → Grows from to a old new b → Grows from to (a ++ x) old new (b ++ x)
Grows-append from to a b x old new g = record { grown = g.grown; appended = g.appended; continues = Continues-append from to a g.grown b x g.continues }

-- The length of codes.

short_utf8 : (s : ℕ) → s < 0x1_0000 → length (utf8 s) ≤ 3
unfolding utf8
short_utf8 s h = grind (arith, common_steps)

pub two_bytes : (high : Bool) (us : List ℕ) → length (flat_map (bytes_of high) us) ≡ 2 * length us
two_bytes high [] = refl
two_bytes true (u ∷ us) = let rest = two_bytes true us in omega arith
two_bytes false (u ∷ us) = let rest = two_bytes false us in omega arith

pub one_unit : (s : ℕ) → s < 0x1_0000 → length (utf16 s) ≡ 1
one_unit s low = ap length (utf16-1 s low)

pub two_units : (s : ℕ) → 0x1_0000 ≤ s → length (utf16 s) ≡ 2
two_units s wide = ap length (utf16-2 s wide)

pub length_units : (s n : ℕ) → 0 < n → (0x1_0000 ≤ s → 2 ≤ n) → length (utf16 s) ≤ n
length_units s n some wide =
    ⊎_elim (λ (low : s < 0x1_0000). let one = one_unit s low in omega arith) (λ (high : 0x1_0000 ≤ s). let two = wide high in let len = two_units s high in omega arith) (cases_lt s 0x1_0000)

-- at most three bytes are written for one
pub length_written : (to : Form) (s n : ℕ) → 0 < n → (0x1_0000 ≤ s → 2 ≤ n) → length (written to s) ≤ 3 * n
length_written =
    by_form _
    (λ s n some wide.
    ⊎_elim
    (λ (low : s < 0x1_0000). let le = short_utf8 s low in omega arith)
    (λ (high : 0x1_0000 ≤ s). let two = wide high in let le = length_utf8 s in omega arith)
    (cases_lt s 0x1_0000))
    (λ high. rw (is_units high, written) (λ s n some wide. omega (arith, two_bytes high (utf16 s), length_units s n some wide)))
