-- Upper bounds of the output size for some bytes.
use Rattle.std.proofs.Common.{◌≡◌, ℕ, zero, suc, ◌+◌, ◌*◌, ◌/◌, ◌<◌, ◌≤◌, ⊎_elim, Bool, List, [], ◌∷◌, ◌++◌, length, drop, flat_map, Option, Some, None, IfSome, arith, sym, subst, length-append, length-drop}
use Rattle.std.proofs.lemmas.Grind.{common_steps}
use Rattle.std.proofs.Math.Nat.{mul-le-mul_left}
use Rattle.std.proofs.lemmas.List.{append-nil}
use Rattle.std.proofs.lemmas.List.Concat.{flat_map-append}
use Rattle.utf_base.specs.Code.{utf8, utf16, IsCode}
use Rattle.utf_base.specs.Piece.{Stands}
use Rattle.utf_base.specs.Shown.{Shows}
use Rattle.utf_base.proofs.Cuts.{Finds}
use Rattle.utf_base.proofs.FrontLemmas.{utf8_finds}
use Rattle.utf_base.proofs.UnitLemmas.{utf16_finds}
use Rattle.utf_base.proofs.Rests.{shows_none, shows_one, shows_some, code_shows_first, fault_shows_first}
use Rattle.utf_base.proofs.Utf8Code.{utf8_is_code}
use Rattle.utf_base.proofs.Utf16Code.{utf16_is_code}
use Rattle.recoding.specs.declared.form.Form.{Form}
use Rattle.recoding.specs.declared.form.Form.TheVariants.{Utf8}
use Rattle.recoding.proofs.Forms.{by_form, is_units}
use Rattle.utf_lanes.specs.BytePairs.{units_of}
use Rattle.recoding.specs.Recoded.{Reads, odd_end, written, IsRecoded}
use Rattle.recoding.specs.Rooms.{widest, parts_of, most_bytes, IsRoomFor}
use Rattle.recoding.proofs.Growing.{length_units, length_written, two_bytes, two_units}

-- The length of one code.

within_widest : (to : Form) (s n : ℕ) → 0 < n → (0x1_0000 ≤ s → 2 ≤ n) → length (written to s) ≤ widest to * n
within_widest =
    by_form _ (length_written Utf8)
    (λ high. rw (is_units high, widest, written) (λ s n some wide. omega (arith, two_bytes high (utf16 s), length_units s n some wide)))

-- a scalar above 0xFFFF has two elements or more
abbrev IsWide : (ℕ → List ℕ) → Type 0
IsWide code = (s : ℕ) → 0x1_0000 ≤ s → 2 ≤ length (code s)

wide_utf8 : IsWide utf8
unfolding utf8
wide_utf8 s h = grind (arith, common_steps)

wide_utf16 : IsWide utf16
wide_utf16 s h = omega (arith, two_units s h)

-- The scalars of a list, by its first piece and the rest.

scaled : (w a b x y n : ℕ) → a ≤ w * x → b ≤ w * y → x + y ≤ n → a + b ≤ w * n
scaled w a b x y n h i le = omega (arith, mul-le-mul_left w le)

more : (to : Form) (s n rest whole : ℕ) (ss : List ℕ) → length (written to s) ≤ widest to * n → length (flat_map (written to) ss) ≤ widest to * rest → n + rest ≤ whole
    → length (written to s ++ flat_map (written to) ss) ≤ widest to * whole
more to s n rest whole ss a b le =
    rw (length-append (written to s) (flat_map (written to) ss)) (scaled (widest to) (length (written to s)) (length (flat_map (written to) ss)) n rest whole a b le)

module _ (code : ℕ → List ℕ) (c : IsCode code) (find : Finds code) (wide : IsWide code) (to : Form) where
  abbrev Bounded : List ℕ → List ℕ → Type 0
  Bounded xs ss = length (flat_map (written to) ss) ≤ widest to * length xs

  shown_bound : (m : ℕ) (xs ss : List ℕ) → length xs ≤ m → Shows code xs ss → Bounded xs ss
  shown_bound m [] ss le h =
      let e : ss ≡ [] = shows_one code c [] ss [] h (shows_none code) in
      rw e (omega arith)
  shown_bound zero (x ∷ xs) ss le h = elim le [ ]
  shown_bound (suc m) (x ∷ xs) ss le h =
      let w : List ℕ = x ∷ xs in
      ⊎_elim
      (λ (at : (s : ℕ) × Stands code w 0 s).
      let n : ℕ = length (code at.0) in
      let some : 0 < n = c.some at.0 at.1.scalar in
      let rest = shows_some code c find (drop n w) in
      let first : Shows code w (at.0 ∷ rest.0) =
      subst (λ ys. Shows code ys (at.0 ∷ rest.0)) (append-nil w) (code_shows_first code c w at.0 [] rest.0 at.1 (subst (λ ys. Shows code ys rest.0) (sym (append-nil (drop n w))) rest.1)) in
      let e : ss ≡ at.0 ∷ rest.0 = shows_one code c w ss (at.0 ∷ rest.0) h first in
      let later = shown_bound m (drop n w) rest.0 (omega (arith, length-drop n w)) rest.1 in
      rw e (more to at.0 n (length (drop n w)) (length w) rest.0 (within_widest to at.0 n some (wide at.0)) later (omega (arith, length-drop n w))))
      (λ (none : (s : ℕ) → Stands code w 0 s → ⊥).
      let rest = shows_some code c find xs in
      let first : Shows code w (0xFFFD ∷ rest.0) =
      subst (λ ys. Shows code ys (0xFFFD ∷ rest.0)) (append-nil w)
      (fault_shows_first code c w [] rest.0 (omega arith) (λ s h. none s (subst (λ ys. Stands code ys 0 s) (append-nil w) h)) (subst (λ ys. Shows code ys rest.0) (sym (append-nil xs)) rest.1)) in
      let e : ss ≡ 0xFFFD ∷ rest.0 = shows_one code c w ss (0xFFFD ∷ rest.0) h first in
      let later = shown_bound m xs rest.0 (omega arith) rest.1 in
      rw e (more to 0xFFFD 1 (length xs) (length w) rest.0 (within_widest to 0xFFFD 1 (omega arith) (λ h. omega arith)) later (omega arith)))
      (find w)

-- Units, and half a unit.

units_count : (high : Bool) (bytes : List ℕ) → length (units_of high bytes) + length (odd_end bytes) ≤ (length bytes + 1) / 2
units_count high [] = omega arith
units_count high (a ∷ []) = omega arith
units_count high (a ∷ b ∷ bytes) = let rest = units_count high bytes in omega arith

odd_bound : (to : Form) (bytes : List ℕ) → length (flat_map (written to) (odd_end bytes)) ≤ widest to * length (odd_end bytes)
odd_bound to [] = omega arith
odd_bound to (a ∷ []) = more to 0xFFFD 1 0 1 [] (within_widest to 0xFFFD 1 (omega arith) (λ h. omega arith)) (omega arith) (omega arith)
odd_bound to (a ∷ b ∷ bytes) = odd_bound to bytes

units_bound : (high : Bool) (to : Form) (bytes ts : List ℕ) → Shows utf16 (units_of high bytes) ts
    → length (flat_map (written to) (ts ++ odd_end bytes)) ≤ widest to * ((length bytes + 1) / 2)
units_bound high to bytes ts h =
    let units = shown_bound utf16 utf16_is_code utf16_finds wide_utf16 to (length (units_of high bytes)) (units_of high bytes) ts (omega arith) h in
    let all = scaled (widest to) (length (flat_map (written to) ts)) (length (flat_map (written to) (odd_end bytes))) (length (units_of high bytes)) (length (odd_end bytes)) ((length bytes + 1) / 2)
    units (odd_bound to bytes) (units_count high bytes) in
    rw (flat_map-append (written to) ts (odd_end bytes), length-append (flat_map (written to) ts) (flat_map (written to) (odd_end bytes))) all

pub recoded_bound : (from to : Form) (bytes out : List ℕ) → IsRecoded from to bytes out → length out ≤ most_bytes from to (length bytes)
recoded_bound from to bytes out (ss, r, e) = rw e (shown_bytes from to bytes ss r)
  where
    shown_bytes : (from to : Form) (bytes ss : List ℕ) → Reads from bytes ss → length (flat_map (written to) ss) ≤ most_bytes from to (length bytes)
    shown_bytes =
        by_form _ (λ to bytes ss r. shown_bound utf8 utf8_is_code utf8_finds wide_utf8 to (length bytes) bytes ss (omega arith) r)
        (λ high. rw (is_units high, Reads, parts_of) (λ to bytes ss (ts, r, f). rw f (units_bound high to bytes ts r)))

-- more bytes need at least as much capacity
parts_grow : (from : Form) (m n : ℕ) → m ≤ n → parts_of from m ≤ parts_of from n
parts_grow = by_form _ (λ m n le. le) (λ high. rw (is_units high, parts_of) (λ m n le. omega arith))

pub room_for_all : (from to : Form) (len n : ℕ) → n ≡ most_bytes from to len → IsRoomFor from to len n
room_for_all from to len n e bytes out le r =
    rw e (omega (arith, recoded_bound from to bytes out r, mul-le-mul_left (widest to) (parts_grow from (length bytes) len le)))

pub room_for_some : (from to : Form) (len : ℕ) (room : Option ℕ) → IfSome room (λ n. n ≡ most_bytes from to len) → IfSome room (λ n. IsRoomFor from to len n)
room_for_some from to len (Some n) e = room_for_all from to len n e
room_for_some from to len None e = e
