-- No output can be written before a recoder writes it that carries over the front of a code.
use Rattle.std.proofs.Common.{◌≡◌, ℕ, suc, ◌+◌, ◌-◌, ◌*◌, ◌/◌, ◌%◌, ◌<◌, ◌≤◌, ⊎_elim, Bool, true, false, List, [], ◌∷◌, ◌++◌, length, get_or, take, drop, map, flat_map, arith, refl, ap, sym, ◌∙◌, Some, None, Option, lit<, take-append-drop, append_assoc, length-append, length-drop}
use Rattle.std.proofs.lemmas.Bool.{cases_lt}
use Rattle.std.proofs.lemmas.List.{append-nil, drop_all, get_or_append_left, get_or-append_right, take-append-le}
use Rattle.std.proofs.lemmas.List.Elements.{All-append, All-cons, All-nil}
use Rattle.std.proofs.Math.Seq.{take-append_seam, drop-append_seam}
use Rattle.std.specs.Prelude.{All, unwrap_or}
use Rattle.utf_base.specs.Scalar.{IsScalar}
use Rattle.utf_base.specs.Code.{utf8, utf16}
use Rattle.utf_base.specs.Piece.{Piece, IsPiece, IsPieceAt}
use Rattle.utf_base.specs.Shown.{Shows, shown}
use Rattle.utf_base.proofs.Utf8Code.{utf8_is_code}
use Rattle.utf_base.proofs.Utf16Code.{utf16-1, utf16-2, utf16_is_code}
use Rattle.utf_lanes.specs.BytePairs.{bytes_of, units_of}
use Rattle.recoding.specs.declared.form.Form.{Form}
use Rattle.recoding.proofs.Forms.{by_form, is_units}
use Rattle.recoding.specs.Recoded.{Continues, IsProperFront, IsRecoded, Reads, ShowsUnits, odd_end, written}
use Rattle.recoding.specs.Undecided.{NothingComesEarlier}
use Rattle.recoding.proofs.FrontBytes.{replacement}
use Rattle.recoding.proofs.Growing.{one_unit, recoded_nothing, recoded_once, two_bytes, two_units}
use Rattle.recoding.proofs.HeldFronts.{fronts_are_undecided}

-- All scalars of the pieces are Unicode scalar values.

scalar_of_piece : (code : ℕ → List ℕ) (xs : List ℕ) (p n : ℕ) (a : Option ℕ) → IsPieceAt code xs p n a → IsScalar (unwrap_or a 0xFFFD)
scalar_of_piece code xs p n (Some s) h = h.0.scalar
scalar_of_piece code xs p n None h = replacement

pieces_are_scalars : (code : ℕ → List ℕ) (xs : List ℕ) (ps : List Piece) → All (λ x. IsPiece code xs x) ps → All IsScalar (map shown ps)
pieces_are_scalars code xs [] h = All-nil IsScalar
pieces_are_scalars code xs (x ∷ ps) h =
    All-cons IsScalar (shown x) (map shown ps) (scalar_of_piece code xs x.start x.len x.char (h 0 x (omega arith))) (pieces_are_scalars code xs ps (λ k d lt. h (suc k) d (omega arith)))

shown_are_scalars : (code : ℕ → List ℕ) (xs ss : List ℕ) → Shows code xs ss → All IsScalar ss
shown_are_scalars code xs ss (ps, cut, e) = rw e (pieces_are_scalars code xs ps (λ k d lt. (cut.pieces k d lt).0))

odd_is_scalar : (bytes : List ℕ) → All IsScalar (odd_end bytes)
odd_is_scalar [] = All-nil IsScalar
odd_is_scalar (a ∷ []) = All-cons IsScalar 0xFFFD [] replacement (All-nil IsScalar)
odd_is_scalar (a ∷ b ∷ bytes) = odd_is_scalar bytes

units_are_scalars : (high : Bool) (bytes ss : List ℕ) → ShowsUnits high bytes ss → All IsScalar ss
units_are_scalars high bytes ss (ts, h, e) = rw e (All-append IsScalar ts (odd_end bytes) (shown_are_scalars utf16 (units_of high bytes) ts h) (odd_is_scalar bytes))

pub read_are_scalars : (from : Form) (bytes ss : List ℕ) → Reads from bytes ss → All IsScalar ss
read_are_scalars = by_form _ (shown_are_scalars utf8) (λ high. rw (is_units high, Reads) (units_are_scalars high))

-- No code begins inside another.

empty : (xs : List ℕ) → length xs ≡ 0 → xs ≡ []
empty xs e = drop_all 0 xs (omega arith)

three_lengths : (front code more all : List ℕ) → front ++ (code ++ more) ≡ all → length all ≡ length front + (length code + length more)
three_lengths front code more all e = ap length (sym e) ∙ length-append front (code ++ more) ∙ ap (λ n. length front + n) (length-append code more)

-- an element of the second of three lists that are joined
second_of_three : (front code more all : List ℕ) (n j k : ℕ) → front ++ (code ++ more) ≡ all → length front ≡ n → k ≡ n + j → j < length code → get_or all k 0 ≡ get_or code j 0
second_of_three front code more all n j k e len place lt =
    let at : k - n ≡ j = omega arith in
    ap (λ ys. get_or ys k 0) (sym e) ∙ get_or-append_right front (code ++ more) n k 0 len (omega arith) ∙ ap (λ i. get_or (code ++ more) i 0) at
    ∙ get_or_append_left code more 0 j lt

utf8_inside : (s t : ℕ) (front more : List ℕ) → IsScalar s → IsScalar t → front ++ (utf8 t ++ more) ≡ utf8 s → front ≡ []
utf8_inside s t front more hs ht e =
    let some = utf8_is_code.some t ht in
    let len = three_lengths front (utf8 t) more (utf8 s) e in
    ⊎_elim
    (λ (inside : 0 < length front).
    absurd (utf8_is_code.apart s t (length front) hs ht inside (omega arith) (second_of_three front (utf8 t) more (utf8 s) (length front) 0 (length front) e refl (omega arith) some)))
    (λ (none : length front ≤ 0). empty front (omega arith))
    (cases_lt 0 (length front))

-- Units have two bytes each.
record HasPairs (xs : List ℕ) : Type 0 where
  pub count : ℕ
  pub even : length xs ≡ 2 * count

one_pair : (high : Bool) (s : ℕ) → s < 0x1_0000 → length (flat_map (bytes_of high) (utf16 s)) ≡ 2
one_pair high s low = omega (arith, two_bytes high (utf16 s), one_unit s low)

two_pairs : (high : Bool) (s : ℕ) → 0x1_0000 ≤ s → length (flat_map (bytes_of high) (utf16 s)) ≡ 4
two_pairs high s wide = omega (arith, two_bytes high (utf16 s), two_units s wide)

have_pairs : (high : Bool) (ts : List ℕ) → HasPairs (flat_map (λ s. flat_map (bytes_of high) (utf16 s)) ts)
have_pairs high [] = record { count = 0; even = refl }
have_pairs high (t ∷ ts) =
    let rest = have_pairs high ts in
    let even = rest.even in
    let len = length-append (flat_map (bytes_of high) (utf16 t)) (flat_map (λ s. flat_map (bytes_of high) (utf16 s)) ts) in
    ⊎_elim
    (λ (low : t < 0x1_0000). let one = one_pair high t low in record { count = 1 + rest.count; even = omega arith })
    (λ (wide : 0x1_0000 ≤ t). let two = two_pairs high t wide in record { count = 2 + rest.count; even = omega arith })
    (cases_lt t 0x1_0000)

-- the second unit of a pair is no code
no_trailing_code : (high : Bool) (s t : ℕ) → 0x1_0000 ≤ s → s < 0x11_0000 → t < 0x1_0000 → IsScalar t
    → get_or (flat_map (bytes_of high) (utf16 s)) 2 0 ≡ get_or (flat_map (bytes_of high) (utf16 t)) 0 0
    → get_or (flat_map (bytes_of high) (utf16 s)) 3 0 ≡ get_or (flat_map (bytes_of high) (utf16 t)) 1 0 → ⊥
no_trailing_code true s t wide below low ht a b =
    let gap = ht.no_surrogate in
    let x : (0xDC00 + (s - 0x1_0000) % 1024) / 256 ≡ t / 256 = rw (utf16-2 s wide, utf16-1 t low) at a in
    let y : (0xDC00 + (s - 0x1_0000) % 1024) % 256 ≡ t % 256 = rw (utf16-2 s wide, utf16-1 t low) at b in
    let same : 0xDC00 + (s - 0x1_0000) % 1024 ≡ t = omega arith in
    let above = gap (omega arith) in
    omega arith
no_trailing_code false s t wide below low ht a b =
    let gap = ht.no_surrogate in
    let x : (0xDC00 + (s - 0x1_0000) % 1024) % 256 ≡ t % 256 = rw (utf16-2 s wide, utf16-1 t low) at a in
    let y : (0xDC00 + (s - 0x1_0000) % 1024) / 256 ≡ t / 256 = rw (utf16-2 s wide, utf16-1 t low) at b in
    let same : 0xDC00 + (s - 0x1_0000) % 1024 ≡ t = omega arith in
    let above = gap (omega arith) in
    omega arith

units_inside : (high : Bool) (s t : ℕ) (front ts : List ℕ) → IsScalar s → IsScalar t
    → front ++ (flat_map (bytes_of high) (utf16 t) ++ flat_map (λ u. flat_map (bytes_of high) (utf16 u)) ts) ≡ flat_map (bytes_of high) (utf16 s) → front ≡ []
units_inside high s t front ts hs ht e =
    let code = flat_map (bytes_of high) (utf16 t) in
    let more = flat_map (λ u. flat_map (bytes_of high) (utf16 u)) ts in
    let len = three_lengths front code more (flat_map (bytes_of high) (utf16 s)) e in
    let pairs = have_pairs high ts in
    let even = pairs.even in
    ⊎_elim
    (λ (low : s < 0x1_0000).
    let all = one_pair high s low in
    ⊎_elim
    (λ (narrow : t < 0x1_0000). let one = one_pair high t narrow in empty front (omega arith))
    (λ (broad : 0x1_0000 ≤ t). let two = two_pairs high t broad in empty front (omega arith))
    (cases_lt t 0x1_0000))
    (λ (wide : 0x1_0000 ≤ s).
    let all = two_pairs high s wide in
    ⊎_elim
    (λ (narrow : t < 0x1_0000).
    let one = one_pair high t narrow in
    ⊎_elim
    (λ (inside : 0 < length front).
    let two : length front ≡ 2 = omega arith in
    absurd (no_trailing_code high s t wide hs.below narrow ht
    (second_of_three front code more (flat_map (bytes_of high) (utf16 s)) 2 0 2 e two refl (omega arith))
    (second_of_three front code more (flat_map (bytes_of high) (utf16 s)) 2 1 3 e two refl (omega arith))))
    (λ (none : length front ≤ 0). empty front (omega arith))
    (cases_lt 0 (length front)))
    (λ (broad : 0x1_0000 ≤ t). let two = two_pairs high t broad in empty front (omega arith))
    (cases_lt t 0x1_0000))
    (cases_lt s 0x1_0000)

code_inside : (to : Form) (s t : ℕ) (front ts : List ℕ) → IsScalar s → IsScalar t → front ++ (written to t ++ flat_map (written to) ts) ≡ written to s → front ≡ []
code_inside = by_form _ (λ s t front ts hs ht e. utf8_inside s t front (flat_map utf8 ts) hs ht e) (λ high. rw (is_units high, written) (units_inside high))

-- Two lists that begin with codes are the same only if the codes are.

utf8_alike : (s t : ℕ) (x y : List ℕ) → IsScalar s → IsScalar t → utf8 s ++ x ≡ utf8 t ++ y → s ≡ t
utf8_alike s t x y hs ht e =
    let some = utf8_is_code.some s hs in
    let other = utf8_is_code.some t ht in
    let first : get_or (utf8 s) 0 0 ≡ get_or (utf8 t) 0 0 = sym (get_or_append_left (utf8 s) x 0 0 some) ∙ ap (λ ys. get_or ys 0 0) e ∙ get_or_append_left (utf8 t) y 0 0 other in
    let len = utf8_is_code.sized s t hs ht first in
    utf8_is_code.injective s t hs ht (sym (take-append_seam (utf8 s) x) ∙ ap (take (length (utf8 s))) e ∙ ap (λ n. take n (utf8 t ++ y)) len ∙ take-append_seam (utf8 t) y)

-- the bytes of U+FFFD begin no other code of units
units_of_replacement : (high : Bool) (s : ℕ) → IsScalar s
    → get_or (flat_map (bytes_of high) (utf16 s)) 0 0 ≡ get_or (flat_map (bytes_of high) (utf16 0xFFFD)) 0 0
    → get_or (flat_map (bytes_of high) (utf16 s)) 1 0 ≡ get_or (flat_map (bytes_of high) (utf16 0xFFFD)) 1 0 → s ≡ 0xFFFD
units_of_replacement true s hs a b =
    let below = hs.below in
    ⊎_elim
    (λ (low : s < 0x1_0000).
    let x : s / 256 ≡ 0xFF = rw (utf16-1 s low, utf16-1 0xFFFD (lit< tt)) at a in
    let y : s % 256 ≡ 0xFD = rw (utf16-1 s low, utf16-1 0xFFFD (lit< tt)) at b in
    omega arith)
    (λ (wide : 0x1_0000 ≤ s).
    let x : (0xD800 + (s - 0x1_0000) / 1024) / 256 ≡ 0xFF = rw (utf16-2 s wide, utf16-1 0xFFFD (lit< tt)) at a in
    absurd (omega arith))
    (cases_lt s 0x1_0000)
units_of_replacement false s hs a b =
    let below = hs.below in
    ⊎_elim
    (λ (low : s < 0x1_0000).
    let x : s % 256 ≡ 0xFD = rw (utf16-1 s low, utf16-1 0xFFFD (lit< tt)) at a in
    let y : s / 256 ≡ 0xFF = rw (utf16-1 s low, utf16-1 0xFFFD (lit< tt)) at b in
    omega arith)
    (λ (wide : 0x1_0000 ≤ s).
    let x : (0xD800 + (s - 0x1_0000) / 1024) / 256 ≡ 0xFF = rw (utf16-2 s wide, utf16-1 0xFFFD (lit< tt)) at b in
    absurd (omega arith))
    (cases_lt s 0x1_0000)

at_front : (code other x y : List ℕ) (k : ℕ) → code ++ x ≡ other ++ y → k < length code → k < length other → get_or code k 0 ≡ get_or other k 0
at_front code other x y k e lt less = sym (get_or_append_left code x 0 k lt) ∙ ap (λ ys. get_or ys k 0) e ∙ get_or_append_left other y 0 k less

units_alike : (high : Bool) (s : ℕ) (x y : List ℕ) → IsScalar s → flat_map (bytes_of high) (utf16 s) ++ x ≡ flat_map (bytes_of high) (utf16 0xFFFD) ++ y → s ≡ 0xFFFD
units_alike high s x y hs e =
    let two = two_bytes high (utf16 s) in
    let some = utf16_is_code.some s hs in
    let other = two_bytes high (utf16 0xFFFD) in
    let one = utf16_is_code.some 0xFFFD replacement in
    units_of_replacement high s hs (at_front _ _ x y 0 e (omega arith) (omega arith)) (at_front _ _ x y 1 e (omega arith) (omega arith))

replacement_alike : (to : Form) (s : ℕ) (x y : List ℕ) → IsScalar s → written to s ++ x ≡ written to 0xFFFD ++ y → s ≡ 0xFFFD
replacement_alike = by_form _ (λ s x y hs e. utf8_alike s 0xFFFD x y hs replacement e) (λ high. rw (is_units high, written) (units_alike high))

-- No output for the front of a code can be written.

same_output : (from to : Form) (bytes out other : List ℕ) → IsRecoded from to bytes out → IsRecoded from to bytes other → out ≡ other
same_output from to bytes out other h k = let o = recoded_once from to bytes in o.2 out h ∙ sym (o.2 other k)

front_of_none : (xs ys : List ℕ) → xs ++ ys ≡ [] → xs ≡ []
front_of_none [] ys e = refl
front_of_none (x ∷ xs) ys e = absurd cc

-- the output before that of the rest is part of one code: so it is empty, or that code
before_one_code : (from to : Form) (bytes out later : List ℕ) (s : ℕ) → IsScalar s → IsRecoded from to bytes later → out ++ later ≡ written to s → (out ≡ written to s → ⊥) → out ≡ []
before_one_code from to bytes out later s hs ([], h, f) e not_all = absurd (not_all (sym (append-nil out) ∙ ap (λ ys. out ++ ys) (sym f) ∙ e))
before_one_code from to bytes out later s hs (t ∷ ts, h, f) e not_all = code_inside to s t out ts hs (read_are_scalars from bytes (t ∷ ts) h 0 0 (omega arith)) (ap (λ ys. out ++ ys) (sym f) ∙ e)

nothing_of_front : (from to : Form) (w out left : List ℕ) → IsProperFront (written from) w → Continues from to w out left → out ≡ []
nothing_of_front from to w out left f c =
    ⊎_elim
    (λ (some : 0 < length w).
    let u = fronts_are_undecided from w some f in
    let alone = recoded_once from to (left ++ []) in
    let followed = recoded_once from to (left ++ u.later) in
    let first : out ++ alone.0 ≡ written to 0xFFFD ++ flat_map (written to) u.alone.0
    = same_output from to w (out ++ alone.0) (written to 0xFFFD ++ flat_map (written to) u.alone.0) (rw (append-nil w) at (c [] alone.0 alone.1)) (0xFFFD ∷ u.alone.0, u.alone.1, refl) in
    let second : out ++ followed.0 ≡ written to u.char
    = same_output from to (w ++ u.later) (out ++ followed.0) (written to u.char) (c u.later followed.0 followed.1) (u.char ∷ [], u.followed, sym (append-nil (written to u.char))) in
    before_one_code from to (left ++ u.later) out followed.0 u.char u.scalar followed.1 second
    (λ e. u.other (replacement_alike to u.char alone.0 (flat_map (written to) u.alone.0) u.scalar (rw e at first))))
    (λ (none : length w ≤ 0).
    let nothing : w ≡ [] = empty w (omega arith) in
    let alone = recoded_once from to (left ++ []) in
    let whole : IsRecoded from to [] (out ++ alone.0) = rw (append-nil w, nothing) at (c [] alone.0 alone.1) in
    front_of_none out alone.0 (same_output from to [] (out ++ alone.0) [] whole (recoded_nothing from to)))
    (cases_lt 0 (length w))

-- No output is ahead of a recoder's.

joined_back : (old more rest : List ℕ) (n : ℕ) → n ≡ length old → take n more ≡ old → old ++ (drop n more ++ rest) ≡ more ++ rest
joined_back old more rest n len front =
    sym (append_assoc old (drop n more) rest) ∙ ap (λ ys. ys ++ rest) (ap (λ ys. ys ++ drop n more) (sym front) ∙ take-append-drop n more)

pub nothing_comes_earlier : NothingComesEarlier
nothing_comes_earlier from to bytes grown held more other f g h =
    ⊎_elim
    (λ (ahead : length grown < length more).
    let n = length grown in
    let mine = recoded_once from to (held ++ []) in
    let theirs = recoded_once from to (other ++ []) in
    let same : grown ++ mine.0 ≡ more ++ theirs.0 = same_output from to (bytes ++ []) (grown ++ mine.0) (more ++ theirs.0) (g [] mine.0 mine.1) (h [] theirs.0 theirs.1) in
    let front : take n more ≡ grown = sym (take-append-le n more theirs.0 (omega arith)) ∙ ap (take n) (sym same) ∙ take-append_seam grown mine.0 in
    let left : Continues from to held (drop n more) other
    = λ later rest r.
    let o = recoded_once from to (held ++ later) in
    let both : grown ++ o.0 ≡ grown ++ (drop n more ++ rest)
    = same_output from to (bytes ++ later) (grown ++ o.0) (more ++ rest) (g later o.0 o.1) (h later rest r) ∙ sym (joined_back grown more rest n refl front) in
    let e : o.0 ≡ drop n more ++ rest = sym (drop-append_seam grown o.0) ∙ ap (drop n) both ∙ drop-append_seam grown (drop n more ++ rest) in
    rw e at o.1 in
    let none : length (drop n more) ≡ 0 = ap length (nothing_of_front from to held (drop n more) other f left) in
    absurd (omega (arith, length-drop n more)))
    (λ (le : length more ≤ length grown). le)
    (cases_lt (length grown) (length more))
