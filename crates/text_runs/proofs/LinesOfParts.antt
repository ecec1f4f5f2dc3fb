-- The lines of some parts: taken from the front and from the end, and that they are std's lines.
use Rattle.std.proofs.Common.{◌≡◌, ℕ, ◌<◌, ◌≤◌, Bool, true, false, nat_eq, List, [], ◌∷◌, ◌++◌, length, map, refl, ap, sym, ◌∙◌, arith, append-nil, length-append}
use Rattle.std.proofs.lemmas.List.{length-map}
use Rattle.std.specs.Prelude.{IfSome, None, Option, Some, if◌then◌else◌}
use Rattle.std.specs.Iterator.{UpTo, item_count}
use Rattle.std.specs.Str.Lines.{lines, lines_of_parts}
use Rattle.text_runs.proofs.SplitLemmas.{split_bytes}
use Rattle.text_runs.specs.Splits.{PlacedBytes, ended_line, lines_by, lines_left, lines_of, split_by}

-- the first line
pub first_line : (x : PlacedBytes) (parts : List PlacedBytes) → 0 < length parts → lines_of (x ∷ parts) ≡ ended_line x ∷ lines_of parts
first_line x [] some = absurd (omega arith)
first_line x (y ∷ parts) some = refl

-- the last line, if the last part has bytes and if it has none
last_of_lines : (parts : List PlacedBytes) (x : PlacedBytes) → lines_of (parts ++ x ∷ []) ≡ map ended_line parts ++ lines_of (x ∷ [])
last_of_lines [] x = refl
last_of_lines (y ∷ []) x = refl
last_of_lines (y ∷ z ∷ parts) x = ap (λ l. ended_line y ∷ l) (last_of_lines (z ∷ parts) x)

pub last_line : (parts : List PlacedBytes) (x : PlacedBytes) → nat_eq (length x.bytes) 0 ≡ false → lines_of (parts ++ x ∷ []) ≡ map ended_line parts ++ x ∷ []
last_line parts x some = rw (last_of_lines parts x, some) refl

pub no_last_line : (parts : List PlacedBytes) (x : PlacedBytes) → nat_eq (length x.bytes) 0 ≡ true → lines_of (parts ++ x ∷ []) ≡ map ended_line parts
no_last_line parts x none = last_of_lines parts x ∙ rw none (append-nil (map ended_line parts))

pub ended_push : (parts : List PlacedBytes) (x : PlacedBytes) → map ended_line (parts ++ x ∷ []) ≡ map ended_line parts ++ ended_line x ∷ []
ended_push [] x = refl
ended_push (y ∷ parts) x = ap (λ l. ended_line y ∷ l) (ended_push parts x)

-- without their offsets they are std's
line_bytes : (parts : List PlacedBytes) → map (λ x. x.bytes) (lines_of parts) ≡ lines_of_parts (map (λ x. x.bytes) parts)
line_bytes [] = refl
line_bytes (x ∷ []) = by_len (nat_eq (length x.bytes) 0)
  where
    by_len : (b : Bool) → map (λ y. y.bytes) (if b then [] else x ∷ []) ≡ (if b then [] else x.bytes ∷ [])
    by_len true = refl
    by_len false = refl
line_bytes (x ∷ y ∷ parts) = ap (λ l. (ended_line x).bytes ∷ l) (line_bytes (y ∷ parts))

pub are_lines : (xs : List ℕ) → map (λ x. x.bytes) (lines_by xs) ≡ lines xs
are_lines xs = line_bytes (split_by 10 xs) ∙ ap lines_of_parts (split_bytes 10 xs)

pub few_lines : (parts : List PlacedBytes) → length (lines_of parts) ≤ length parts
few_lines [] = omega arith
few_lines (x ∷ []) = by_len (nat_eq (length x.bytes) 0)
  where
    by_len : (b : Bool) → length {A = PlacedBytes} (if b then [] else x ∷ []) ≤ 1
    by_len true = omega arith
    by_len false = omega arith
few_lines (x ∷ y ∷ parts) = let rest = few_lines (y ∷ parts) in omega arith

-- no more lines than parts are left, so what bounds the parts bounds the lines
fewer_left : (ended : Bool) (parts : List PlacedBytes) → length (lines_left ended parts) ≤ length parts
fewer_left true parts = let same = length-map parts ended_line in omega arith
fewer_left false parts = few_lines parts

pub few_left : {s : List PlacedBytes} (ended : Bool) (parts : List PlacedBytes) (most : Option ℕ) → lines_left ended parts ≡ s → IfSome most (UpTo (item_count (λ left. left) parts)) → IfSome most (UpTo (item_count (λ left. left) s))
few_left ended parts None view h = h
few_left ended parts (Some n) view h = let fewer = fewer_left ended parts in let same = ap length view in omega arith

-- the number of lines left before the last
all_lines : {s parts : List PlacedBytes} {ended : Bool} (rest : List PlacedBytes) (x : PlacedBytes) → lines_left ended parts ≡ s → ended ≡ false → parts ≡ rest ++ x ∷ [] → lines_of (rest ++ x ∷ []) ≡ s
all_lines {s} {parts} {ended} rest x view open_end taken = ap lines_of (sym taken) ∙ ap (λ b. lines_left b parts) (sym open_end) ∙ view

pub fewer_before : {s parts : List PlacedBytes} {ended empty : Bool} (rest : List PlacedBytes) (x : PlacedBytes) → lines_left ended parts ≡ s → ended ≡ false → parts ≡ rest ++ x ∷ []
    → empty ≡ nat_eq (length x.bytes) 0 → empty ≡ false → length (map ended_line rest) < length s
fewer_before rest x view open_end taken is some =
    let long = ap length (sym (last_line rest x (sym is ∙ some)) ∙ all_lines rest x view open_end taken) in
    let both = length-append (map ended_line rest) (x ∷ []) in
    omega arith

pub fewer_before_empty : {s parts : List PlacedBytes} {ended empty : Bool} (rest others : List PlacedBytes) (x y : PlacedBytes) → lines_left ended parts ≡ s → ended ≡ false → parts ≡ rest ++ x ∷ []
    → empty ≡ nat_eq (length x.bytes) 0 → empty ≡ true → rest ≡ others ++ y ∷ [] → length (map ended_line others) < length s
fewer_before_empty rest others x y view open_end taken is none line =
    let long = ap length (sym (ended_push others y) ∙ ap (map ended_line) (sym line) ∙ sym (no_last_line rest x (sym is ∙ none)) ∙ all_lines rest x view open_end taken) in
    let both = length-append (map ended_line others) (ended_line y ∷ []) in
    omega arith
