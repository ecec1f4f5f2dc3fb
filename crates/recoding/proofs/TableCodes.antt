-- The codes of the tables that have names, each computed.
use Rattle.std.proofs.Common.{◌≡◌, ℕ, zero, suc, ◌+◌, ◌-◌, ◌%◌, ◌<◌, ◌≤◌, Bool, true, List, [], ◌∷◌, ◌++◌, length, get_or, map, flat_map, take, None, ⊎_elim, arith, refl, sym, ap, ◌∙◌, length-append}
use Rattle.std.specs.Prelude.{nat_le, slice_get}
use Rattle.std.proofs.lemmas.Bool.{cases_lt}
use Rattle.std.proofs.lemmas.Bool.Decides.{nat_tests}
use Rattle.utf_base.specs.Code.{utf8}
use Rattle.utf_lanes.specs.Mending.{IsCodeShown, scalars_of}
use Rattle.recoding.specs.declared.repair.TheConstants.{LATIN_1_CODES, NO_CODES, WINDOWS_1252_CODES}
use Rattle.recoding.specs.RepairTables.{AreCodes, char_of_entry, latin_1, short_scalar, windows_1252}

-- the code in an entry, and whether its length is at most three
abbrev code_in : List ℕ → List ℕ
code_in xs = take (get_or xs 3 0) xs

abbrev is_few : List ℕ → Bool
is_few xs = nat_le (get_or xs 3 0) 3

few : (n : ℕ) → nat_le n 3 ≡ true → n ≤ 3
few n e = grind (arith, nat_tests)

codes_at : (table : List ℕ) (codes : List (List ℕ)) → map code_in codes ≡ map (λ n. flat_map utf8 (scalars_of (short_scalar n))) table → map is_few codes ≡ map (λ n. true) table
    → (k : ℕ) → k < length table → IsCodeShown (char_of_entry (slice_get table k)) (get_or codes k [])
codes_at [] codes e f k lt = absurd (omega arith)
codes_at (n ∷ table) [] e f k lt = absurd cc
codes_at (n ∷ table) (c ∷ codes) e f zero lt = record { few = few (get_or c 3 0) cc; code = cc }
codes_at (n ∷ table) (c ∷ codes) e f (suc k) lt = codes_at table codes (cc) (cc) k (omega arith)

-- an entry of a list that stands twice
entry_before : (xs ys : List ℕ) (k : ℕ) → k < length xs → slice_get (xs ++ ys) k ≡ slice_get xs k
entry_before [] ys k lt = absurd (omega arith)
entry_before (x ∷ xs) ys zero lt = refl
entry_before (x ∷ xs) ys (suc k) lt = entry_before xs ys k (omega arith)

entry_after : (xs ys : List ℕ) (n k : ℕ) → n ≡ length xs + k → slice_get (xs ++ ys) n ≡ slice_get ys k
entry_after [] ys n k e = ap (slice_get ys) (omega arith)
entry_after (x ∷ xs) ys zero k e = absurd (omega arith)
entry_after (x ∷ xs) ys (suc n) k e = entry_after xs ys n k (omega arith)

entry_twice : (table : List ℕ) → length table ≡ 128 → (byte : ℕ) → byte < 256 → slice_get (table ++ table) byte ≡ slice_get table (byte % 0x80)
entry_twice table len byte lt =
    ⊎_elim
    (λ (low : byte < 128).
    let same : byte % 0x80 ≡ byte = omega arith in
    entry_before table table byte (omega (arith, len)) ∙ ap (slice_get table) (sym same))
    (λ (high : 128 ≤ byte).
    let rest : byte % 0x80 ≡ byte - 128 = omega arith in
    entry_after table table byte (byte - 128) (omega (arith, len)) ∙ ap (slice_get table) (sym rest))
    (cases_lt byte 128)

codes_twice : (table : List ℕ) (codes : List (List ℕ)) → length table ≡ 128
    → map code_in codes ≡ map (λ n. flat_map utf8 (scalars_of (short_scalar n))) (table ++ table) → map is_few codes ≡ map (λ n. true) (table ++ table)
    → AreCodes table codes
codes_twice table codes len e f byte lt =
    rw (entry_twice table len byte lt) at (codes_at (table ++ table) codes e f byte (omega (arith, length-append table table, len)))

pub latin_1_codes : AreCodes latin_1 LATIN_1_CODES
unfolding utf8
latin_1_codes = codes_twice latin_1 LATIN_1_CODES refl refl refl

pub windows_1252_codes : AreCodes windows_1252 WINDOWS_1252_CODES
unfolding utf8
windows_1252_codes = codes_twice windows_1252 WINDOWS_1252_CODES refl refl refl

-- nothing has a code
none_at : (codes : List (List ℕ)) → map code_in codes ≡ map (λ c. []) codes → map is_few codes ≡ map (λ c. true) codes → (k : ℕ) → IsCodeShown None (get_or codes k [])
none_at [] e f k = record { few = omega arith; code = refl }
none_at (c ∷ codes) e f zero = record { few = few (get_or c 3 0) cc; code = cc }
none_at (c ∷ codes) e f (suc k) = none_at codes (cc) (cc) k

pub no_codes : AreCodes [] NO_CODES
no_codes byte lt = none_at NO_CODES refl refl byte
