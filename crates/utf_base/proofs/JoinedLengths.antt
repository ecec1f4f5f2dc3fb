-- The codes of scalars, joined.
use Rattle.std.proofs.Common.{◌≡◌, ℕ, suc, ◌+◌, ◌*◌, ◌<◌, ◌≤◌, List, [], ◌∷◌, length, arith, length-append}
use Rattle.std.proofs.Math.Nat.{mul-suc}
use Rattle.std.proofs.lemmas.Grind.{common_steps}
use Rattle.std.specs.List.{flat_map}
use Rattle.utf_base.specs.Code.{utf8, utf16}

pub some_utf8 : (s : ℕ) → 0 < length (utf8 s)
unfolding utf8
some_utf8 s = grind (arith, common_steps)

pub some_utf16 : (s : ℕ) → 0 < length (utf16 s)
unfolding utf16
some_utf16 s = grind (arith, common_steps)

-- joined codes have at least as many elements as there are scalars, and at most m times as many, if no code
-- is longer than m
pub joined_bounds : (code : ℕ → List ℕ) (m : ℕ) → ((s : ℕ) → 0 < length (code s)) → ((s : ℕ) → length (code s) ≤ m) → (ss : List ℕ)
    → (length ss ≤ length (flat_map code ss)) × (length (flat_map code ss) ≤ m * length ss)
joined_bounds code m some short [] = (omega arith, omega arith)
joined_bounds code m some short (s ∷ ss) =
    let rest = joined_bounds code m some short ss in
    let least = some s in
    let most = short s in
    let len = length-append (code s) (flat_map code ss) in
    let times : m * suc (length ss) ≡ m * length ss + m = mul-suc m (length ss) in
    (omega arith, omega arith)
