-- An ASCII text that is in some bytes.
use Rattle.std.proofs.Common.{◌≡◌, ℕ, ◌+◌, ◌<◌, ◌≤◌, List, length, get_or, arith, ap, sym, ◌∙◌}
use Rattle.std.proofs.lemmas.Grind.{common_steps}
use Rattle.std.specs.Prelude.{All, slice_range}
use Rattle.encode_unicode.specs.CutLaws.{AsciiStandsAlone}
use Rattle.examples.specs.Needles.{AreOwnPieces, StandsAt}

at_range : (xs : List ℕ) (p n k : ℕ) → p + n ≤ length xs → k < n → get_or (slice_range xs p (p + n)) k 0 ≡ get_or xs (p + k) 0
at_range xs p n k le lt = grind (arith, common_steps)

pub own_pieces : AsciiStandsAlone → (xs needle : List ℕ) (p : ℕ) → All (λ b. b < 128) needle → StandsAt xs needle p → AreOwnPieces xs needle p
own_pieces alone xs needle p ascii there k lt =
    let within = there.within in
    let same : get_or xs (p + k) 0 ≡ get_or needle k 0 = sym (at_range xs p (length needle) k within lt) ∙ ap (λ l. get_or l k 0) there.equal in
    let low : get_or xs (p + k) 0 < 128 = rw same (ascii k 0 lt) in
    rw same at (alone xs (p + k) (omega arith) low)
