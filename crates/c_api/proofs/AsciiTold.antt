-- The decoder's result for ASCII characters, and the marks of characters.
use Rattle.std.proofs.Common.{◌≡◌, ℕ, ◌<◌, ◌≤◌, get_or, map, refl, arith, ◌∙◌, ap}
use Rattle.std.proofs.lemmas.List.FromFn.{get_or-map-range_with_len}
use Rattle.std.specs.List.{range_with_len}
use Rattle.c_api.specs.Decoders.{ascii_told_of, character_mark_of}
use Rattle.c_api.specs.declared.decoders.NodyMark.{NodyMark}
use Rattle.c_api.specs.declared.decoders.NodyTold.{NodyTold}
use Rattle.c_api.specs.declared.decoders.TheConstants.{MARKS, TOLD}

-- The whole table, computed.
told : TOLD ≡ map ascii_told_of (range_with_len 0 128)
told = refl

pub told_at : (b : ℕ) (d : NodyTold) → b < 128 → get_or TOLD b d ≡ ascii_told_of b
told_at b d lt = ap (λ xs. get_or xs b d) told ∙ get_or-map-range_with_len ascii_told_of 0 128 b b d lt (omega arith)

marks : MARKS ≡ map character_mark_of (range_with_len 0 5)
marks = refl

pub mark_at : (n : ℕ) (d : NodyMark) → n ≤ 4 → get_or MARKS n d ≡ character_mark_of n
mark_at n d le = ap (λ xs. get_or xs n d) marks ∙ get_or-map-range_with_len character_mark_of 0 5 n n d (omega arith) (omega arith)
