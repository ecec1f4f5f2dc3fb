-- The codes of characters, as std has them.
use Rattle.std.proofs.Common.{◌≡◌, ℕ, List, [], ◌∷◌, ◌++◌, refl, ap₂, true, arith, flat_map}
use Rattle.std.specs.Str.{all_scalars}
use Rattle.std.specs.Prelude.{encode_utf8_all}
use Rattle.std.proofs.lemmas.Grind.{common_steps}
use Rattle.std.specs.Char.{encode_utf8, IsScalar as IsStdScalar}
use Rattle.utf_base.specs.Code.{utf8}
use Rattle.utf_base.proofs.StdText.{utf8_is_std}

pub scalars_more : (s : ℕ) (rest : List ℕ) → all_scalars (s ∷ rest) ≡ true → IsStdScalar s × (all_scalars rest ≡ true)
scalars_more s rest h = (grind (arith, common_steps), grind (arith, common_steps))

pub codes_of_characters : (cs : List ℕ) → encode_utf8_all cs ≡ flat_map utf8 cs
codes_of_characters [] = refl
codes_of_characters (s ∷ rest) = ap₂ (λ xs ys. xs ++ ys) (utf8_is_std s) (codes_of_characters rest)
