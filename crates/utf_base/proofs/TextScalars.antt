-- A text is the codes of some scalars, joined.
use Rattle.std.proofs.Common.{◌≡◌, ℕ, List, [], ◌∷◌, sym, ◌∙◌, arith, true}
use Rattle.std.proofs.lemmas.Grind.{common_steps}
use Rattle.std.proofs.lemmas.List.Elements.{All-cons, All-nil}
use Rattle.std.specs.Char.{IsScalar as IsStdScalar}
use Rattle.std.specs.Prelude.{All}
use Rattle.std.specs.Str.{IsUtf8, all_scalars}
use Rattle.utf_base.specs.Scalar.{IsScalar}
use Rattle.utf_base.specs.Code.{utf8}
use Rattle.utf_base.specs.CutLaws.{IsJoined}
use Rattle.utf_base.proofs.StdText.{encodes_are_codes, scalar_from_std}

scalars_more : (s : ℕ) (rest : List ℕ) → all_scalars (s ∷ rest) ≡ true → IsStdScalar s × (all_scalars rest ≡ true)
scalars_more s rest h = (grind (arith, common_steps), grind (arith, common_steps))

pub all_scalar : (scalars : List ℕ) → all_scalars scalars ≡ true → All IsScalar scalars
all_scalar [] h = All-nil IsScalar
all_scalar (s ∷ rest) h =
    let w = scalars_more s rest h in
    All-cons IsScalar s rest (scalar_from_std s w.0) (all_scalar rest w.1)

pub joined_from_text : (xs : List ℕ) → IsUtf8 xs → (scalars : List ℕ) × IsJoined utf8 xs scalars
joined_from_text xs (scalars, (all, e)) = (scalars, (all_scalar scalars all, sym e ∙ encodes_are_codes scalars))
