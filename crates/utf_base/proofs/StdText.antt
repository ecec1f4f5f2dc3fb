-- The code of a scalar is std's, so it is text.
use Rattle.std.proofs.Common.{◌≡◌, ℕ, ◌⊎◌, inl, inr, List, [], ◌∷◌, ◌++◌, refl, ap, sym, ◌∙◌, arith}
use Rattle.std.proofs.lemmas.List.{append-nil}
use Rattle.std.specs.List.{flat_map}
use Rattle.std.specs.Str.{IsUtf8}
use Rattle.std.specs.Prelude.{encode_utf8_all}
use Rattle.std.proofs.lemmas.Grind.{common_steps}
use Rattle.std.specs.Char.{encode_utf8, IsScalar as IsStdScalar}
use Rattle.utf_base.specs.Scalar.{IsScalar}
use Rattle.utf_base.specs.Code.{utf8}
use Rattle.utf_base.specs.Piece.{Stands}
use Rattle.utf_base.proofs.Standing.{stands_first}

pub utf8_is_std : (s : ℕ) → encode_utf8 s ≡ utf8 s
unfolding utf8 encode_utf8
utf8_is_std s = refl

-- the codes of a list of scalars are std's too
pub encodes_are_codes : (cs : List ℕ) → encode_utf8_all cs ≡ flat_map utf8 cs
encodes_are_codes [] = refl
encodes_are_codes (c ∷ cs) = rw (encodes_are_codes cs, utf8_is_std c) refl

pub scalar_for_std : (s : ℕ) → IsScalar s → IsStdScalar s
scalar_for_std s h = grind (arith, common_steps)

pub scalar_from_std : (s : ℕ) → IsStdScalar s → IsScalar s
scalar_from_std s h = record { below = grind (arith, common_steps); no_surrogate = λ g. grind (arith, common_steps) }

pub utf8_is_text : (s : ℕ) → IsScalar s → IsUtf8 (utf8 s)
utf8_is_text s h =
    let e = scalar_for_std s h in
    (s ∷ [], (rw e refl, append-nil (encode_utf8 s) ∙ utf8_is_std s))

-- a text is empty, or a code begins it
pub text_begins : (text : List ℕ) → IsUtf8 text → (text ≡ []) ⊎ ((s : ℕ) × Stands utf8 text 0 s)
text_begins text ([], (all, e)) = inl (sym e)
text_begins text (s ∷ rest, (all, e)) =
    let scalar : IsStdScalar s = grind (arith, common_steps) in
    inr (s, stands_first utf8 text (encode_utf8_all rest) s (scalar_from_std s scalar) (sym e ∙ ap (λ code. code ++ encode_utf8_all rest) (utf8_is_std s)))
