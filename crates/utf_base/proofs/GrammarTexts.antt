-- Codes of scalars, joined, are the UTF8-octets of RFC 3629, section 4, and what std calls text.
use Rattle.std.proofs.Common.{◌≡◌, ℕ, suc, List, [], ◌∷◌, ◌++◌, refl, ap, ap₂, sym, ◌∙◌, arith, true, flat_map}
use Rattle.std.proofs.lemmas.Grind.{common_steps}
use Rattle.std.proofs.lemmas.List.Elements.{All-cons, All-nil}
use Rattle.std.specs.Prelude.{All, map}
use Rattle.std.specs.Char.{IsScalar as IsStdScalar}
use Rattle.std.specs.Str.{IsUtf8, all_scalars}
use Rattle.utf_base.specs.Scalar.{IsScalar}
use Rattle.utf_base.specs.Code.{utf8}
use Rattle.utf_base.specs.CutLaws.{IsJoined}
use Rattle.utf_base.specs.Grammar.{IsUtf8Char, IsUtf8Octets}
use Rattle.utf_base.specs.GrammarLaws.{TextsAreTheGrammar}
use Rattle.utf_base.proofs.GrammarLemmas.{char_encodes, code_is_char}
use Rattle.utf_base.proofs.ShownTexts.{codes_of_characters, scalars_more}
use Rattle.utf_base.proofs.StdText.{scalar_for_std, scalar_from_std}

-- Each scalar's code is one character of the grammar.

each_char : (scalars : List ℕ) → All IsScalar scalars → All IsUtf8Char (map utf8 scalars)
each_char [] all = All-nil IsUtf8Char
each_char (s ∷ scalars) all =
    All-cons IsUtf8Char (utf8 s) (map utf8 scalars) (code_is_char s (all 0 s (omega arith))) (each_char scalars (λ k d h. all (suc k) d (omega arith)))

chars_joined : (scalars : List ℕ) → flat_map utf8 scalars ≡ flat_map (λ char. char) (map utf8 scalars)
chars_joined [] = refl
chars_joined (s ∷ scalars) = ap (λ xs. utf8 s ++ xs) (chars_joined scalars)

pub grammar_of_joined : (w scalars : List ℕ) → IsJoined utf8 w scalars → IsUtf8Octets w
grammar_of_joined w scalars h = record { chars = map utf8 scalars; each = each_char scalars h.0; joined = h.1 ∙ chars_joined scalars }

-- Each character of the grammar is the code of a scalar.

record Joined (w : List ℕ) : Type 0 where
  pub scalars : List ℕ
  pub all : All IsScalar scalars
  pub equal : w ≡ flat_map utf8 scalars

joined_of_chars : (chars : List (List ℕ)) → All IsUtf8Char chars → Joined (flat_map (λ char. char) chars)
joined_of_chars [] all = record { scalars = []; all = All-nil IsScalar; equal = refl }
joined_of_chars (char ∷ chars) all =
    let first = char_encodes char (all 0 char (omega arith)) in
    let rest = joined_of_chars chars (λ k d h. all (suc k) d (omega arith)) in
    record {
      scalars = first.scalar ∷ rest.scalars;
      all = All-cons IsScalar first.scalar rest.scalars first.is_scalar rest.all;
      equal = ap₂ (λ xs ys. xs ++ ys) first.equal rest.equal;
    }

pub joined_of_grammar : (w : List ℕ) → IsUtf8Octets w → (scalars : List ℕ) × IsJoined utf8 w scalars
joined_of_grammar w h = let x = joined_of_chars h.chars h.each in (x.scalars, (x.all, h.joined ∙ x.equal))

-- std's definition of text agrees, for the same scalars.

for_std : (scalars : List ℕ) → All IsScalar scalars → all_scalars scalars ≡ true
for_std [] all = refl
for_std (s ∷ scalars) all =
    let first : IsStdScalar s = scalar_for_std s (all 0 s (omega arith)) in
    let rest = for_std scalars (λ k d h. all (suc k) d (omega arith)) in
    grind (arith, common_steps)

from_std : (scalars : List ℕ) → all_scalars scalars ≡ true → All IsScalar scalars
from_std [] all = All-nil IsScalar
from_std (s ∷ scalars) all =
    let h = scalars_more s scalars all in
    All-cons IsScalar s scalars (scalar_from_std s h.0) (from_std scalars h.1)

grammar_of_text : (w : List ℕ) → IsUtf8 w → IsUtf8Octets w
grammar_of_text w (scalars, (all, e)) = grammar_of_joined w scalars (from_std scalars all, sym e ∙ codes_of_characters scalars)

text_of_grammar : (w : List ℕ) → IsUtf8Octets w → IsUtf8 w
text_of_grammar w h =
    let x = joined_of_chars h.chars h.each in
    (x.scalars, (for_std x.scalars x.all, codes_of_characters x.scalars ∙ sym (h.joined ∙ x.equal)))

pub texts_are_the_grammar : TextsAreTheGrammar
texts_are_the_grammar = record { joined = grammar_of_joined; only_joined = joined_of_grammar; text = grammar_of_text; only_text = text_of_grammar }
