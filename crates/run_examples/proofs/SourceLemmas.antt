-- Statements on each list that a source may have, at the list that it has.
use Rattle.std.proofs.Common.{◌≡◌, ℕ, List, Option, Ok, Err, Result, reverse, ap, subst, ◌∙◌, arith}
use Rattle.std.proofs.lemmas.List.{take_all}
use Rattle.std.specs.Iterator.Adapters.{rev_source}
use Rattle.std.specs.List.{flat_map}
use Rattle.std.specs.Prelude.{IfOk}
use Rattle.std.specs.Str.{chars}
use Rattle.std.specs.declared.iter.Rev.{Rev}
use Rattle.encode_unicode.specs.Code.{utf16}
use Rattle.encode_unicode.specs.Pieces.{chars_left}
use Rattle.encode_unicode.specs.Sources.{IsListed, Splitting, unbegun, unsent}
use Rattle.encode_unicode.specs.Window.{Window, whole_window}

pub at_list : {S C E : Type 0} {steps : S → Option ℕ → S → Type 0} (P : List ℕ → C → Type 0) (rest : S → List ℕ) → IsListed steps rest → (s : S) (xs : List ℕ) (r : Result C E) → rest s ≡ xs
    → IfOk r (λ all. (rest : S → List ℕ) → IsListed steps rest → P (rest s) all) → IfOk r (P xs)
at_list P rest listed s xs (Ok all) is h = subst (λ ys. P ys all) is (h rest listed)
at_list P rest listed s xs (Err e) is h = tt

-- a splitter before its first call, over the characters of a whole text from the end
pub units_turned : (text : List ℕ) (s : Splitting (Rev Window)) (r : Rev Window) (w : Window) → s ≡ unbegun r → rev_source r ≡ w → w ≡ whole_window text
    → unsent utf16 (λ u. reverse (chars_left (rev_source u))) s ≡ flat_map utf16 (reverse (chars text))
units_turned text s r w e f h = ap (unsent utf16 (λ u. reverse (chars_left (rev_source u)))) e ∙ ap (λ v. flat_map utf16 (reverse (chars_left v))) (f ∙ h) ∙ ap (λ xs. flat_map utf16 (reverse (chars xs))) (take_all _ text (omega arith))
