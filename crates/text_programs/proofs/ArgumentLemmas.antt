-- The requests of arguments, and arguments that are invalid.
use Rattle.std.proofs.Common.{◌≡◌, ℕ, ◌<◌, ◌≤◌, ◌==◌, ⊎_elim, inl, inr, List, [], ◌∷◌, length, map, get_or, refl, sym, ◌∙◌, ap, subst, arith, if◌then◌else◌}
use Rattle.std.proofs.lemmas.List.{length-map}
use Rattle.std.proofs.lemmas.List.Elements.{All-nil, All-cons, All-head, All-tail}
use Rattle.std.specs.Prelude.{All, codes}
use Rattle.text_runs.specs.declared.runs.items.End.{End}
use Rattle.text_runs.specs.declared.runs.items.End.TheVariants.{Front, Back}
use Rattle.text_programs.specs.Arguments.{Asked, listed, merged, walked, letter, IsLetter, AreLetters, Asks, AreWrong}

-- the map of a list of no, one or two elements
pub map_none : {X : Type 0} (f : X → List ℕ) (xs : List X) → length xs < 1 → map f xs ≡ []
map_none f [] few = refl
map_none f (x ∷ xs) few = absurd (omega arith)

pub map_one : {X : Type 0} (f : X → List ℕ) (xs : List X) (x : X) → 1 ≤ length xs → length xs < 2 → x ≡ get_or xs 0 x → map f xs ≡ f x ∷ []
map_one f [] x some few is = absurd (omega arith)
map_one f (y ∷ []) x some few is = ap (λ z. f z ∷ []) (sym is)
map_one f (y ∷ z ∷ zs) x some few is = absurd (omega arith)

pub map_two : {X : Type 0} (f : X → List ℕ) (xs : List X) (x y : X) → 2 ≤ length xs → length xs < 3 → x ≡ get_or xs 0 x → y ≡ get_or xs 1 y
    → map f xs ≡ f x ∷ f y ∷ []
map_two f [] x y some few is as_well = absurd (omega arith)
map_two f (a ∷ []) x y some few is as_well = absurd (omega arith)
map_two f (a ∷ b ∷ []) x y some few is as_well = rw (is, as_well) refl
map_two f (a ∷ b ∷ c ∷ cs) x y some few is as_well = absurd (omega arith)

-- some letters are the letters of a word
spelled : (text : List ℕ) → All IsLetter text → (word : List End) × (map letter word ≡ text)
spelled [] all = ([], refl)
spelled (c ∷ cs) all =
    let rest = spelled cs (All-tail IsLetter c cs all) in
    ⊎_elim
    (λ (e : c ≡ 70). (Front ∷ rest.0, ap (λ d. d ∷ map letter rest.0) (sym e) ∙ ap (λ ds. c ∷ ds) rest.1))
    (λ (e : c ≡ 66). (Back ∷ rest.0, ap (λ d. d ∷ map letter rest.0) (sym e) ∙ ap (λ ds. c ∷ ds) rest.1))
    (All-head IsLetter c cs all)

-- the letters of a word are letters
are_letters : (word : List End) → All IsLetter (map letter word)
are_letters [] = All-nil IsLetter
are_letters (Front ∷ es) = All-cons IsLetter 70 (map letter es) (inl refl) (are_letters es)
are_letters (Back ∷ es) = All-cons IsLetter 66 (map letter es) (inr refl) (are_letters es)

-- an option and letters ask for a walk
pub asks_walk : (args : List (List ℕ)) (option text : List ℕ) (word : List End)
    → args ≡ option ∷ text ∷ [] → option ≡ codes "--ends" → AreLetters text → map letter word ≡ text → Asks args (walked word)
asks_walk args option text word are is letters spells =
    let long : length word ≡ length text = sym (length-map word letter) ∙ ap length spells in
    (are ∙ rw (is, spells) refl, omega arith)

-- an option and letters are valid arguments
pub not_wrong : (args : List (List ℕ)) (option text : List ℕ) → args ≡ option ∷ text ∷ [] → option ≡ codes "--ends" → AreLetters text → AreWrong args → ⊥
not_wrong args option text are is letters wrong =
    let word = spelled text letters.1 in
    wrong (walked word.0) (asks_walk args option text word.0 are is letters word.1)

-- any two other arguments are invalid
pub two_wrong : (args : List (List ℕ)) (option text : List ℕ) → args ≡ option ∷ text ∷ [] → ((option ≡ codes "--ends") × AreLetters text → ⊥)
    → (asked : Asked) → Asks args asked → ⊥
two_wrong args option text are none listed asks = let differ : option ∷ text ∷ [] ≡ [] = sym are ∙ asks in cc
two_wrong args option text are none merged asks = let differ : option ∷ text ∷ [] ≡ codes "--merge" ∷ [] = sym are ∙ asks in cc
two_wrong args option text are none (walked word) asks =
    let same : option ∷ text ∷ [] ≡ codes "--ends" ∷ map letter word ∷ [] = sym are ∙ asks.0 in
    let is : option ≡ codes "--ends" = cc in
    let spells : map letter word ≡ text = cc in
    let long : length word ≡ length text = sym (length-map word letter) ∙ ap length spells in
    none (is, (omega arith, subst (λ ys. All IsLetter ys) spells (are_letters word)))

-- A word is determined by its letters, and a request by the arguments.

end_of : ℕ → End
end_of c = if c == 70 then Front else Back

ends_of_letters : (word : List End) → map end_of (map letter word) ≡ word
unfolding end_of
ends_of_letters [] = refl
ends_of_letters (Front ∷ es) = ap (λ rest. Front ∷ rest) (ends_of_letters es)
ends_of_letters (Back ∷ es) = ap (λ rest. Back ∷ rest) (ends_of_letters es)

one_word : (v w : List End) → map letter v ≡ map letter w → v ≡ w
one_word v w e = sym (ends_of_letters v) ∙ (ap (map end_of) e ∙ ends_of_letters w)

pub one_asked : (args : List (List ℕ)) (a b : Asked) → Asks args a → Asks args b → a ≡ b
one_asked args listed listed h k = refl
one_asked args listed merged h k = let differ : [] ≡ codes "--merge" ∷ [] = sym h ∙ k in absurd cc
one_asked args listed (walked w) h k = let differ : [] ≡ codes "--ends" ∷ map letter w ∷ [] = sym h ∙ k.0 in absurd cc
one_asked args merged listed h k = let differ : [] ≡ codes "--merge" ∷ [] = sym k ∙ h in absurd cc
one_asked args merged merged h k = refl
one_asked args merged (walked w) h k = let differ : codes "--merge" ∷ [] ≡ codes "--ends" ∷ map letter w ∷ [] = sym h ∙ k.0 in absurd cc
one_asked args (walked v) listed h k = let differ : [] ≡ codes "--ends" ∷ map letter v ∷ [] = sym k ∙ h.0 in absurd cc
one_asked args (walked v) merged h k = let differ : codes "--merge" ∷ [] ≡ codes "--ends" ∷ map letter v ∷ [] = sym k ∙ h.0 in absurd cc
one_asked args (walked v) (walked w) h k =
    let same : codes "--ends" ∷ map letter v ∷ [] ≡ codes "--ends" ∷ map letter w ∷ [] = sym h.0 ∙ k.0 in
    let letters : map letter v ≡ map letter w = cc in
    ap walked (one_word v w letters)
