use Rattle.std.proofs.Common.{◌≡◌, ◌+◌, ◌≤◌, ◌++◌, ◌∙◌, ℕ, List, [], ◌∷◌, length, take, min, get_or, arith, refl, ap}
use Rattle.std.proofs.Math.Seq.{take-append-add}
use Rattle.recoding.proofs.held.Held.join.Goals as goal

-- the first three elements, or all if they are fewer
first_three : (part rest : List ℕ) → take (min 3 (length part)) (get_or part 0 0 ∷ get_or part 1 0 ∷ get_or part 2 0 ∷ rest) ≡ take 3 part
first_three [] rest = refl
first_three (p ∷ []) rest = refl
first_three (p ∷ q ∷ []) rest = refl
first_three (p ∷ q ∷ r ∷ w) rest =
    let three : min 3 (length (p ∷ q ∷ r ∷ w)) ≡ 3 = omega arith in
    rw three refl

-- the first six elements of a list after at most three others
joined : (held part : List ℕ) → length held ≤ 3
    → take (length held + min 3 (length part)) (get_or (held ++ part) 0 0 ∷ get_or (held ++ part) 1 0 ∷ get_or (held ++ part) 2 0 ∷ get_or (held ++ part) 3 0 ∷ get_or (held ++ part) 4 0 ∷ get_or (held ++ part) 5 0 ∷ [])
    ≡ held ++ take 3 part
joined [] part few =
    take-append-add [] (get_or part 0 0 ∷ get_or part 1 0 ∷ get_or part 2 0 ∷ get_or part 3 0 ∷ get_or part 4 0 ∷ get_or part 5 0 ∷ []) (min 3 (length part))
    ∙ first_three part (get_or part 3 0 ∷ get_or part 4 0 ∷ get_or part 5 0 ∷ [])
joined (a ∷ []) part few =
    take-append-add (a ∷ []) (get_or part 0 0 ∷ get_or part 1 0 ∷ get_or part 2 0 ∷ get_or part 3 0 ∷ get_or part 4 0 ∷ []) (min 3 (length part))
    ∙ ap (λ z. (a ∷ []) ++ z) (first_three part (get_or part 3 0 ∷ get_or part 4 0 ∷ []))
joined (a ∷ b ∷ []) part few =
    take-append-add (a ∷ b ∷ []) (get_or part 0 0 ∷ get_or part 1 0 ∷ get_or part 2 0 ∷ get_or part 3 0 ∷ []) (min 3 (length part)) ∙ ap (λ z. (a ∷ b ∷ []) ++ z) (first_three part (get_or part 3 0 ∷ []))
joined (a ∷ b ∷ c ∷ []) part few =
    take-append-add (a ∷ b ∷ c ∷ []) (get_or part 0 0 ∷ get_or part 1 0 ∷ get_or part 2 0 ∷ []) (min 3 (length part)) ∙ ap (λ z. (a ∷ b ∷ c ∷ []) ++ z) (first_three part [])
joined (a ∷ b ∷ c ∷ d ∷ w) part few = absurd (omega arith)

joined_as : (held part : List ℕ) (a b c d e f n : ℕ) → length held ≤ 3 → a ≡ get_or (held ++ part) 0 0 → b ≡ get_or (held ++ part) 1 0 → c ≡ get_or (held ++ part) 2 0 → d ≡ get_or (held ++ part) 3 0
    → e ≡ get_or (held ++ part) 4 0 → f ≡ get_or (held ++ part) 5 0 → n ≡ min 3 (length part) → take (length held + n) (a ∷ b ∷ c ∷ d ∷ e ∷ f ∷ []) ≡ held ++ take 3 part
joined_as held part a b c d e f n few ea eb ec ed ee ef en = rw (ea, eb, ec, ed, ee, ef, en) (joined held part few)

pub returns-clause-bytes : goal.returns-clause-bytes
returns-clause-bytes c =
    let held = c.as_slice-held in
    let part = c.args.part.now in
    joined_as held.result.now part _ _ _ _ _ _ _ held.ensures.few c.byte_of_both.ensures c.byte_of_both-2.ensures c.byte_of_both-3.ensures c.byte_of_both-4.ensures c.byte_of_both-5.ensures
    c.byte_of_both-6.ensures c.min.ensures
    ∙ ap (λ xs. xs ++ take 3 part) held.ensures.bytes
