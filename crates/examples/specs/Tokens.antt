-- The tokens of some bytes, which may be damaged.
use Rattle.std.specs.Prelude.{◌≡◌, ◌≢◌, ℕ, ◌<◌, List, [], ◌∷◌, ◌++◌, length, All}

-- the tokens, with the delimiter between each two
abbrev pub joined : ℕ → List (List ℕ) → List ℕ
joined d [] = []
joined d (t ∷ []) = t
joined d (t ∷ u ∷ ts) = t ++ d ∷ joined d (u ∷ ts)

-- the tokens and the delimiters between them are the bytes, and no delimiter lies inside a token
pub record AreTokensOf (xs : List ℕ) (d : ℕ) (tokens : List (List ℕ)) : Type 0 where
  pub some : 0 < length tokens
  pub whole : joined d tokens ≡ xs
  pub apart : All (λ t. All (λ b. b ≢ d) t) tokens
