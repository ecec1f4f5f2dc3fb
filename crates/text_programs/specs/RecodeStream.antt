-- Bytes transcoded on their way from a reader to a writer.
use Rattle.std.specs.Prelude.{◌≡◌, ℕ, ◌≤◌, List, [], length, Option, IfSome}
use Rattle.std.specs.Io.KnownBytes.{Appends, Consumes}
use Rattle.recoding.specs.declared.form.Form.{Form}
use Rattle.text_runs.specs.Failures.{AppendsFront}
use Rattle.recoding.specs.RecodedBytes.{recoded}
use Rattle.recoding.specs.Recoded.{Recoding, IsRecoded, Continues, Feeds, Finishes}

-- known bytes grew by the whole input, transcoded
pub record WritesRecoded (from to : Form) (input old new : Option (List ℕ)) : Type 0 where
  pub bytes : List ℕ
  pub recoded : List ℕ
  pub read : IfSome input (λ xs. bytes ≡ xs)
  pub is_recoded : IsRecoded from to bytes recoded
  pub written : Appends old new recoded

-- if the input is known, known bytes grew by the one list that it is transcoded to
abbrev pub AppendsRecoded : Form → Form → Option (List ℕ) → Option (List ℕ) → Option (List ℕ) → Type 0
AppendsRecoded from to input old new = IfSome input (λ xs. Appends old new (recoded from to xs))

-- the input was read up to some byte, and known bytes grew by a front of that part, transcoded
pub record BeginsRecoded (from to : Form) (input_old input_new old new : Option (List ℕ)) : Type 0 where
  pub bytes : List ℕ
  pub recoded : List ℕ
  pub read : Consumes input_old input_new bytes
  pub is_recoded : IsRecoded from to bytes recoded
  pub written : AppendsFront old new recoded

-- The input was read up to some byte, and known bytes grew by its output that does not depend on what follows: that
-- of all but at most three bytes, which are carried over.
pub record HoldsBack (from to : Form) (input_old input_new old new : Option (List ℕ)) : Type 0 where
  pub bytes : List ℕ
  pub grown : List ℕ
  pub held : List ℕ
  pub few : length held ≤ 3
  pub read : Consumes input_old input_new bytes
  pub continues : Continues from to bytes grown held
  pub written : Appends old new grown

-- a part was fed, and known bytes grew by its output
abbrev pub Passes : Recoding → List ℕ → Option (List ℕ) → Option (List ℕ) → Recoding → Type 0
Passes r part old new s = (grown : List ℕ) × Feeds r part [] grown s × Appends old new grown

-- the recoder was finished, and known bytes grew by the last output
abbrev pub PassesLast : Recoding → Option (List ℕ) → Option (List ℕ) → Type 0
PassesLast r old new = (grown : List ℕ) × Finishes r [] grown × Appends old new grown

-- a part was fed, and known bytes grew by only a front of its output
abbrev pub PassesFront : Recoding → List ℕ → Option (List ℕ) → Option (List ℕ) → Recoding → Type 0
PassesFront r part old new s = (grown : List ℕ) × Feeds r part [] grown s × AppendsFront old new grown

abbrev pub PassesLastFront : Recoding → Option (List ℕ) → Option (List ℕ) → Type 0
PassesLastFront r old new = (grown : List ℕ) × Finishes r [] grown × AppendsFront old new grown
