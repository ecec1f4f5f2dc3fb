-- Text transcoded on its way from a reader to a writer, up to the first fault.
use Rattle.std.specs.Prelude.{◌≡◌, ℕ, ◌+◌, ◌^◌, ◌<◌, ◌≤◌, List, [], ◌++◌, length, drop, Option, Some, IfSome, codes}
use Rattle.std.specs.Io.KnownBytes.{Appends, Consumes}
use Rattle.recoding.specs.declared.form.Form.{Form}
use Rattle.recoding.specs.Recoded.{Recoding}
use Rattle.recoding.specs.Strict.{Transcodes, kind_of}
use Rattle.text_runs.specs.Failures.{AppendsFront}
use Rattle.text_programs.specs.declared.programs.strict.FaultAt.{FaultAt}
use Rattle.text_programs.specs.declared.programs.strict.StrictError.{StrictError}
use Rattle.text_programs.specs.declared.programs.strict.StrictError.TheVariants.{Read, Write, Faulty}

-- the whole input is text, and known bytes grew by it in the other encoding
pub record WritesText (from to : Form) (input old new : Option (List ℕ)) : Type 0 where
  pub text : List ℕ
  pub grown : List ℕ
  pub read : IfSome input (λ xs. text ≡ xs)
  pub transcodes : Transcodes from to text grown
  pub written : Appends old new grown

-- Text was read and then more, and known bytes grew by a front of the text in the other encoding.
pub record BeginsTranscoded (from to : Form) (input_old input_new old new : Option (List ℕ)) : Type 0 where
  pub text : List ℕ
  pub rest : List ℕ
  pub grown : List ℕ
  pub read : Consumes input_old input_new (text ++ rest)
  pub transcodes : Transcodes from to text grown
  pub written : AppendsFront old new grown

-- Text was read and then at most three bytes, which are carried over, and known bytes grew by the text in the
-- other encoding.
pub record HoldsText (from to : Form) (input_old input_new old new : Option (List ℕ)) : Type 0 where
  pub text : List ℕ
  pub held : List ℕ
  pub grown : List ℕ
  pub few : length held ≤ 3
  pub read : Consumes input_old input_new (text ++ held)
  pub transcodes : Transcodes from to text grown
  pub written : Appends old new grown

-- The input is text up to that offset, and known bytes grew by it in the other encoding. There a fault begins, of the kind
-- that a decoder names with all that follows in the input.
pub record StopsFaulty (from to : Form) (input_old input_new old new : Option (List ℕ)) (x : FaultAt) : Type 0 where
  pub text : List ℕ
  pub rest : List ℕ
  pub grown : List ℕ
  pub read : Consumes input_old input_new (text ++ rest)
  pub transcodes : Transcodes from to text grown
  pub written : Appends old new grown
  pub offset : length (text ++ rest) < 2 ^ 64 → x.offset ≡ length text
  pub kind : IfSome input_old (λ xs. kind_of from (drop (length text) xs) ≡ Some x.kind)

-- what is stated for an invalid input
abbrev pub IfFaulty : StrictError → (FaultAt → Type 0) → Type 0
IfFaulty Read P = Unit {0}
IfFaulty Write P = Unit {0}
IfFaulty (Faulty x) P = P x

-- a part was fed: the carried-over bytes and the part are text, by which known bytes grew in the other
-- encoding, followed by the bytes that are carried over now
pub record PassesText (r : Recoding) (part : List ℕ) (old new : Option (List ℕ)) (s : Recoding) : Type 0 where
  pub text : List ℕ
  pub grown : List ℕ
  pub parts : r.held ++ part ≡ text ++ s.held
  pub transcodes : Transcodes r.from r.to text grown
  pub written : Appends old new grown
  pub from : s.from ≡ r.from
  pub to : s.to ≡ r.to
  pub few : length s.held ≤ 3

-- all carried-over bytes are text, by which known bytes grew in the other encoding
pub record PassesTextLast (r : Recoding) (old new : Option (List ℕ)) : Type 0 where
  pub grown : List ℕ
  pub transcodes : Transcodes r.from r.to r.held grown
  pub written : Appends old new grown

-- text and then more, and known bytes grew by a front of the text in the other encoding
pub record PassesTextFront (r : Recoding) (part : List ℕ) (old new : Option (List ℕ)) : Type 0 where
  pub text : List ℕ
  pub rest : List ℕ
  pub grown : List ℕ
  pub parts : r.held ++ part ≡ text ++ rest
  pub transcodes : Transcodes r.from r.to text grown
  pub written : AppendsFront old new grown

-- anything may follow a part, and nothing follows the end
abbrev pub IsFollowed : List ℕ → Type 0
IsFollowed later = Unit {0}

abbrev pub EndsText : List ℕ → Type 0
EndsText later = later ≡ []

-- The carried-over bytes and the part begin with text, by which known bytes grew in the other encoding, and then a
-- fault begins. The carried-over bytes are the last of those before the part.
pub record StopsText (r : Recoding) (part : List ℕ) (Follows : List ℕ → Type 0) (before : ℕ) (old new : Option (List ℕ)) (x : FaultAt) : Type 0 where
  pub text : List ℕ
  pub rest : List ℕ
  pub grown : List ℕ
  pub parts : r.held ++ part ≡ text ++ rest
  pub transcodes : Transcodes r.from r.to text grown
  pub written : Appends old new grown
  pub offset : before + length part < 2 ^ 64 → x.offset + length r.held ≡ before + length text
  pub kind : (later : List ℕ) → Follows later → kind_of r.from (rest ++ later) ≡ Some x.kind

-- the message for the reason why `recode_strict` ended early
abbrev pub strict_error_text : StrictError → List ℕ
strict_error_text Read = codes "cannot read"
strict_error_text Write = codes "cannot write"
strict_error_text (Faulty x) = codes "invalid input"
