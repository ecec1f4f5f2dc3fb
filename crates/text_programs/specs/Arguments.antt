-- The requests that the arguments of `pieces` and `recode` make.
use Rattle.std.specs.Prelude.{◌≡◌, ◌≢◌, ℕ, ◌<◌, ◌⊎◌, List, [], ◌∷◌, length, map, drop, All, codes, Result, Ok, Err, Vec, String, string_bytes}
use Rattle.std.specs.IoError.{error_kind}
use Rattle.std.specs.declared.io.Error.{Error}
use Rattle.std.specs.declared.io.ErrorKind.TheVariants.{InvalidData}
use Rattle.text_runs.specs.declared.runs.items.End.{End}
use Rattle.text_runs.specs.declared.runs.items.End.TheVariants.{Front, Back}
use Rattle.text_programs.specs.declared.programs.requests.Request.{Request}
use Rattle.text_programs.specs.declared.programs.requests.Request.TheVariants.{Listing, Merged, Walk}
use Rattle.recoding.specs.declared.form.Form.{Form}
use Rattle.recoding.specs.declared.form.Form.TheVariants.{Utf8, Utf16Le, Utf16Be}

-- the listing, what a merger returns, or the walk of a word
pub data Asked : Type 0 where
  listed : Asked
  merged : Asked
  walked : List End → Asked

-- the letter of an end: 70 is `F` and 66 is `B`
abbrev pub letter : End → ℕ
letter Front = 70
letter Back = 66

abbrev pub IsLetter : ℕ → Type 0
IsLetter c = (c ≡ 70) ⊎ (c ≡ 66)

-- letters of ends, and nothing else
abbrev pub AreLetters : List ℕ → Type 0
AreLetters text = (0 < length text) × All IsLetter text

-- the arguments, each as its bytes, make this request: no argument, only `--merge`, or `--ends` and the
-- letters of a word
abbrev pub Asks : List (List ℕ) → Asked → Type 0
Asks args listed = args ≡ []
Asks args merged = args ≡ codes "--merge" ∷ []
Asks args (walked word) = (args ≡ codes "--ends" ∷ map letter word ∷ []) × (0 < length word)

-- the arguments make no request
abbrev pub AreWrong : List (List ℕ) → Type 0
AreWrong args = (asked : Asked) → Asks args asked → ⊥

-- the kind of a request
abbrev pub asked_in : {A : Type 0} → Request A → Asked
asked_in Listing = listed
asked_in Merged = merged
asked_in (Walk word) = walked word.items

-- The arguments among the words that a program was started with: those after its name; if a word is not UTF-8,
-- which is an error of the kind `InvalidData`, the empty text represents them all.
abbrev pub HaveArguments : {A Z : Type 0} → Result (Vec (String A) Z) Error → List (List ℕ) → Type 0
HaveArguments (Ok words) args = args ≡ map string_bytes (drop 1 words.items)
HaveArguments (Err error) args = (error_kind error ≡ InvalidData) × (args ≡ [] ∷ [])

-- the words of `pieces` make this request, and they make none
abbrev pub WordsAsk : {A Z : Type 0} → Result (Vec (String A) Z) Error → Asked → Type 0
WordsAsk words asked = (args : List (List ℕ)) × HaveArguments words args × Asks args asked

abbrev pub WordsAreWrong : {A Z : Type 0} → Result (Vec (String A) Z) Error → Type 0
WordsAreWrong words = (args : List (List ℕ)) × HaveArguments words args × AreWrong args

-- The words are not available, for another reason than that one is not UTF-8.
abbrev pub AreNotHad : {A Z : Type 0} → Result (Vec (String A) Z) Error → Type 0
AreNotHad (Ok words) = ⊥
AreNotHad (Err error) = error_kind error ≢ InvalidData

-- the name of an encoding among the arguments of `recode`
abbrev pub form_name : Form → List ℕ
form_name Utf8 = codes "utf8"
form_name Utf16Le = codes "utf16le"
form_name Utf16Be = codes "utf16be"

-- the arguments, each as its bytes, are the names of two encodings
abbrev pub AsksForms : List (List ℕ) → Form → Form → Type 0
AsksForms args from to = args ≡ form_name from ∷ form_name to ∷ []

-- the words of `recode` are the names of two encodings after its own, and they are not
abbrev pub WordsAskForms : {A Z : Type 0} → Result (Vec (String A) Z) Error → Form → Form → Type 0
WordsAskForms words from to = (args : List (List ℕ)) × HaveArguments words args × AsksForms args from to

abbrev pub WordsNameNoForms : {A Z : Type 0} → Result (Vec (String A) Z) Error → Type 0
WordsNameNoForms words = (args : List (List ℕ)) × HaveArguments words args × ((from to : Form) → AsksForms args from to → ⊥)
