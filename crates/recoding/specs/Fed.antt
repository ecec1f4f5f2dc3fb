-- Parts that are fed one after another are one part.
use Rattle.std.specs.Prelude.{◌≡◌, ℕ, List, [], ◌++◌}
use Rattle.recoding.specs.declared.form.Form.{Form}
use Rattle.recoding.specs.Recoded.{Recoding, IsRecoded, Feeds, Finishes, fresh}

-- A new recoder was fed these bytes, in any parts, and wrote `out`: as if they are one part.
pub record IsFed (from to : Form) (bytes out : List ℕ) (r : Recoding) : Type 0 where
  pub once : Feeds (fresh from to) bytes [] out r

-- a new recoder was fed nothing
abbrev pub NothingIsFed : Type 0
NothingIsFed = (from to : Form) → IsFed from to [] [] (fresh from to)

-- what a new recoder was fed grows by each part
abbrev pub PartIsFed : Type 0
PartIsFed =
    (from to : Form) (bytes part more out new : List ℕ) (r s : Recoding)
    → IsFed from to bytes out r → Feeds r part out new s → more ≡ bytes ++ part → IsFed from to more new s

-- Two parts that are fed one after another are one part, whatever was carried over before.
abbrev pub TwoPartsAreOne : Type 0
TwoPartsAreOne =
    (part next old mid new : List ℕ) (r s t : Recoding)
    → Feeds r part old mid s → Feeds s next mid new t → Feeds r (part ++ next) old new t

-- the output of a new recoder for two parts, and then for the end, is the transcoding of both together
abbrev pub TwoPartsAreRecoded : Type 0
TwoPartsAreRecoded =
    (from to : Form) (part next old mid out new : List ℕ) (r s t : Recoding)
    → r ≡ fresh from to → old ≡ []
    → Feeds r part old mid s → Feeds s next mid out t → Finishes t out new → IsRecoded from to (part ++ next) new

-- the output so far begins the transcoding of the whole, whatever follows
abbrev pub FedIsFront : Type 0
FedIsFront =
    (from to : Form) (bytes later out all : List ℕ) (r : Recoding)
    → IsFed from to bytes out r → IsRecoded from to (bytes ++ later) all → (rest : List ℕ) × (all ≡ out ++ rest)

-- the output of a new recoder after the end is the transcoding of all that was fed
abbrev pub FedIsRecoded : Type 0
FedIsRecoded =
    (from to : Form) (bytes all out new : List ℕ) (r : Recoding)
    → IsFed from to bytes out r → Finishes r out new → all ≡ bytes → IsRecoded from to all new
