-- A walk by the calls of a decoder.
use Rattle.std.specs.Prelude.{Option}
use Rattle.utf_base.specs.Walk.{Side, from_front, from_back}
use Rattle.text_runs.specs.declared.runs.items.End.{End}
use Rattle.text_runs.specs.declared.runs.items.End.TheVariants.{Front, Back}

-- the side of the window at that end
abbrev pub side : End → Side
side Front = from_front
side Back = from_back

-- one call at that end, where `next` and `next_back` describe the calls
abbrev pub CallGives : {S A : Type 0} → (S → Option A → S → Type 0) → (S → Option A → S → Type 0) → End → S → Option A → S → Type 0
CallGives next next_back Front = next
CallGives next next_back Back = next_back
