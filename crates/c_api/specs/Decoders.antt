-- What C sees of a decoder and of a piece with its offset.
use Rattle.std.specs.Prelude.{ℕ, ◌≤◌, take, Result, Ok, Err}
use Rattle.cuts.specs.declared.FaultKind.{FaultKind}
use Rattle.cuts.specs.declared.LocatedPiece.{LocatedPiece}
use Rattle.cuts.specs.Located.{Decoding}
use Rattle.cuts.specs.Recoded.{most_held}
use Rattle.c_api.specs.Api.{IsForm, fault_number, form_of}
use Rattle.c_api.specs.declared.decoders.NodyDecoder.{NodyDecoder}
use Rattle.c_api.specs.declared.decoders.NodyLocated.{NodyLocated}
use Rattle.c_api.specs.declared.decoders.NodyMark.{NodyMark}
use Rattle.c_api.specs.declared.decoders.NodyTold.{NodyTold}

-- the mark of a character of that length
abbrev pub character_mark_of : ℕ → NodyMark
character_mark_of n = record { len = n; kind = 0; rest = 0 }

-- a scalar has the kind 0, and a fault its number and no scalar
abbrev pub scalar_for_c : Result ℕ FaultKind → ℕ
scalar_for_c (Ok s) = s
scalar_for_c (Err k) = 0

abbrev pub mark_for_c : Result ℕ FaultKind → ℕ → NodyMark
mark_for_c (Ok s) n = character_mark_of n
mark_for_c (Err k) n = record { len = n; kind = fault_number k; rest = 0 }

abbrev pub located_for_c : LocatedPiece → NodyLocated
located_for_c p = record { offset = p.offset; scalar = scalar_for_c p.answer; mark = mark_for_c p.answer p.len }

-- the scalar and mark of an ASCII character
abbrev pub ascii_told_of : ℕ → NodyTold
ascii_told_of byte = record { scalar = byte; mark = character_mark_of 1 }

-- The struct is a decoder.
pub record IsDecoder (d : NodyDecoder) : Type 0 where
  pub form : IsForm d.form
  pub few : d.count ≤ most_held

-- the decoder that it is
abbrev pub decoder_of : NodyDecoder → Decoding
decoder_of d = record { form = form_of d.form; held = take d.count d.held; offset = d.offset }

-- what holds for the decoders that the struct was and is, if it was one
abbrev pub IfDecoder : NodyDecoder → NodyDecoder → (Decoding → Decoding → Type 0) → Type 0
IfDecoder old new holds = IsDecoder old → holds (decoder_of old) (decoder_of new)
