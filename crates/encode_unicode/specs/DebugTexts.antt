-- The output of `{:?}` for decoders, for iterators over a text, for mergers and for splitters.
use Rattle.std.specs.Prelude.{ℕ, List, [], ◌∷◌, Option, Some, codes}
use Rattle.std.specs.Fmt.{◌++?◌, comma_space, decimal, debug_str, debug_variant}
use Rattle.utf_chars.specs.DebugTexts.{debug_numbers}
use Rattle.encode_unicode.specs.Window.{Window, elements}

-- of a decoder: its name, the offset at which its window begins, and the elements in the window
abbrev pub debug_decoder : List ℕ → Window → Option (List ℕ)
debug_decoder opening w =
    Some opening ++? Some (decimal w.front) ++? Some (codes "..]: ") ++? debug_numbers (elements w) ++? Some (codes " }")

-- of an iterator over a text: its name and the remaining text; std does not specify the output of `{:?}` outside of
-- ASCII
abbrev pub debug_chars : List ℕ → Window → Option (List ℕ)
debug_chars name w = debug_variant name (debug_str (elements w))

-- of an iterator with offsets: its name, the offset at which the window begins, and the remaining text
abbrev pub debug_indices : List ℕ → Window → Option (List ℕ)
debug_indices name w =
    Some name ++? Some (codes "(") ++? Some (decimal w.front) ++? Some comma_space ++? debug_str (elements w) ++? Some (codes ")")

-- at most one number: `None`, or `Some` of it
abbrev pub debug_unit : List ℕ → Option (List ℕ)
debug_unit [] = Some (codes "None")
debug_unit (unit ∷ units) = debug_variant (codes "Some") (Some (decimal unit))

-- a name and the output for a value
abbrev pub debug_field : List ℕ → Option (List ℕ) → Option (List ℕ)
debug_field name value = Some name ++? Some (codes ": ") ++? value

-- of a struct of two fields: its name, and each field with its name
abbrev pub debug_fields : List ℕ → Option (List ℕ) → Option (List ℕ) → Option (List ℕ)
debug_fields name first second =
    Some name ++? (Some (codes " { ") ++? first) ++? (Some comma_space ++? second) ++? Some (codes " }")

-- of a merger, or of its remaining elements: those that are buffered, and the source
abbrev pub debug_merger : List ℕ → Option (List ℕ) → Option (List ℕ) → Option (List ℕ)
debug_merger name held source =
    debug_fields name (debug_field (codes "buffered") held) (debug_field (codes "inner") source)

-- of a splitter: the source, and the rest of the begun code
abbrev pub debug_splitter : List ℕ → Option (List ℕ) → List ℕ → Option (List ℕ)
debug_splitter name source begun =
    debug_fields name (debug_field (codes "source") source) (debug_field (codes "begun") (debug_numbers begun))
