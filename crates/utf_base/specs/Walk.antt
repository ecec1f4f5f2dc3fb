-- A walk: pieces are taken from the front or from the end of a window of a list, at first the whole, in any order. It
-- is generic in the encoding. An offset is an index, counted from the front of the list.
use Rattle.std.specs.Prelude.{◌≡◌, ℕ, ◌+◌, ◌-◌, ◌<◌, List, [], ◌∷◌, length, Option, Some, None, Result, IfErr, slice_range, slice_index, filter_map}
use Rattle.std.specs.Option.{option_map}
use Rattle.std.specs.Result.{result_ok}
use Rattle.utf_base.specs.declared.errors.Utf8ErrorKind.{Utf8ErrorKind}
use Rattle.utf_base.specs.declared.errors.units.Utf16PairError.{Utf16PairError}
use Rattle.utf_base.specs.Code.{utf8, utf16}
use Rattle.utf_base.specs.Kinds.{fault_kind, back_kind}
use Rattle.utf_base.specs.Piece.{Piece, IsPiece}
use Rattle.utf_base.specs.Units.{unit_fault_kind, unit_back_kind}

-- a code, the fault of a list that no code begins, and the fault of an element that no code ends with
pub record Encoding (E : Type 0) : Type 0 where
  pub code : ℕ → List ℕ
  pub forward : List ℕ → Option E
  pub backward : ℕ → E

abbrev pub utf8_bytes : Encoding Utf8ErrorKind
utf8_bytes = record { code = utf8; forward = fault_kind; backward = back_kind }

abbrev pub utf16_units : Encoding Utf16PairError
utf16_units = record { code = utf16; forward = unit_fault_kind; backward = unit_back_kind }

-- the end of the window from which a piece is taken
pub data Side : Type 0 where
  from_front : Side
  from_back : Side

-- the offset of a piece, its scalar or fault, and its length
abbrev pub Placed : Type 0 → Type 0
Placed E = ℕ × Result ℕ E × ℕ

-- the piece that it is
abbrev pub piece_of : {E : Type 0} → Placed E → Piece
piece_of x = record { start = x.0; len = x.2; char = result_ok x.1 }

-- of the window from i to j, the piece that begins at i, a fault with the forward kind of the window
pub record AnswersFront {E : Type 0} (e : Encoding E) (xs : List ℕ) (i j : ℕ) (x : Placed E) : Type 0 where
  pub some : i < j
  pub piece : IsPiece e.code xs (piece_of x)
  pub begins : x.0 ≡ i
  pub kind : IfErr x.1 (λ k. e.forward (slice_range xs i j) ≡ Some k)

-- of the window from i to j, the piece that ends at j, a fault with the backward kind of the last element
pub record AnswersBack {E : Type 0} (e : Encoding E) (xs : List ℕ) (i j : ℕ) (x : Placed E) : Type 0 where
  pub some : i < j
  pub piece : IsPiece e.code xs (piece_of x)
  pub ends : x.0 + x.2 ≡ j
  pub kind : IfErr x.1 (λ k. e.backward (slice_index xs (j - 1)) ≡ k)

-- The results for a word, one for each letter, lead from the window from i to j to the one from k to l: each removes
-- its piece from the window, at its end, and if the window is empty there is none and nothing moves.
abbrev pub Walks : {E : Type 0} → Encoding E → List ℕ → ℕ → ℕ → List Side → List (Option (Placed E)) → ℕ → ℕ → Type 0
Walks e xs i j [] [] k l = (k ≡ i) × (l ≡ j)
Walks e xs i j [] (a ∷ answers) k l = ⊥
Walks e xs i j (s ∷ word) [] k l = ⊥
Walks e xs i j (s ∷ word) (None ∷ answers) k l = (i ≡ j) × Walks e xs i j word answers k l
Walks e xs i j (from_front ∷ word) (Some x ∷ answers) k l = AnswersFront e xs i j x × Walks e xs (x.0 + x.2) j word answers k l
Walks e xs i j (from_back ∷ word) (Some x ∷ answers) k l = AnswersBack e xs i j x × Walks e xs i x.0 word answers k l

-- the walk of a word over the list, and the window that it leaves
pub record IsWalk {E : Type 0} (e : Encoding E) (xs : List ℕ) (word : List Side) (answers : List (Option (Placed E))) : Type 0 where
  pub front : ℕ
  pub back : ℕ
  pub walks : Walks e xs 0 (length xs) word answers front back

-- the pieces that were returned, in the order of the word
abbrev pub answered : {E : Type 0} → List (Option (Placed E)) → List Piece
answered answers = filter_map (option_map piece_of) answers
