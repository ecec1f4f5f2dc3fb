-- Two lists that are joined, with no code across the seam: their pieces are those of the whole.
use Rattle.std.proofs.Common.{◌≡◌, ℕ, ◌+◌, ◌-◌, ◌<◌, ◌≤◌, List, ◌++◌, length, map, arith, refl, ◌∙◌, ⊎_elim, Some, None, Option, length-append}
use Rattle.std.proofs.lemmas.Bool.{cases_lt}
use Rattle.std.proofs.lemmas.List.{take_at, take_rest, drop_at}
use Rattle.std.proofs.lemmas.Slice.{between_from_start}
use Rattle.std.specs.Prelude.{slice_range}
use Rattle.utf_base.specs.Code.{IsCode, utf8}
use Rattle.utf_base.specs.Piece.{Stands, Inside, Piece, IsPieceAt, IsCut, IsCutBetween}
use Rattle.utf_base.proofs.CutChanges.{cut_stays, cut_moves, moved}
use Rattle.utf_base.proofs.Cuts.{cut_append}
use Rattle.utf_base.proofs.Standing.{stands_in_part, stands_in_whole}
use Rattle.utf_base.proofs.Utf8Code.{length_utf8}

front_part : (a b : List ℕ) → slice_range (a ++ b) 0 (length a) ≡ a
front_part a b = between_from_start (a ++ b) (length a) ∙ take_at a b (length a) refl

rest_part : (a b : List ℕ) → slice_range (a ++ b) (length a) (length (a ++ b)) ≡ b
rest_part a b = take_rest (a ++ b) (length a) ∙ drop_at a b (length a) refl

-- A code in a part is in the whole, and a code of the whole within a part is in it.

pub front_in_whole : (code : ℕ → List ℕ) (a b : List ℕ) (p s : ℕ) → Stands code a p s → Stands code (a ++ b) p s
front_in_whole code a b p s h =
    (stands_in_whole code (a ++ b) 0 (length a) p p s (omega arith) (omega arith) (omega (arith, length-append a b)) (rw (front_part a b) h)).0

pub whole_in_front : (code : ℕ → List ℕ) (a b : List ℕ) (p s : ℕ) → Stands code (a ++ b) p s → p + length (code s) ≤ length a → Stands code a p s
whole_in_front code a b p s h fits =
    rw (front_part a b) at (stands_in_part code (a ++ b) 0 (length a) p p s (omega arith) (omega (arith, length-append a b)) h fits)

pub rest_in_whole : (code : ℕ → List ℕ) (a b : List ℕ) (p q s : ℕ) → length a + p ≡ q → Stands code b p s → Stands code (a ++ b) q s
rest_in_whole code a b p q s e h =
    (stands_in_whole code (a ++ b) (length a) (length (a ++ b)) p q s e (omega (arith, length-append a b)) (omega arith) (rw (rest_part a b) h)).0

pub whole_in_rest : (code : ℕ → List ℕ) (a b : List ℕ) (p q s : ℕ) → length a + p ≡ q → Stands code (a ++ b) q s → Stands code b p s
whole_in_rest code a b p q s e h =
    let within = h.within in
    rw (rest_part a b) at (stands_in_part code (a ++ b) (length a) (length (a ++ b)) p q s e (omega arith) h within)

-- A code of a part covers an offset if and only if it does in the whole.

pub inside_front : (code : ℕ → List ℕ) (a b : List ℕ) (p : ℕ) → Inside code a p → Inside code (a ++ b) p
inside_front code a b p i = record { from = i.from; char = i.char; stands = front_in_whole code a b i.from i.char i.stands; begins = i.begins; ends = i.ends }

pub inside_rest : (code : ℕ → List ℕ) (a b : List ℕ) (p : ℕ) → Inside code b p → Inside code (a ++ b) (length a + p)
inside_rest code a b p i = record {
  from = length a + i.from;
  char = i.char;
  stands = rest_in_whole code a b i.from (length a + i.from) i.char refl i.stands;
  begins = omega (arith, i.begins);
  ends = omega (arith, i.ends);
}

-- no code of UTF-8 covers both an offset and one that is three bytes away
pub near_front : (a b : List ℕ) (p : ℕ) → p + 3 ≤ length a → Inside utf8 (a ++ b) p → Inside utf8 a p
near_front a b p h i = record {
  from = i.from;
  char = i.char;
  stands = whole_in_front utf8 a b i.from i.char i.stands (omega (arith, i.begins, length_utf8 i.char));
  begins = i.begins;
  ends = i.ends;
}

pub near_rest_of : (code : ℕ → List ℕ) (most : ℕ) → ((s : ℕ) → length (code s) ≤ most) → (a b : List ℕ) (p : ℕ) → most ≤ p + 1 → Inside code (a ++ b) (length a + p) → Inside code b p
near_rest_of code most few a b p h i =
    let le : length a ≤ i.from = omega (arith, i.ends, few i.char) in
    record {
      from = i.from - length a;
      char = i.char;
      stands = whole_in_rest code a b (i.from - length a) i.from i.char (omega arith) i.stands;
      begins = omega (arith, i.begins);
      ends = omega (arith, i.ends);
    }

pub near_rest : (a b : List ℕ) (p : ℕ) → 3 ≤ p → Inside utf8 (a ++ b) (length a + p) → Inside utf8 b p
near_rest a b p h = near_rest_of utf8 4 length_utf8 a b p (omega arith)

-- If no code covers the seam.
module _ (code : ℕ → List ℕ) (a b : List ℕ) (seam : Inside code (a ++ b) (length a) → ⊥) where
  -- a code that begins in the front ends there
  ends_in_front : (p s : ℕ) → Stands code (a ++ b) p s → p < length a → p + length (code s) ≤ length a
  ends_in_front p s h lt =
      ⊎_elim
      (λ (over : length a < p + length (code s)). absurd (seam (record { from = p; char = s; stands = h; begins = lt; ends = over })))
      (λ (fits : p + length (code s) ≤ length a). fits)
      (cases_lt (length a) (p + length (code s)))

  -- a code that ends in the rest begins there
  begins_in_rest : (p s : ℕ) → Stands code (a ++ b) p s → length a < p + length (code s) → length a ≤ p
  begins_in_rest p s h over =
      ⊎_elim
      (λ (before : p < length a). absurd (seam (record { from = p; char = s; stands = h; begins = before; ends = over })))
      (λ (from : length a ≤ p). from)
      (cases_lt p (length a))

  pub inside_before : (p : ℕ) → p ≤ length a → Inside code (a ++ b) p → Inside code a p
  inside_before p le i = record {
    from = i.from;
    char = i.char;
    stands = whole_in_front code a b i.from i.char i.stands (ends_in_front i.from i.char i.stands (omega (arith, i.begins)));
    begins = i.begins;
    ends = i.ends;
  }

  pub inside_following : (p : ℕ) → Inside code (a ++ b) (length a + p) → Inside code b p
  inside_following p i =
      let le = begins_in_rest i.from i.char i.stands (omega (arith, i.ends)) in
      record {
        from = i.from - length a;
        char = i.char;
        stands = whole_in_rest code a b (i.from - length a) i.from i.char (omega arith) i.stands;
        begins = omega (arith, i.begins);
        ends = omega (arith, i.ends);
      }

  pub piece_from_front : (p n : ℕ) (char : Option ℕ) → p < length a → IsPieceAt code a p n char → IsPieceAt code (a ++ b) p n char
  piece_from_front p n (Some s) lt h = (front_in_whole code a b p s h.0, h.1)
  piece_from_front p n None lt h = (
    omega (arith, length-append a b),
    h.1,
    λ v.
        h.2 (record {
          from = v.from;
          char = v.char;
          stands = whole_in_front code a b v.from v.char v.stands (ends_in_front v.from v.char v.stands (omega (arith, v.begins)));
          begins = v.begins;
          ends = v.ends;
        }),
  )

  pub piece_of_front : (p n : ℕ) (char : Option ℕ) → p < length a → IsPieceAt code (a ++ b) p n char → IsPieceAt code a p n char
  piece_of_front p n (Some s) lt h = (whole_in_front code a b p s h.0 (ends_in_front p s h.0 lt), h.1)
  piece_of_front p n None lt h = (
    lt,
    h.1,
    λ v. h.2 (record { from = v.from; char = v.char; stands = front_in_whole code a b v.from v.char v.stands; begins = v.begins; ends = v.ends }),
  )

  pub piece_from_rest : (p n : ℕ) (char : Option ℕ) → IsPieceAt code b p n char → IsPieceAt code (a ++ b) (length a + p) n char
  piece_from_rest p n (Some s) h = (rest_in_whole code a b p (length a + p) s refl h.0, h.1)
  piece_from_rest p n None h =
      let lt = h.0 in (
        omega (arith, length-append a b),
        h.1,
        λ v.
            let le = begins_in_rest v.from v.char v.stands (omega (arith, v.ends)) in
            h.2 (record {
              from = v.from - length a;
              char = v.char;
              stands = whole_in_rest code a b (v.from - length a) v.from v.char (omega arith) v.stands;
              begins = omega (arith, v.begins);
              ends = omega (arith, v.ends);
            }),
      )

  pub piece_of_rest : (p n : ℕ) (char : Option ℕ) → IsPieceAt code (a ++ b) (length a + p) n char → IsPieceAt code b p n char
  piece_of_rest p n (Some s) h = (whole_in_rest code a b p (length a + p) s refl h.0, h.1)
  piece_of_rest p n None h =
      let lt = h.0 in (
        omega (arith, length-append a b),
        h.1,
        λ v.
            h.2 (record {
              from = length a + v.from;
              char = v.char;
              stands = rest_in_whole code a b v.from (length a + v.from) v.char refl v.stands;
              begins = omega (arith, v.begins);
              ends = omega (arith, v.ends);
            }),
      )

  -- the pieces of the front, at the offsets of the whole
  pub cut_of_front : (ps : List Piece) → IsCut code a ps → IsCutBetween code (a ++ b) 0 (length a) ps
  cut_of_front ps cut = cut_stays code a (a ++ b) 0 (length a) ps (λ p lt n char. (piece_from_front p n char lt, piece_of_front p n char lt)) cut

  -- the pieces of the rest, at the offsets of the whole
  pub cut_of_rest : IsCode code → (ps : List Piece) → IsCut code b ps → IsCutBetween code (a ++ b) (length a) (length (a ++ b)) (map (moved 0 (length a)) ps)
  cut_of_rest c ps cut =
      let place : length a + 0 ≡ length a = omega arith in
      rw place at (cut_moves code c b (a ++ b) 0 (length a) 0 (length (a ++ b)) ps
      (λ p lo n char. let first : 0 + p ≡ p = omega arith in rw first (piece_from_rest p n char, piece_of_rest p n char)) (omega arith) cut)

  -- The cut of the whole consists of the cuts of its parts.
  pub cut_joined : IsCode code → (ps qs : List Piece) → IsCut code a ps → IsCut code b qs → IsCut code (a ++ b) (ps ++ map (moved 0 (length a)) qs)
  cut_joined c ps qs front rest =
      cut_append code (a ++ b) 0 (length a) (length (a ++ b)) ps (map (moved 0 (length a)) qs) (omega arith) (omega (arith, length-append a b))
      (cut_of_front ps front) (cut_of_rest c qs rest)
