-- Rows of chunks that have no fault: a search for one skips them as a whole. A row is one chunk in a coarser
-- division of the text.
use Rattle.std.proofs.Common.{◌≡◌, ℕ, ◌+◌, ◌-◌, ◌≤◌, List, [], ◌∷◌, ◌++◌, length, get_or, take, drop, arith, ap, sym, ◌∙◌, subst, length-append}
use Rattle.std.proofs.lemmas.List.{append-nil, length-take-le, take_at}
use Rattle.std.proofs.lemmas.List.Edits.{split_between}
use Rattle.std.proofs.lemmas.List.Folds.{concat-append}
use Rattle.std.proofs.Math.Seq.{get_or-append_seam}
use Rattle.std.specs.List.{concat}
use Rattle.std.specs.Prelude.{slice_range}
use Rattle.utf_base.specs.Code.{utf8}
use Rattle.encode_unicode.specs.Pieces.{pieces}
use Rattle.text_buffers.specs.declared.buffers.counts.Counts.{Counts}
use Rattle.text_buffers.specs.Chunks.{EndOutside, IsSpot}
use Rattle.text_runs.specs.ForwardRuns.{faulty_item_count}
use Rattle.text_buffers.specs.Rows.{AreSums, IsCleanRow}
use Rattle.text_buffers.proofs.ChunkLists.{take_up_to, EndOutside-one, EndOutside-append, EndOutside-front, EndOutside-rest}
use Rattle.text_buffers.proofs.CountLemmas.{Seams}
use Rattle.text_runs.proofs.JoinedPieces.{inside_rest}
use Rattle.text_buffers.proofs.NextFaultLemmas.{NoneBetween, none_counted, none_of_chunk}
use Rattle.text_buffers.proofs.NumberLemmas.{ChunkAt}
use Rattle.text_buffers.proofs.PreviousFaultLemmas.{NoneBack, none_counted_before, none_back_of_chunk}
use Rattle.text_buffers.proofs.RowEditLemmas.{seams_of}
use Rattle.text_buffers.proofs.RowLemmas.{no_counts}

module _ (chunks : List (List ℕ)) (k p : ℕ) where
  abbrev row : List ℕ
  row = concat (slice_range chunks k (k + 256))

  abbrev grouped : List (List ℕ)
  grouped = take k chunks ++ (row ∷ drop (k + 256) chunks)

  parted : chunks ≡ take k chunks ++ (slice_range chunks k (k + 256) ++ drop (k + 256) chunks)
  parted = split_between chunks k (k + 256) (omega arith)

  grouped_whole : concat grouped ≡ concat chunks
  grouped_whole =
      concat-append (take k chunks) (row ∷ drop (k + 256) chunks)
      ∙ (ap (λ ys. concat (take k chunks) ++ ys) (sym (concat-append (slice_range chunks k (k + 256)) (drop (k + 256) chunks)))
      ∙ (sym (concat-append (take k chunks) (slice_range chunks k (k + 256) ++ drop (k + 256) chunks)) ∙ ap concat (sym parted)))

  grouped_ends : EndOutside chunks → EndOutside grouped
  grouped_ends ends =
      let P = take k chunks in
      let M = slice_range chunks k (k + 256) in
      let Q = drop (k + 256) chunks in
      let all : EndOutside (P ++ (M ++ Q)) = subst EndOutside parted ends in
      let seams : Seams (concat P) (concat M) (concat Q) = seams_of P M Q all in
      let one : concat (row ∷ []) ≡ row = append-nil row in
      let later : EndOutside (row ∷ Q) = EndOutside-append (row ∷ []) Q (EndOutside-one row) (EndOutside-rest M Q (EndOutside-rest P (M ++ Q) all))
      (λ i. seams.ends (inside_rest utf8 (concat P) (concat M ++ concat Q) (length (concat M)) (rw one at i))) in
      EndOutside-append P (row ∷ Q) (EndOutside-front P (M ++ Q) all) later seams.begins

  module _ (ends : EndOutside chunks) (spot : IsSpot chunks k p) (fits : k + 256 ≤ length chunks) where
    row_at : ChunkAt grouped k p row
    row_at =
        let front : length (take k chunks) ≡ k = length-take-le k chunks (omega arith) in
        let first : take k grouped ≡ take k chunks = take_at (take k chunks) (row ∷ drop (k + 256) chunks) k front in
        let long = length-append (take k chunks) (row ∷ drop (k + 256) chunks) in
        let read : get_or grouped (length (take k chunks)) row ≡ row = get_or-append_seam (take k chunks) row (drop (k + 256) chunks) row in
        record {
          ends = grouped_ends ends;
          spot = record { within = omega arith; begins = spot.begins ∙ ap (λ cs. length (concat cs)) (sym first) };
          lt = omega arith;
          is = sym (rw front at read);
        }

    pub row_spot : IsSpot chunks (k + 256) (p + length row)
    row_spot =
        let begins = spot.begins in
        record {
          within = fits;
          begins = omega (arith, ap (λ cs. length (concat cs)) (take_up_to chunks k (k + 256) (omega arith) fits), ap length (concat-append (take k chunks) (slice_range chunks k (k + 256))), length-append (concat (take k chunks)) row);
        }

    pub none_in_row : (i : ℕ) → NoneBetween (concat chunks) i p → faulty_item_count (pieces row) ≡ 0 → NoneBetween (concat chunks) i (p + length row)
    none_in_row i none clean =
        rw grouped_whole at (none_of_chunk grouped k p row row_at i (rw grouped_whole none) (none_counted row (i - p) clean))

    pub none_back_in_row : (i : ℕ) → NoneBack (concat chunks) i (p + length row) → faulty_item_count (pieces row) ≡ 0 → NoneBack (concat chunks) i p
    none_back_in_row i none clean =
        rw grouped_whole at (none_back_of_chunk grouped k p row row_at i (rw grouped_whole none) (none_counted_before row (i - p) clean))

-- the properties of a clean row
pub record CleanRow (chunks : List (List ℕ)) (k bytes : ℕ) : Type 0 where
  pub fits : k + 256 ≤ length chunks
  pub long : bytes ≡ length (concat (slice_range chunks k (k + 256)))
  pub clean : faulty_item_count (pieces (concat (slice_range chunks k (k + 256)))) ≡ 0

pub clean_row_is : (chunks : List (List ℕ)) (sums : List Counts) (k bytes : ℕ) → AreSums chunks sums → IsCleanRow sums k bytes → CleanRow chunks k bytes
clean_row_is chunks sums k bytes are c =
    let some = c.some in
    let within = are.within in
    let is = are.counted c.row no_counts c.some in
    rw c.begins (record {
      fits = omega arith;
      long = c.long no_counts ∙ ap (λ (n : Counts). n.bytes) is;
      clean = sym (ap (λ (n : Counts). n.faults) is) ∙ c.clean no_counts;
    })

-- the row before a chunk ends where that chunk begins
pub row_before : (chunks : List (List ℕ)) (k p bytes : ℕ) → IsSpot chunks (k + 256) p → bytes ≡ length (concat (slice_range chunks k (k + 256))) → (bytes ≤ p) × IsSpot chunks k (p - bytes)
row_before chunks k p bytes spot is =
    let within = spot.within in
    let begins = spot.begins in
    let long = length-append (concat (take k chunks)) (concat (slice_range chunks k (k + 256))) in
    let all = ap (λ cs. length (concat cs)) (take_up_to chunks k (k + 256) (omega arith) within) in
    let both = ap length (concat-append (take k chunks) (slice_range chunks k (k + 256))) in
    (omega arith, record { within = omega arith; begins = omega arith })

-- One step of a search over such a row, forward and backward.
module _ (chunks : List (List ℕ)) (sums : List Counts) (k p bytes : ℕ) (ends : EndOutside chunks) (are : AreSums chunks sums) (spot : IsSpot chunks k p) where
  pub clean_step : IsCleanRow sums k bytes → IsSpot chunks (k + 256) (p + bytes) × ((i : ℕ) → NoneBetween (concat chunks) i p → NoneBetween (concat chunks) i (p + bytes))
  clean_step clean =
      let c = clean_row_is chunks sums k bytes are clean in
      rw c.long (row_spot chunks k p ends spot c.fits, λ i none. none_in_row chunks k p ends spot c.fits i none c.clean)

  pub clean_step_back : 256 ≤ k → IsCleanRow sums (k - 256) bytes
      → (bytes ≤ p) × IsSpot chunks (k - 256) (p - bytes) × ((i : ℕ) → NoneBack (concat chunks) i p → NoneBack (concat chunks) i (p - bytes))
  clean_step_back le clean =
      let c = clean_row_is chunks sums (k - 256) bytes are clean in
      let at : k - 256 + 256 ≡ k = omega arith in
      let back = row_before chunks (k - 256) p bytes (rw at spot) c.long in
      let end : p - bytes + length (concat (slice_range chunks (k - 256) (k - 256 + 256))) ≡ p = omega (arith, back.0, c.long) in
      (back.0, back.1, λ i none. none_back_in_row chunks (k - 256) (p - bytes) ends back.1 c.fits i (rw end none) c.clean)
