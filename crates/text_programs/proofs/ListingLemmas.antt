-- The listing of a run, one line after another.
use Rattle.std.proofs.Common.{◌≡◌, ℕ, ◌+◌, ◌≤◌, Bool, true, false, if◌then◌else◌, List, [], ◌∷◌, ◌++◌, arith, Option, sym, ◌∙◌, Result, IfOk, ap}
use Rattle.encode_unicode.specs.Window.{Window, Item, whole_window, GivesFront, GivesNone}
use Rattle.std.specs.Io.KnownBytes.{Appends}
use Rattle.text_runs.specs.Failures.{AppendsFront}
use Rattle.text_programs.specs.Lines.{item_line}
use Rattle.text_runs.specs.ForwardRuns.{is_fault, faulty_item_count}
use Rattle.text_programs.specs.Layouts.{WritesListing, WritesListingFront}
use Rattle.text_programs.specs.Listings.{listing}
use Rattle.text_runs.proofs.ForwardRuns.{IsRunSoFar, IsRunSoFar-none, IsRunSoFar-push, IsForwardRun-all, item_some, GoesOn-always}
use Rattle.text_runs.proofs.Fronts.{AppendsFront-none, AppendsFront-first}
use Rattle.text_programs.proofs.LineLemmas.{AppendsFront-held, HoldsLines, HoldsLines-none, HoldsLines-push, HoldsLines-sent, Sends, WritesLines-held, flat_map-append}
use Rattle.std.specs.Prelude.{◌↔◌, Option, count_by}
use Rattle.std.specs.Str.{IsUtf8}
use Rattle.std.proofs.lemmas.Result.{IfOk-weaker}
use Rattle.encode_unicode.specs.Pieces.{pieces}
use Rattle.text_programs.specs.Written.{WritesLines}
use Rattle.text_runs.proofs.TextRuns.{text_where_no_fault, no_fault_where_text}
use Rattle.text_runs.proofs.EqualRunLemmas.{run_is_pieces}

-- a test counts at most one
one_at_most : (b : Bool) → (if b then 1 else 0) ≤ 1
one_at_most true = omega arith
one_at_most false = omega arith

-- The lines of the run up to the window's front, and its errors, counted: the first lines are written, and the others
-- are buffered.
pub record IsListedSoFar (xs : List ℕ) (old new : Option (List ℕ)) (held : List ℕ) (faults : ℕ) (w : Window) : Type 0 where
  pub items : List Item
  pub run : IsRunSoFar xs items w
  pub lines : HoldsLines item_line is_fault items old new held faults
  pub few : faults ≤ w.front

pub IsListedSoFar-none : (xs : List ℕ) (known : Option (List ℕ)) (held : List ℕ) (w : Window) → w ≡ whole_window xs → held ≡ [] → IsListedSoFar xs known known held 0 w
IsListedSoFar-none xs known held w e none =
    rw (e, none) (record { items = []; run = IsRunSoFar-none xs; lines = HoldsLines-none item_line is_fault known; few = omega arith })

-- one line more
pub IsListedSoFar-push : {xs : List ℕ} {old new : Option (List ℕ)} {held : List ℕ} {faults : ℕ} {w v : Window} {x : Item}
    → IsListedSoFar xs old new held faults w → GivesFront w x v → IsListedSoFar xs old new (held ++ item_line x) (faults + (if is_fault x then 1 else 0)) v
IsListedSoFar-push {xs} {old} {new} {held} {faults} {w} {v} {x} f g =
    let few = f.few in
    let some = item_some f.run g in
    let one = one_at_most (is_fault x) in
    record {
      items = f.items ++ x ∷ [];
      run = IsRunSoFar-push f.run g;
      lines = HoldsLines-push item_line is_fault f.items x old new held faults f.lines;
      few = omega arith;
    }

-- buffered lines are written
pub IsListedSoFar-sent : {xs : List ℕ} {old mid new : Option (List ℕ)} {held left : List ℕ} {faults : ℕ} {w : Window}
    → IsListedSoFar xs old mid held faults w → Sends mid new held left → IsListedSoFar xs old new left faults w
IsListedSoFar-sent {old} {mid} {new} {held} {left} {faults} f sends =
    record {
      items = f.items;
      run = f.run;
      lines = HoldsLines-sent item_line is_fault f.items old mid new held left faults f.lines sends;
      few = f.few;
    }

-- the window is empty and nothing is buffered, so the listing is complete
pub WritesListing-all : {xs : List ℕ} {old mid new : Option (List ℕ)} {held : List ℕ} {faults : ℕ} {w v : Window}
    → IsListedSoFar xs old mid held faults w → GivesNone w v → Appends mid new held → WritesListing xs old new faults
WritesListing-all {xs} {old} {mid} {new} {held} {faults} {w} {v} f g written =
    record { entries = f.items; run = IsForwardRun-all xs f.items w v f.run g; lines = WritesLines-held item_line is_fault f.items old mid new held faults f.lines written }

-- what is listed so far is a front, and the lines to come are the rest
pub WritesListingFront-so_far : (xs : List ℕ) (old new : Option (List ℕ)) (items : List Item) (w : Window)
    → IsRunSoFar xs items w → AppendsFront old new (listing items) → WritesListingFront xs old new
WritesListingFront-so_far xs old new items w run front =
    let rest = GoesOn-always xs items w run in
    record {
      entries = items ++ rest.more;
      run = rest.run;
      written = rw (flat_map-append item_line items rest.more) (AppendsFront-first old new (listing items) (listing rest.more) front);
    }

-- the writer failed at the buffered lines
pub WritesListingFront-failed : {xs : List ℕ} {old mid new : Option (List ℕ)} {held : List ℕ} {faults : ℕ} {w : Window}
    → IsListedSoFar xs old mid held faults w → AppendsFront mid new held → WritesListingFront xs old new
WritesListingFront-failed {xs} {old} {mid} {new} {held} {faults} {w} f front =
    WritesListingFront-so_far xs old new f.items w f.run (AppendsFront-held item_line is_fault f.items old mid new held faults f.lines front)

-- nothing is a front of the listing
pub WritesListingFront-none : (xs : List ℕ) (held : Option (List ℕ)) → WritesListingFront xs held held
WritesListingFront-none xs held = WritesListingFront-so_far xs held held [] (whole_window xs) (IsRunSoFar-none xs) (AppendsFront-none held [])

-- A listing has no error if and only if its bytes are text.
pub listing_of_text : (xs : List ℕ) (old new : Option (List ℕ)) (faults : ℕ) → WritesListing xs old new faults → (faults ≡ 0) ↔ IsUtf8 xs
listing_of_text xs old new faults h = (
  (λ zero. text_where_no_fault xs h.entries h.run (sym h.lines.counted ∙ zero)),
  (λ text. h.lines.counted ∙ no_fault_where_text xs h.entries h.run text),
)

-- The number of faults that a listing counts.
pub listing_of_pieces : (xs : List ℕ) (old new : Option (List ℕ)) (faults : ℕ) → WritesListing xs old new faults → faults ≡ faulty_item_count (pieces xs)
listing_of_pieces xs old new faults h = h.lines.counted ∙ ap faulty_item_count (run_is_pieces xs h.entries h.run)

pub lines_are_counted : {X E : Type 0} (line : X → List ℕ) (wrong : X → Bool) (entries : List X) (old new : Option (List ℕ)) (r : Result ℕ E)
    → IfOk r (WritesLines line wrong entries old new) → IfOk r (λ n. n ≡ count_by wrong entries)
lines_are_counted line wrong entries old new r h =
    IfOk-weaker r (WritesLines line wrong entries old new) (λ n. n ≡ count_by wrong entries) (λ (n : ℕ) (w : WritesLines line wrong entries old new n). w.counted) h
