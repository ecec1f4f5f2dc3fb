-- The transcoded bytes, as one list: of parts that are fed, of the end, and of shards.
use Rattle.std.proofs.Common.{◌≡◌, ℕ, ◌-◌, ◌≤◌, List, [], ◌∷◌, ◌++◌, length, take, drop, arith, refl, ap, sym, subst, ◌∙◌, append_assoc}
use Rattle.std.proofs.lemmas.List.{append-nil, drop_all}
use Rattle.std.specs.Prelude.{slice_range}
use Rattle.recoding.specs.declared.form.Form.{Form}
use Rattle.recoding.specs.TextForms.{text_form}
use Rattle.recoding.specs.Recoded.{IsRecoded, Reads, Recoding, Feeds, Finishes}
use Rattle.recoding.specs.RecodedBytes.{AddsLast, AddsOutcome, KeepsOutcome, IsRecodedApart, RecodedIsOne, outcome, recoded, shown_by}
use Rattle.recoding.specs.Rooms.{FeedsInto, FinishesInto}
use Rattle.recoding.specs.Boundaries.{IsBoundary}
use Rattle.recoding.proofs.Growing.{recoded_once, recoded_nothing}
use Rattle.recoding.proofs.JoinedShards.{shards_join}

shown_is_read : (from : Form) (bytes : List ℕ) → Reads from bytes (shown_by from bytes)
unfolding shown_by
shown_is_read from bytes = ((text_form from).reads_some bytes).1

pub recoded_is : (from to : Form) (bytes : List ℕ) → IsRecoded from to bytes (recoded from to bytes)
unfolding recoded
recoded_is from to bytes = (shown_by from bytes, shown_is_read from bytes, refl)

pub same_list : (from to : Form) (bytes out : List ℕ) → IsRecoded from to bytes out → out ≡ recoded from to bytes
same_list from to bytes out h =
    let once = recoded_once from to bytes in
    once.2 out h ∙ sym (once.2 (recoded from to bytes) (recoded_is from to bytes))

pub recoded_is_one : RecodedIsOne
recoded_is_one from to bytes out = (same_list from to bytes out, λ e. subst (λ xs. IsRecoded from to bytes xs) (sym e) (recoded_is from to bytes))

pub recoded-nil : (from to : Form) → recoded from to [] ≡ []
recoded-nil from to = sym (same_list from to [] [] (recoded_nothing from to))

-- The output of a recoder.

pub outcome_fed : (r : Recoding) (part old new : List ℕ) (s : Recoding) → Feeds r part old new s → KeepsOutcome r old part new s
unfolding outcome
outcome_fed r part old new s f later =
    let g = f.grows in
    let rest : List ℕ = recoded r.from r.to (s.held ++ later) in
    let same : recoded s.from s.to (s.held ++ later) ≡ rest = ap (λ x. recoded x s.to (s.held ++ later)) f.from ∙ ap (λ x. recoded r.from x (s.held ++ later)) f.to in
    let whole : IsRecoded r.from r.to ((r.held ++ part) ++ later) (g.grown ++ rest) = g.continues later rest (recoded_is r.from r.to (s.held ++ later)) in
    let list : g.grown ++ rest ≡ recoded r.from r.to (r.held ++ (part ++ later)) =
    same_list r.from r.to ((r.held ++ part) ++ later) (g.grown ++ rest) whole ∙ ap (recoded r.from r.to) (append_assoc r.held part later) in
    ap (λ xs. new ++ xs) same ∙ ap (λ xs. xs ++ rest) g.appended ∙ append_assoc old g.grown rest ∙ ap (λ xs. old ++ xs) list

pub outcome_finished : (r : Recoding) (old new : List ℕ) → Finishes r old new → new ≡ outcome r old []
unfolding outcome
outcome_finished r old new f =
    f.appended ∙ ap (λ xs. old ++ xs) (same_list r.from r.to r.held f.grown f.recoded ∙ ap (recoded r.from r.to) (sym (append-nil r.held)))

-- if nothing is carried over, nothing more is written
pub outcome_none : (r : Recoding) (old : List ℕ) → length r.held ≡ 0 → old ≡ outcome r old []
unfolding outcome
outcome_none r old none =
    let nothing : r.held ++ [] ≡ [] = append-nil r.held ∙ drop_all 0 r.held (omega arith) in
    sym (ap (λ xs. old ++ recoded r.from r.to xs) nothing ∙ ap (λ xs. old ++ xs) (recoded-nil r.from r.to) ∙ append-nil old)

-- The output of a recoder into a buffer of a fixed size.

pub outcome_fed_into : {r s : Recoding} {part room new : List ℕ} {read wrote : ℕ} → FeedsInto r part room new read wrote s
    → AddsOutcome r (take read part) (take wrote new) s
outcome_fed_into {r} {s} {part} {new = new} {read} {wrote} f out later = outcome_fed r (take read part) out (out ++ take wrote new) s (f.feeds out) later

pub outcome_finished_into : {r s : Recoding} {room new : List ℕ} {wrote : ℕ} → FinishesInto r room new wrote s
    → AddsLast r (take wrote new) s
unfolding outcome
outcome_finished_into {r} {s} {new = new} {wrote} f out =
    let rest : List ℕ = recoded r.from r.to s.held in
    let whole : IsRecoded r.from r.to r.held (take wrote new ++ rest) = f.leaves rest (recoded_is r.from r.to s.held) in
    let same : recoded s.from s.to (s.held ++ []) ≡ rest =
    ap (recoded s.from s.to) (append-nil s.held) ∙ ap (λ x. recoded x s.to s.held) f.from ∙ ap (λ x. recoded r.from x s.held) f.to in
    let list : take wrote new ++ rest ≡ recoded r.from r.to (r.held ++ []) =
    same_list r.from r.to r.held (take wrote new ++ rest) whole ∙ ap (recoded r.from r.to) (sym (append-nil r.held)) in
    ap (λ xs. (out ++ take wrote new) ++ xs) same ∙ append_assoc out (take wrote new) rest ∙ ap (λ xs. out ++ xs) list

-- Shards.

pub recoded_apart : (from : Form) (bytes : List ℕ) (n : ℕ) → n ≤ length bytes → IsBoundary from bytes n → IsRecodedApart from bytes n
recoded_apart from bytes n le ends to =
    let first : List ℕ = recoded from to (slice_range bytes 0 n) in
    let then : List ℕ = recoded from to (drop n bytes) in
    let joined : IsRecoded from to bytes (first ++ (then ++ [])) =
    shards_join from to bytes (n ∷ []) (first ∷ then ∷ []) (omega arith, ends, le) (recoded_is from to (slice_range bytes 0 n), (recoded_is from to (drop n bytes), tt)) in
    let len : n - 0 ≡ n = omega arith in
    sym (same_list from to bytes (first ++ (then ++ [])) joined) ∙ ap (λ xs. first ++ xs) (append-nil then) ∙ ap (λ k. recoded from to (take k bytes) ++ then) len
