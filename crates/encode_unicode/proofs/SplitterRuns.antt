-- A run of a splitter, derived from the run of its source.
use Rattle.std.proofs.Common.{◌≡◌, ℕ, ◌+◌, ◌≤◌, true, List, [], ◌∷◌, ◌++◌, length, drop, Option, refl, ap, sym, ◌∙◌, arith, length-append, append_assoc, append-nil}
use Rattle.std.specs.Iterator.{Yields}
use Rattle.std.specs.Iterator.Runs.{Run, EachRunFrom, SomeRun}
use Rattle.std.specs.List.{flat_map, fold}
use Rattle.std.proofs.iter.runs.Made.{run, took}
use Rattle.std.proofs.iter.runs.Sources.{as_is, lists}
use Rattle.std.proofs.lemmas.Grind.{flat_map-append}
use Rattle.std.proofs.lemmas.List.{map-id, take-append-drop}
use Rattle.encode_unicode.specs.Pieces.{Gives, IsSplitterRun}
use Rattle.encode_unicode.specs.Sources.{Splitting, SplitterNext, unbegun}
use Rattle.encode_unicode.proofs.MergerSteps.{yields_joined}
use Rattle.encode_unicode.proofs.PieceRuns.{lengths_added}
use Rattle.encode_unicode.proofs.RunTests.{tells}

none_more : {A : Type 0} (xs more : List A) → xs ++ more ≡ xs → length more ≡ 0
none_more xs more e = let len = length-append xs more in let same = ap length e in omega arith

-- a run gives the front of a list, or all of it if the run is whole
pub gives_front : {S A : Type 0} {steps : S → Option A → S → Type 0} (p : Run steps) (xs more : List A) → xs ≡ p.items ++ more → (p.whole ≡ true → length more ≡ 0) → Gives p xs
gives_front {S} {A} p xs more cut none =
    let mapped = lists p (λ (x : A). x) xs more none (rw (map-id p.items) cut) in
    let items = as_is p xs mapped in
    (items, mapped, tells p xs items)

module _ {S : Type 0} (code : ℕ → List ℕ) (steps : S → Option ℕ → S → Type 0) where
  -- the elements that calls of a splitter gave, and the items that its source gave to them
  given_by : (xs : List ℕ) (s t : Splitting S) → Yields (SplitterNext code steps) s xs t → (ys : List ℕ) × Yields steps s.source ys t.source × (s.begun ++ flat_map code ys ≡ xs ++ t.begun)
  given_by [] s t y = ([], ap (λ (v : Splitting S). v.source) y, append-nil s.begun ∙ ap (λ (v : Splitting S). v.begun) y)
  given_by (x ∷ xs) s t y =
      let mid = y.0 in
      let one = y.1 in
      let rest = given_by xs mid t y.2 in (
        one.given ++ rest.0,
        yields_joined steps s.source mid.source t.source one.given rest.0 one.gave rest.1,
        ap (λ zs. s.begun ++ zs) (flat_map-append code one.given rest.0) ∙ sym (append_assoc s.begun (flat_map code one.given) (flat_map code rest.0))
            ∙ ap (λ zs. zs ++ flat_map code rest.0) one.sends ∙ ap (λ zs. x ∷ zs) rest.2,
      )

  pub splitter_runs : (s : S) (t : Splitting S) → t ≡ unbegun s → EachRunFrom (SplitterNext code steps) t (λ p. SomeRun steps s (λ q. IsSplitterRun code p q))
  splitter_runs s t e p seen from =
      let ran = took p in
      let given = given_by p.items p.from ran.0 ran.1 in
      let q = run steps p.from.source given.0 p.whole (ran.0.source, given.1, λ whole. let last = ran.2 whole in (last.0.source, last.1.gave.1)) in
      let begun : p.from.begun ≡ [] = ap (λ (v : Splitting S). v.begun) (from ∙ e) in
      let cut : flat_map code q.items ≡ p.items ++ ran.0.begun = sym (ap (λ zs. zs ++ flat_map code q.items) begun) ∙ given.2 in
      let none : p.whole ≡ true → ran.0.begun ≡ [] = λ whole. (ran.2 whole).1.sends.0 in
      let short : p.len ≤ fold (λ sum s. sum + length (code s)) 0 q.items = omega (arith, p.long, lengths_added code 0 q.items, ap length cut, length-append p.items ran.0.begun) in (
        q,
        ap (λ (v : Splitting S). v.source) (from ∙ e),
        (
          refl,
          short,
          (λ whole. sym (cut ∙ ap (λ zs. p.items ++ zs) (none whole) ∙ append-nil p.items)),
          (λ xs front all.
              let more = drop q.len xs in
              let whole_list : xs ≡ q.items ++ more = sym (take-append-drop q.len xs) ∙ ap (λ zs. zs ++ more) (sym front) in
              let codes : flat_map code xs ≡ p.items ++ (ran.0.begun ++ flat_map code more) = ap (flat_map code) whole_list ∙ flat_map-append code q.items more ∙ ap (λ zs. zs ++ flat_map code more) cut ∙ append_assoc p.items ran.0.begun (flat_map code more) in
              gives_front p (flat_map code xs) (ran.0.begun ++ flat_map code more) codes
              (λ whole.
              let no_more : more ≡ [] = nothing q.items more (sym whole_list ∙ sym (all whole)) in
              rw (none whole, no_more) refl)),
        ),
      )
    where
      nothing : (ys more : List ℕ) → ys ++ more ≡ ys → more ≡ []
      nothing ys [] e = refl
      nothing ys (x ∷ more) e = let zero : length (x ∷ more) ≡ 0 = none_more ys (x ∷ more) e in absurd (omega arith)
