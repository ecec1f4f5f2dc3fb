-- The output of shards, one after another: what holds for two shards holds for any number.
use Rattle.std.proofs.Common.{◌≡◌, ℕ, ◌+◌, ◌-◌, ◌<◌, ◌≤◌, ⊎_elim, List, [], ◌∷◌, length, take, drop, arith, ap, sym, ◌∙◌, subst, length-drop}
use Rattle.std.proofs.lemmas.Bool.{cases_lt}
use Rattle.std.proofs.lemmas.Grind.{common_steps}
use Rattle.std.proofs.lemmas.List.{drop-drop, drop_all, take_all}
use Rattle.std.specs.Prelude.{slice_range}
use Rattle.recoding.specs.Shards.{AreEach, EachBecomes, shards}

-- The properties of bytes that have a result, of the offsets where they may be cut, and of the combined
-- results of some parts.
pub record Joins {A : Type 0} (IsEnd : List ℕ → ℕ → Type 0) (becomes : List ℕ → A → Type 0) (all : List (List ℕ) → List A → A) : Type 0 where
  pub join : List ℕ → A → A → A
  pub nothing : A
  pub none : all [] [] ≡ nothing
  pub more : (part : List ℕ) (parts : List (List ℕ)) (r : A) (results : List A) → all (part ∷ parts) (r ∷ results) ≡ join part r (all parts results)
  pub front : (bytes : List ℕ) → IsEnd bytes 0
  pub rest : (bytes : List ℕ) (i n : ℕ) → i < length bytes → i ≤ n → n ≤ length bytes → IsEnd bytes i → IsEnd bytes n → IsEnd (drop i bytes) (n - i)
  pub two : (bytes : List ℕ) (r s : A) (n : ℕ) → n < length bytes → IsEnd bytes n → becomes (take n bytes) r → becomes (drop n bytes) s
      → becomes bytes (join (take n bytes) r s)
  pub one : (bytes : List ℕ) (r : A) → becomes bytes r → becomes bytes (join bytes r nothing)
  pub only : (r : A) → becomes [] r → r ≡ nothing

module _ {A : Type 0} (IsEnd : List ℕ → ℕ → Type 0) (becomes : List ℕ → A → Type 0) (all : List (List ℕ) → List A → A) (j : Joins IsEnd becomes all) where
  -- the end of the bytes is the end of a shard too
  pub two_to_end : (bytes : List ℕ) (r s : A) (n : ℕ) → n ≤ length bytes → IsEnd bytes n → becomes (take n bytes) r → becomes (drop n bytes) s
      → becomes bytes (j.join (take n bytes) r s)
  two_to_end bytes r s n le end a b =
      ⊎_elim
      (λ (lt : n < length bytes). j.two bytes r s n lt end a b)
      (λ (ge : length bytes ≤ n).
      let none : s ≡ j.nothing = j.only s (rw (drop_all n bytes ge) at b) in
      let whole : becomes bytes r = rw (take_all n bytes ge) at a in
      rw (none, take_all n bytes ge) (j.one bytes r whole))
      (cases_lt n (length bytes))

  last_alone : (part : List ℕ) (r : A) → becomes part r → becomes part (all (part ∷ []) (r ∷ []))
  last_alone part r h = rw (j.more part [] r [], j.none) (j.one part r h)

  ends_within : (bytes : List ℕ) (i : ℕ) (places : List ℕ) → AreEach (IsEnd bytes) (length bytes) i places → i ≤ length bytes
  ends_within bytes i [] h = h
  ends_within bytes i (n ∷ places) h = let rest = ends_within bytes n places h.2 in omega (arith, h.0)

  -- after the end of the bytes nothing follows
  nothing_after : (bytes : List ℕ) (i : ℕ) (places : List ℕ) (results : List A) → length bytes ≤ i
      → AreEach (IsEnd bytes) (length bytes) i places → EachBecomes becomes (shards bytes i places) results
      → becomes [] (all (shards bytes i places) results)
  nothing_after bytes i [] [] ge h b = absurd b
  nothing_after bytes i [] (r ∷ []) ge h b =
      let none : drop i bytes ≡ [] = drop_all i bytes ge in
      rw none (last_alone [] r (rw none at b.0))
  nothing_after bytes i [] (r ∷ other ∷ results) ge h b = absurd b.1
  nothing_after bytes i (n ∷ places) [] ge h b = absurd b
  nothing_after bytes i (n ∷ places) (r ∷ results) ge h b =
      let rest = nothing_after bytes n places results (omega (arith, h.0)) h.2 b.1 in
      let part : slice_range bytes i n ≡ [] = nothing_between bytes i n ge in
      let none : all (shards bytes n places) results ≡ j.nothing = j.only (all (shards bytes n places) results) rest in
      rw (j.more (slice_range bytes i n) (shards bytes n places) r results, part, none) (j.one [] r (rw part at b.0))
    where
      nothing_between : (xs : List ℕ) (i n : ℕ) → length xs ≤ i → slice_range xs i n ≡ []
      nothing_between xs i n ge = grind (arith, common_steps)

  pub shards_from : (bytes : List ℕ) (i : ℕ) (places : List ℕ) (results : List A) → IsEnd bytes i
      → AreEach (IsEnd bytes) (length bytes) i places → EachBecomes becomes (shards bytes i places) results
      → becomes (drop i bytes) (all (shards bytes i places) results)
  shards_from bytes i [] [] end h b = absurd b
  shards_from bytes i [] (r ∷ []) end h b = last_alone (drop i bytes) r b.0
  shards_from bytes i [] (r ∷ other ∷ results) end h b = absurd b.1
  shards_from bytes i (n ∷ places) [] end h b = absurd b
  shards_from bytes i (n ∷ places) (r ∷ results) end h b =
      ⊎_elim
      (λ (lt : i < length bytes).
      let within = ends_within bytes n places h.2 in
      let lo = h.0 in
      let rest = shards_from bytes n places results h.1 h.2 b.1 in
      let following : drop (n - i) (drop i bytes) ≡ drop n bytes = drop-drop (n - i) i bytes ∙ ap (λ k. drop k bytes) (back i n lo) in
      rw (j.more (slice_range bytes i n) (shards bytes n places) r results)
      (two_to_end (drop i bytes) r (all (shards bytes n places) results) (n - i) (omega (arith, length-drop i bytes))
      (j.rest bytes i n lt lo within end h.1) b.0 (rw following rest)))
      (λ (ge : length bytes ≤ i).
      subst (λ xs. becomes xs (all (shards bytes i (n ∷ places)) (r ∷ results))) (sym (drop_all i bytes ge)) (nothing_after bytes i (n ∷ places) (r ∷ results) ge h b))
      (cases_lt i (length bytes))
    where
      back : (i n : ℕ) → i ≤ n → i + (n - i) ≡ n
      back i n le = omega arith

  pub shards_of : (bytes places : List ℕ) (results : List A) → AreEach (IsEnd bytes) (length bytes) 0 places
      → EachBecomes becomes (shards bytes 0 places) results → becomes bytes (all (shards bytes 0 places) results)
  shards_of bytes places results h b = shards_from bytes 0 places results (j.front bytes) h b
