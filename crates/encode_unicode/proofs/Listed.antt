-- The lists that some sources give, for callers who have to name one.
use Rattle.std.proofs.Common.{Bool, true, false, cond, map, reverse, length, drop, ◌∷◌, ◌++◌, ◌≡◌, ℕ, ◌≤◌, List, [], Some, None, refl, ap, sym, ◌∙◌, append-nil, arith}
use Rattle.std.proofs.Math.Seq.{drop-append_seam}
use Rattle.std.proofs.lemmas.List.{nil_from_length, drop_all, reverse-append}
use Rattle.std.specs.Array.Iter.{array_into_iter_items, array_steps}
use Rattle.std.specs.Bool.{MatchBool}
use Rattle.std.specs.Borrow.{Bor}
use Rattle.std.specs.Fn.{Called, CalledAt, Mut}
use Rattle.std.specs.Iterator.{Yields, YieldsFirst, YieldsFirstBy, YieldsLast, YieldsLastBy}
use Rattle.std.specs.Iterator.Adapters.{copied_source, copied_steps, map_source, map_callee, map_steps, filter_source, filter_callee, filter_steps, once_item, once_steps, chain_first, chain_second, chain_first_done, chain_second_done, chain_steps, SecondAnswers, rev_source, rev_steps, skip_source, skip_count, skip_steps, fuse_source, fuse_done, fuse_steps}
use Rattle.std.specs.List.{FoldsTo, filter}
use Rattle.std.specs.Option.{MatchOption, option_copied, option_to_list}
use Rattle.std.specs.Prelude.{Option}
use Rattle.std.specs.Slice.Iter.{iter_rest, iter_steps, iter_steps_back}
use Rattle.std.specs.Str.Iter.{bytes_rest, bytes_steps}
use Rattle.std.specs.Vec.Iter.{into_iter_items, into_iter_steps}
use Rattle.std.specs.declared.iter.Chain.{Chain}
use Rattle.std.specs.declared.iter.Copied.{Copied}
use Rattle.std.specs.declared.iter.Rev.{Rev}
use Rattle.std.specs.declared.slice.Iter.{Iter}
use Rattle.encode_unicode.proofs.PieceRuns.{scalars_last, placed_last}
pub use Rattle.encode_unicode.proofs.PieceRuns.{decoder_listed, unit_decoder_listed, scalars_listed, placed_listed}
use Rattle.encode_unicode.specs.Pieces.{chars_left, placed_chars_left}
use Rattle.encode_unicode.specs.Sources.{IsListed, SplitterNext, unsent}
use Rattle.encode_unicode.specs.TextWindow.{BackPlaced, BackScalar}

-- a copied iterator over a slice gives what is left of the slice
abbrev pub copied_rest : {A : Type 0} → Copied (Iter A) → List A
copied_rest s = iter_rest (copied_source s)

at_item : {A : Type 0} (s t : Copied (Iter A)) (o : Option (Bor A)) → iter_steps (copied_source s) o (copied_source t) → YieldsFirst copied_rest s (option_copied o) t
at_item {A} s t None h = let e = nil_from_length (copied_rest s) h.0 in (e, ap (λ (i : Iter A). iter_rest i) h.1 ∙ e)
at_item s t (Some x) h = h

pub copied_listed : {A : Type 0} → IsListed (copied_steps (iter_steps {A = A})) copied_rest
copied_listed s r t h = rw h.2 (at_item s t h.0 h.1)

-- a splitter gives what it has not sent
pub splitter_listed : {S : Type 0} (code : ℕ → List ℕ) (steps : S → Option ℕ → S → Type 0) (rest : S → List ℕ) → IsListed steps rest → IsListed (SplitterNext code steps) (unsent code rest)
splitter_listed code steps rest listed s r t h = h.takes rest listed

-- `map` of a function over a source, if calls leave the closure as it was and `h` gives their result from what the
-- closure has captured. `view` reads an item of the source, as `λ x. x.now` reads a reference.
mapped_listed : {S A B C F : Type 0} (steps : S → Option A → S → Type 0) (view : A → C) (rest : S → List C) (g : Mut F (A × Unit {0}) B) (h : F → C → B)
    → ((s : S) (r : Option A) (t : S) → steps s r t → YieldsFirstBy view rest s r t)
    → ((f : F) (x : A) (y : B) (q : F) → Called g f (x, tt) y q → (q ≡ f) × (y ≡ h f (view x)))
    → IsListed (map_steps steps g) (λ m. map (h (map_callee m)) (rest (map_source m)))
mapped_listed steps view rest g h listed acts m None t k =
    let none = listed (map_source m) None (map_source t) k.0 in
    (ap (map (h (map_callee m))) none.0, ap (map (h (map_callee t))) none.1)
mapped_listed steps view rest g h listed acts m (Some y) t k =
    let first = listed (map_source m) (Some k.0) (map_source t) k.1 in
    let call = acts (map_callee m) k.0 y (map_callee t) k.2 in
    ap (map (h (map_callee m))) first ∙ ap (λ z. z ∷ map (h (map_callee m)) (rest (map_source t))) (sym call.1)
    ∙ ap (λ f. y ∷ map (h f) (rest (map_source t))) (sym call.0)

-- `map` over a source that is listed
pub map_listed : {S A B F : Type 0} (steps : S → Option A → S → Type 0) (rest : S → List A) (g : Mut F (A × Unit {0}) B) (h : F → A → B) → IsListed steps rest
    → ((f : F) (x : A) (y : B) (q : F) → Called g f (x, tt) y q → (q ≡ f) × (y ≡ h f x)) → IsListed (map_steps steps g) (λ m. map (h (map_callee m)) (rest (map_source m)))
map_listed {S} {A} steps rest g h = mapped_listed steps (λ (x : A). x) rest g h

-- `map` over the references to the elements of a slice
pub map_iter_listed : {A B F : Type 0} (g : Mut F (Bor A × Unit {0}) B) (h : F → A → B)
    → ((f : F) (x : Bor A) (y : B) (q : F) → Called g f (x, tt) y q → (q ≡ f) × (y ≡ h f x.now)) → IsListed (map_steps iter_steps g) (λ m. map (h (map_callee m)) (iter_rest (map_source m)))
map_iter_listed {A} g h = mapped_listed iter_steps (λ (x : Bor A). x.now) iter_rest g h at_reference
  where
    at_reference : {A : Type 0} (s : Iter A) (r : Option (Bor A)) (t : Iter A) → iter_steps s r t → YieldsFirstBy (λ (x : Bor A). x.now) iter_rest s r t
    at_reference s None t h = let none = nil_from_length (iter_rest s) h.0 in (none, ap iter_rest h.1 ∙ none)
    at_reference s (Some x) t h = h

-- `filter` over a source that is listed, if `test` gives the closure's result
module _ {S A F : Type 0} (steps : S → Option A → S → Type 0) (rest : S → List A) (g : Mut F (Bor A × Unit {0}) Bool) (test : F → A → Bool) (listed : IsListed steps rest)
    (acts : (f : F) (x : A) (b : Bool) (q : F) → CalledAt g f x b q → (q ≡ f) × (b ≡ test f x)) where
  skipped : (xs : List A) (s j : S) (f q : F) → Yields steps s xs j → FoldsTo (λ p x q. CalledAt g p x false q) f xs q → (q ≡ f) × (filter (test f) (rest s) ≡ filter (test f) (rest j))
  skipped [] s j f q y k = (sym k, ap (λ u. filter (test f) (rest u)) y)
  skipped (x ∷ xs) s j f q y k =
      let call = acts f x false k.0 k.1 in
      let more = skipped xs y.0 j f q y.2 (rw call.0 at k.2) in
      (more.0, ap (filter (test f)) (listed s (Some x) y.0 y.1) ∙ ap (λ b. cond b (x ∷ filter (test f) (rest y.0)) (filter (test f) (rest y.0))) (sym call.1) ∙ more.1)

  pub filter_listed : IsListed (filter_steps steps g) (λ m. filter (test (filter_callee m)) (rest (filter_source m)))
  filter_listed m None t k =
      let passed = skipped k.0 (filter_source m) k.2.0 (filter_callee m) k.1 k.2.1 k.3 in
      let none = listed k.2.0 None (filter_source t) k.2.2 in
      (passed.1 ∙ ap (filter (test (filter_callee m))) none.0, ap (filter (test (filter_callee t))) none.1)
  filter_listed m (Some x) t k =
      let passed = skipped k.0 (filter_source m) k.2.0 (filter_callee m) k.1 k.2.1 k.3 in
      let call = acts k.1 x true (filter_callee t) k.4 in
      let same : filter_callee t ≡ filter_callee m = call.0 ∙ passed.0 in
      let yes : true ≡ test (filter_callee m) x = call.1 ∙ ap (λ f. test f x) passed.0 in
      passed.1 ∙ ap (filter (test (filter_callee m))) (listed k.2.0 (Some x) (filter_source t) k.2.2)
      ∙ ap (λ b. cond b (x ∷ filter (test (filter_callee m)) (rest (filter_source t))) (filter (test (filter_callee m)) (rest (filter_source t)))) (sym yes)
      ∙ ap (λ f. x ∷ filter (test f) (rest (filter_source t))) (sym same)

-- one item
pub once_listed : {A : Type 0} → IsListed (once_steps {A = A}) (λ s. option_to_list (once_item s))
once_listed s None t h = (ap option_to_list (sym h.0), ap option_to_list h.1)
once_listed s (Some x) t h = ap option_to_list (sym h.0) ∙ ap (λ o. x ∷ option_to_list o) (sym h.1)

-- the elements of an array by value
pub array_listed : {A : Type 0} {n : ℕ} → IsListed (array_steps {A = A} {n = n}) array_into_iter_items
array_listed s None t h = let none = nil_from_length (array_into_iter_items s) h.0 in (none, ap array_into_iter_items h.1 ∙ none)
array_listed s (Some x) t h = h

-- the remaining items of the two sides of a chain: none if a side has ended
abbrev first_left : {S T A : Type 0} → (S → List A) → Chain S T → List A
first_left first c = cond (chain_first_done c) [] (first (chain_first c))

abbrev second_left : {S T A : Type 0} → (T → List A) → Chain S T → List A
second_left second c = cond (chain_second_done c) [] (second (chain_second c))

-- a chain gives what its first side still gives, and then what its second side does
abbrev pub chain_rest : {S T A : Type 0} → (S → List A) → (T → List A) → Chain S T → List A
chain_rest first second c = first_left first c ++ second_left second c

module _ {S T A : Type 0} (steps : S → Option A → S → Type 0) (others : T → Option A → T → Type 0) (first : S → List A) (second : T → List A)
    (first_listed : IsListed steps first) (second_listed : IsListed others second) where
  second_gives : (done : Bool) (s t : Chain S T) (r : Option A) → chain_second_done s ≡ done → chain_second_done t ≡ done
      → MatchBool done (r ≡ None) (others (chain_second s) r (chain_second t)) → YieldsFirst (second_left second) s r t
  second_gives true s t None e f h = rw (e, f) (refl, refl)
  second_gives true s t (Some x) e f h = absurd (cc h)
  second_gives false s t None e f h = rw (e, f) (second_listed (chain_second s) None (chain_second t) h)
  second_gives false s t (Some x) e f h = rw (e, f) (second_listed (chain_second s) (Some x) (chain_second t) h)

  -- a chain whose first side gives nothing
  only_second : (s t : Chain S T) (r : Option A) → first_left first s ≡ [] → first_left first t ≡ [] → YieldsFirst (second_left second) s r t → YieldsFirst (chain_rest first second) s r t
  only_second s t None a b h = rw (a, b) h
  only_second s t (Some x) a b h = rw (a, b) h

  ended : (s t : Chain S T) (r : Option A) → first_left first s ≡ [] → chain_second_done t ≡ chain_second_done s → SecondAnswers steps others s r t → YieldsFirst (chain_rest first second) s r t
  ended s t r none same h = only_second s t r none (ap (λ b. cond b [] (first (chain_first t))) h.1) (second_gives (chain_second_done s) s t r refl same h.0)

  asked : (done : Bool) (s t : Chain S T) (r : Option A) → chain_first_done s ≡ done → chain_second_done t ≡ chain_second_done s
      → MatchBool done (SecondAnswers steps others s r t)
      ((o : Option A) × steps (chain_first s) o (chain_first t) × MatchOption o (SecondAnswers steps others s r t) (λ x. (r ≡ Some x) × (chain_second t ≡ chain_second s) × (chain_first_done t ≡ false)))
      → YieldsFirst (chain_rest first second) s r t
  asked true s t r e same h = ended s t r (ap (λ b. cond b [] (first (chain_first s))) e) same h
  asked false s t r e same h = at_answer h.0 h.1 h.2
    where
      at_answer : (o : Option A) → steps (chain_first s) o (chain_first t) → MatchOption o (SecondAnswers steps others s r t) (λ x. (r ≡ Some x) × (chain_second t ≡ chain_second s) × (chain_first_done t ≡ false))
          → YieldsFirst (chain_rest first second) s r t
      at_answer None step h = ended s t r (rw e (first_listed (chain_first s) None (chain_first t) step).0) same h
      at_answer (Some x) step h = rw (h.0, e, h.2, same, h.1) (ap (λ xs. xs ++ second_left second s) (first_listed (chain_first s) (Some x) (chain_first t) step))

  -- `chain` of two listed sources
  pub chain_listed : IsListed (chain_steps steps others) (chain_rest first second)
  chain_listed s r t h = asked (chain_first_done s) s t r refl h.0 h.1

-- `rev` of a source whose other end is listed: `back` describes its `next_back`
pub rev_listed : {S A : Type 0} (back : S → Option A → S → Type 0) (rest : S → List A) → ((s : S) (r : Option A) (t : S) → back s r t → YieldsLast rest s r t)
    → IsListed (rev_steps back) (λ s. reverse (rest (rev_source s)))
rev_listed back rest listed s None t h = let none = listed (rev_source s) None (rev_source t) h in (ap reverse none.0, ap reverse none.1)
rev_listed back rest listed s (Some x) t h = ap reverse (listed (rev_source s) (Some x) (rev_source t) h) ∙ reverse-append (rest (rev_source t)) (x ∷ [])

-- `copied` over any source of references
copied_over : {S A : Type 0} (steps : S → Option (Bor A) → S → Type 0) (rest : S → List A) → ((s : S) (r : Option (Bor A)) (t : S) → steps s r t → YieldsFirstBy (λ x. x.now) rest s r t)
    → IsListed (copied_steps steps) (λ s. rest (copied_source s))
copied_over {S} {A} steps rest listed s r t h = rw h.2 (at_item h.0 (listed (copied_source s) h.0 (copied_source t) h.1))
  where
    at_item : (o : Option (Bor A)) → YieldsFirstBy (λ x. x.now) rest (copied_source s) o (copied_source t) → YieldsFirst (λ c. rest (copied_source c)) s (option_copied o) t
    at_item None k = k
    at_item (Some x) k = k

slice_back : {A : Type 0} (s : Iter A) (r : Option (Bor A)) (t : Iter A) → iter_steps_back s r t → YieldsLastBy (λ x. x.now) iter_rest s r t
slice_back s None t h = let none = nil_from_length (iter_rest s) h.0 in (none, ap iter_rest h.1 ∙ none)
slice_back s (Some x) t h = h

-- `bytes.iter().rev().copied()`
pub rev_copied_listed : {A : Type 0} → IsListed (copied_steps (rev_steps (iter_steps_back {A = A}))) (λ s. reverse (iter_rest (rev_source (copied_source s))))
rev_copied_listed {A} = copied_over (rev_steps iter_steps_back) (λ s. reverse (iter_rest (rev_source s))) from_back
  where
    from_back : (s : Rev (Iter A)) (r : Option (Bor A)) (t : Rev (Iter A)) → rev_steps iter_steps_back s r t → YieldsFirstBy (λ x. x.now) (λ u. reverse (iter_rest (rev_source u))) s r t
    from_back s None t h = let none = slice_back (rev_source s) None (rev_source t) h in (ap reverse none.0, ap reverse none.1)
    from_back s (Some x) t h = ap reverse (slice_back (rev_source s) (Some x) (rev_source t) h) ∙ reverse-append (iter_rest (rev_source t)) (x.now ∷ [])

-- `bytes.iter().copied().rev()`
pub copied_rev_listed : {A : Type 0} → IsListed (rev_steps (copied_steps (iter_steps_back {A = A}))) (λ s. reverse (iter_rest (copied_source (rev_source s))))
copied_rev_listed {A} = rev_listed (copied_steps iter_steps_back) (λ s. iter_rest (copied_source s)) (λ s r t h. rw h.2 (at_item s t h.0 (slice_back (copied_source s) h.0 (copied_source t) h.1)))
  where
    at_item : (s t : Copied (Iter A)) (o : Option (Bor A)) → YieldsLastBy (λ x. x.now) iter_rest (copied_source s) o (copied_source t) → YieldsLast (λ c. iter_rest (copied_source c)) s (option_copied o) t
    at_item s t None k = k
    at_item s t (Some x) k = k

-- the characters of a text from the end, and with their offsets
pub scalars_rev_listed : IsListed (rev_steps BackScalar) (λ s. reverse (chars_left (rev_source s)))
scalars_rev_listed = rev_listed BackScalar chars_left scalars_last

pub placed_rev_listed : IsListed (rev_steps BackPlaced) (λ s. reverse (placed_chars_left (rev_source s)))
placed_rev_listed = rev_listed BackPlaced placed_chars_left placed_last

-- `skip(n)`
module _ {S A : Type 0} (steps : S → Option A → S → Type 0) (rest : S → List A) (listed : IsListed steps rest) where
  passed : (xs : List A) (s t : S) → Yields steps s xs t → rest s ≡ xs ++ rest t
  passed [] s t y = ap rest y
  passed (x ∷ xs) s t y = listed s (Some x) y.0 y.1 ∙ ap (λ ys. x ∷ ys) (passed xs y.0 t y.2)

  pub skip_listed : IsListed (skip_steps steps) (λ s. drop (skip_count s) (rest (skip_source s)))
  skip_listed s None t h =
      let xs = h.1.0 in
      let then = h.1.1 in
      let none = listed then.0 None (skip_source t) then.2 in
      let all : rest (skip_source s) ≡ xs = passed xs (skip_source s) then.0 then.1 ∙ ap (λ ys. xs ++ ys) none.0 ∙ append-nil xs in
      let few = h.1.2 in
      let short : length (rest (skip_source s)) ≤ skip_count s = rw all few in
      (drop_all (skip_count s) (rest (skip_source s)) short, ap (drop (skip_count t)) none.1 ∙ drop_all (skip_count t) [] (omega arith))
  skip_listed s (Some x) t h =
      let xs = h.1.0 in
      let then = h.1.1 in
      let first = listed then.0 (Some x) (skip_source t) then.2 in
      let all : rest (skip_source s) ≡ xs ++ x ∷ rest (skip_source t) = passed xs (skip_source s) then.0 then.1 ∙ ap (λ ys. xs ++ ys) first in
      let len = h.1.2 in
      rw (all, h.0, ← len) (drop-append_seam xs (x ∷ rest (skip_source t)))

-- `fuse`
pub fuse_listed : {S A : Type 0} (steps : S → Option A → S → Type 0) (rest : S → List A) → IsListed steps rest → IsListed (fuse_steps steps) (λ s. cond (fuse_done s) [] (rest (fuse_source s)))
fuse_listed {S} {A} steps rest listed s r t h = by_flag (fuse_done s) refl r h.0 h.1
  where
    by_flag : (b : Bool) → fuse_done s ≡ b → (r : Option A) → MatchBool b (r ≡ None) (steps (fuse_source s) r (fuse_source t)) → MatchOption r (fuse_done t ≡ true) (λ _. fuse_done t ≡ false)
        → YieldsFirst (λ s. cond (fuse_done s) [] (rest (fuse_source s))) s r t
    by_flag true e None h k = rw (e, k) (refl, refl)
    by_flag true e (Some x) h k = absurd (cc h)
    by_flag false e None h k = rw (e, k) ((listed (fuse_source s) None (fuse_source t) h).0, refl)
    by_flag false e (Some x) h k = rw (e, k) (listed (fuse_source s) (Some x) (fuse_source t) h)

-- the elements of a vector by value
pub vector_listed : {A Z : Type 0} → IsListed (into_iter_steps {X = A} {Z = Z}) into_iter_items
vector_listed s None t h = (nil_from_length (into_iter_items s) (sym (s.rest.ok.0) ∙ h.0), nil_from_length (into_iter_items t) (sym (t.rest.ok.0) ∙ h.1))
vector_listed s (Some x) t h = h.0

-- the bytes of a text
pub bytes_listed : IsListed bytes_steps bytes_rest
bytes_listed s None t h = let none = nil_from_length (bytes_rest s) h.0 in (none, ap bytes_rest h.1 ∙ none)
bytes_listed s (Some x) t h = h
