-- The lines of some entries, one after another.
use Rattle.std.proofs.Common.{◌≡◌, ℕ, ◌+◌, ◌<◌, Bool, List, [], ◌∷◌, ◌++◌, Option, length, take, drop, get_or, refl, sym, ap, subst, arith, append_assoc, if◌then◌else◌}
use Rattle.std.specs.Prelude.{flat_map, count_by}
use Rattle.std.proofs.lemmas.List.{take-append-drop, take_more}
use Rattle.std.proofs.lemmas.Grind.{common_steps}
use Rattle.std.specs.Io.KnownBytes.{Appends}
use Rattle.std.proofs.KnownBytes.{Appends-nil, Appends-trans}
use Rattle.text_runs.specs.Failures.{AppendsFront}
use Rattle.text_programs.specs.Written.{WritesLines}
use Rattle.text_runs.proofs.Fronts.{AppendsFront-first, AppendsFront-then}

pub flat_map-append : {X : Type 0} (line : X → List ℕ) (xs ys : List X) → flat_map line (xs ++ ys) ≡ flat_map line xs ++ flat_map line ys
flat_map-append line xs ys = grind (arith, common_steps)

count_by-append : {X : Type 0} (wrong : X → Bool) (xs ys : List X) → count_by wrong (xs ++ ys) ≡ count_by wrong xs + count_by wrong ys
count_by-append wrong xs ys = grind (arith, common_steps)

count_by-one : {X : Type 0} (wrong : X → Bool) (x : X) → count_by wrong (x ∷ []) ≡ (if wrong x then 1 else 0)
count_by-one wrong x = grind (arith, common_steps)

-- the line of one entry
pub flat_map-one : {X : Type 0} (line : X → List ℕ) (x : X) → flat_map line (x ∷ []) ≡ line x
flat_map-one line x = grind (arith, common_steps)

-- of the buffered bytes, the first were written and the others are left
pub record Sends (old new : Option (List ℕ)) (held left : List ℕ) : Type 0 where
  pub sent : List ℕ
  pub written : Appends old new sent
  pub rest : held ≡ sent ++ left

-- The lines of these entries, `faults` of which are error lines: known bytes grew by the first lines, and the others
-- are buffered.
pub record HoldsLines {X : Type 0} (line : X → List ℕ) (wrong : X → Bool) (entries : List X) (old new : Option (List ℕ)) (held : List ℕ) (faults : ℕ) : Type 0 where
  pub first : List ℕ
  pub written : Appends old new first
  pub whole : flat_map line entries ≡ first ++ held
  pub counted : faults ≡ count_by wrong entries

-- of no entries, no line is buffered
pub HoldsLines-none : {X : Type 0} (line : X → List ℕ) (wrong : X → Bool) (known : Option (List ℕ)) → HoldsLines line wrong [] known known [] 0
HoldsLines-none line wrong known = record { first = []; written = Appends-nil known; whole = refl; counted = refl }

-- one more line is buffered
pub HoldsLines-push : {X : Type 0} (line : X → List ℕ) (wrong : X → Bool) (xs : List X) (x : X) (old new : Option (List ℕ)) (held : List ℕ) (n : ℕ)
    → HoldsLines line wrong xs old new held n → HoldsLines line wrong (xs ++ x ∷ []) old new (held ++ line x) (n + (if wrong x then 1 else 0))
HoldsLines-push line wrong xs x old new held n h =
    record {
      first = h.first;
      written = h.written;
      whole = rw (flat_map-append line xs (x ∷ []), flat_map-one line x, h.whole, append_assoc) refl;
      counted = rw (count_by-append wrong xs (x ∷ []), ← h.counted) (ap (λ m. n + m) (sym (count_by-one wrong x)));
    }

-- the buffered bytes are written, or a front of them
pub HoldsLines-sent : {X : Type 0} (line : X → List ℕ) (wrong : X → Bool) (xs : List X) (old mid new : Option (List ℕ)) (held left : List ℕ) (n : ℕ)
    → HoldsLines line wrong xs old mid held n → Sends mid new held left → HoldsLines line wrong xs old new left n
HoldsLines-sent line wrong xs old mid new held left n h sends =
    record {
      first = h.first ++ sends.sent;
      written = Appends-trans old mid new h.first sends.sent h.written sends.written;
      whole = rw (h.whole, sends.rest, append_assoc) refl;
      counted = h.counted;
    }

-- the buffered bytes are written, or a front of them, and the line of the next entry is buffered
pub HoldsLines-next : {X : Type 0} {line : X → List ℕ} {wrong : X → Bool} (xs : List X) (i : ℕ) (x : X) {old mid new : Option (List ℕ)} {held left : List ℕ} {n : ℕ}
    → i < length xs → x ≡ get_or xs i x → HoldsLines line wrong (take i xs) old mid held n → Sends mid new held left
    → HoldsLines line wrong (take (i + 1) xs) old new (left ++ line x) (n + (if wrong x then 1 else 0))
HoldsLines-next {line} {wrong} xs i x {old} {mid} {new} {held} {left} {n} lt is h sends =
    rw (take_more xs i x lt, ← is)
    (HoldsLines-push line wrong (take i xs) x old new left n (HoldsLines-sent line wrong (take i xs) old mid new held left n h sends))

-- all buffered bytes are written, so all lines are
pub WritesLines-held : {X : Type 0} (line : X → List ℕ) (wrong : X → Bool) (xs : List X) (old mid new : Option (List ℕ)) (held : List ℕ) (n : ℕ)
    → HoldsLines line wrong xs old mid held n → Appends mid new held → WritesLines line wrong xs old new n
WritesLines-held line wrong xs old mid new held n h written =
    record { written = rw h.whole (Appends-trans old mid new h.first held h.written written); counted = h.counted }

-- the writer failed at the buffered bytes
pub AppendsFront-held : {X : Type 0} (line : X → List ℕ) (wrong : X → Bool) (xs : List X) (old mid new : Option (List ℕ)) (held : List ℕ) (n : ℕ)
    → HoldsLines line wrong xs old mid held n → AppendsFront mid new held → AppendsFront old new (flat_map line xs)
AppendsFront-held line wrong xs old mid new held n h front =
    rw h.whole (AppendsFront-then old mid new h.first held h.written front)

-- a front of the lines of the first entries is one of the lines of all
AppendsFront-taken : {X : Type 0} (line : X → List ℕ) (xs : List X) (i : ℕ) (old new : Option (List ℕ))
    → AppendsFront old new (flat_map line (take i xs)) → AppendsFront old new (flat_map line xs)
AppendsFront-taken line xs i old new h =
    subst (λ ys. AppendsFront old new (flat_map line ys)) (take-append-drop i xs)
    (rw (flat_map-append line (take i xs) (drop i xs)) (AppendsFront-first old new (flat_map line (take i xs)) (flat_map line (drop i xs)) h))

-- a front of the lines of the first entries is one of the lines of all, if these are the first entries
pub AppendsFront-failed : {X : Type 0} {line : X → List ℕ} {wrong : X → Bool} (xs : List X) (i : ℕ) {old mid : Option (List ℕ)} (new : Option (List ℕ)) {held : List ℕ} {n : ℕ}
    → HoldsLines line wrong (take i xs) old mid held n → AppendsFront mid new held → AppendsFront old new (flat_map line xs)
AppendsFront-failed {line} {wrong} xs i {old} {mid} new {held} {n} h front =
    AppendsFront-taken line xs i old new (AppendsFront-held line wrong (take i xs) old mid new held n h front)

-- nothing is sent
pub Sends-none : (known : Option (List ℕ)) (held : List ℕ) → Sends known known held held
Sends-none known held = record { sent = []; written = Appends-nil known; rest = refl }

-- all is sent
pub Sends-all : (old new : Option (List ℕ)) (held left : List ℕ) → Appends old new held → left ≡ [] → Sends old new held left
Sends-all old new held left written none = record { sent = held; written = written; rest = grind (arith, common_steps) }
