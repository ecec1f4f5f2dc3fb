-- Bytes put into a slice, one after another.
use Rattle.std.specs.Prelude.{◌≡◌, ℕ, ◌+◌, ◌-◌, ◌≤◌, List, [], ◌++◌, length, take, refl}
use Rattle.std.proofs.Common.{◌∙◌, ap, sym, arith, append_assoc, length-append}
use Rattle.std.proofs.lemmas.List.{append-nil}
use Rattle.recoding.specs.declared.room.Room.{Room}

-- The bytes of a slice after the written ones became these, and those before them are unchanged. What follows
-- may be anything.
pub record FillsRoom (old : Room) (bytes : List ℕ) (new : Room) : Type 0 where
  pub reference : new.bytes.ghost_name ≡ old.bytes.ghost_name
  pub whole : length new.bytes.now ≡ length old.bytes.now
  pub len : new.len ≡ old.len + length bytes
  pub front : take new.len new.bytes.now ≡ take old.len old.bytes.now ++ bytes

pub FillsRoom-none : (a : Room) → FillsRoom a [] a
FillsRoom-none a = record { reference = refl; whole = refl; len = omega arith; front = sym (append-nil _) }

pub FillsRoom-more : (a b c : Room) (xs ys : List ℕ) → FillsRoom a xs b → FillsRoom b ys c → FillsRoom a (xs ++ ys) c
FillsRoom-more a b c xs ys f g =
    record {
      reference = g.reference ∙ f.reference;
      whole = g.whole ∙ f.whole;
      len = omega (arith, f.len, g.len, length-append xs ys);
      front = g.front ∙ ap (λ zs. zs ++ ys) f.front ∙ append_assoc (take a.len a.bytes.now) xs ys;
    }

pub FillsRoom-room : (a b : Room) (xs : List ℕ) → FillsRoom a xs b → length a.bytes.now - a.len ≤ length b.bytes.now - b.len + length xs
FillsRoom-room a b xs f = omega (arith, f.whole, f.len)
