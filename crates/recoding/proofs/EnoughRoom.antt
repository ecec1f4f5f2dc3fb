-- If the whole output for some bytes fits into the buffer, no call ends full.
use Rattle.std.proofs.Common.{◌≡◌, ℕ, ◌-◌, ◌*◌, ◌<◌, ◌≤◌, List, [], ◌∷◌, ◌++◌, length, take, drop, flat_map, refl, sym, subst, append_assoc, arith, length-append, length-take, take-append-drop}
use Rattle.std.proofs.lemmas.List.{append-nil}
use Rattle.std.proofs.lemmas.Nat.{mul-le}
use Rattle.recoding.specs.declared.form.Form.{Form}
use Rattle.recoding.specs.declared.form.Form.TheVariants.{Utf8}
use Rattle.recoding.proofs.Forms.{by_form, is_units, no_more_parts}
use Rattle.recoding.specs.Recoded.{Recoding, Reads, written, IsRecoded}
use Rattle.recoding.specs.Rooms.{FeedsInto, LastIsTooLong, NextIsTooLong, most_bytes, parts_of, widest}
use Rattle.recoding.specs.Bounds.{LossyIsBounded, RecodedIsShort, FeedsInRoom, RoomIsLeft, FinishesInRoom}
use Rattle.recoding.proofs.BoundLemmas.{recoded_bound}
use Rattle.recoding.proofs.Growing.{recoded_once}
use Rattle.recoding.proofs.RecodedLists.{recoded_is}
use Rattle.recoding.specs.RecodedBytes.{recoded}

pub lossy_is_bounded : LossyIsBounded
lossy_is_bounded bytes out r = recoded_bound Utf8 Utf8 bytes out r

-- the output for bytes that begin with a scalar
record IsLonger (from to : Form) (bytes : List ℕ) (room : ℕ) : Type 0 where
  out : List ℕ
  recoded : IsRecoded from to bytes out
  longer : room < length out

longer_of : (from to : Form) (bytes ss : List ℕ) (s room : ℕ) → Reads from bytes (s ∷ ss) → room < length (written to s) → IsLonger from to bytes room
longer_of from to bytes ss s room reads long = record {
  out = written to s ++ flat_map (written to) ss;
  recoded = (s ∷ ss, reads, refl);
  longer = omega (arith, length-append (written to s) (flat_map (written to) ss));
}

full_is_longer : (s : Recoding) (left : List ℕ) (room : ℕ) → NextIsTooLong s.from s.to left room → IsLonger s.from s.to left room
full_is_longer s left room full =
    let rest = (recoded_once s.from s.to (drop full.len left)).1 in
    let reads : Reads s.from (left ++ []) (full.scalar ∷ rest.0) = full.begins.first [] rest.0 (rw (append-nil (drop full.len left)) rest.1) in
    longer_of s.from s.to left rest.0 full.scalar room (rw (append-nil left) at reads) full.longer

last_is_longer : (s : Recoding) (left : List ℕ) (room : ℕ) → LastIsTooLong s.from s.to left room → IsLonger s.from s.to left room
last_is_longer s left room full =
    let rest = (recoded_once s.from s.to (drop full.len left)).1 in
    longer_of s.from s.to left rest.0 full.scalar room (full.begins.first rest.0 rest.1) full.longer

-- the output for the carried-over bytes, and for those that are not read, follows what was written
after_written : (r s : Recoding) (part old new out later : List ℕ) (read wrote : ℕ) → FeedsInto r part old new read wrote s
    → IsRecoded s.from s.to (s.held ++ later) out → IsRecoded r.from r.to (r.held ++ (take read part ++ later)) (take wrote new ++ out)
after_written r s part old new out later read wrote f h =
    let fed = f.feeds [] in
    let grows = fed.grows in
    let held : IsRecoded r.from r.to (s.held ++ later) out =
    subst (λ x. IsRecoded x r.to (s.held ++ later) out) fed.from (subst (λ x. IsRecoded s.from x (s.held ++ later) out) fed.to h) in
    let whole : IsRecoded r.from r.to ((r.held ++ take read part) ++ later) (grows.grown ++ out) = grows.continues later out held in
    subst (λ xs. IsRecoded r.from r.to xs (take wrote new ++ out)) (append_assoc r.held (take read part) later)
    (subst (λ xs. IsRecoded r.from r.to ((r.held ++ take read part) ++ later) (xs ++ out)) (sym grows.appended) whole)

room_after : (old new out : List ℕ) (wrote : ℕ) → wrote ≤ length old → length new ≡ length old → length (take wrote new ++ out) ≤ length old → length out ≤ length old - wrote
room_after old new out wrote fits same le = omega (arith, length-append (take wrote new) out, length-take wrote new)

pub feeds_in_room : FeedsInRoom
feeds_in_room r s part old new read wrote f same room full =
    let long = full_is_longer s (s.held ++ drop read part) (length old - wrote) full in
    let whole : IsRecoded r.from r.to (r.held ++ part) (take wrote new ++ long.out) =
    subst (λ xs. IsRecoded r.from r.to (r.held ++ xs) (take wrote new ++ long.out)) (take-append-drop read part)
    (after_written r s part old new long.out (drop read part) read wrote f long.recoded) in
    let le = room_after old new long.out wrote f.fits same (room (take wrote new ++ long.out) whole) in
    omega arith

pub room_is_left : RoomIsLeft
room_is_left r s part old new read wrote f same room out h =
    let whole : IsRecoded r.from r.to (r.held ++ take read part) (take wrote new ++ out) =
    subst (λ xs. IsRecoded r.from r.to (r.held ++ xs) (take wrote new ++ out)) (append-nil (take read part))
    (after_written r s part old new out [] read wrote f (rw (append-nil s.held) h)) in
    room_after old new out wrote f.fits same (room (take wrote new ++ out) whole)

pub finishes_in_room : FinishesInRoom
finishes_in_room r s old new wrote f same room full =
    let long = last_is_longer s s.held (length old - wrote) full in
    let held : IsRecoded r.from r.to s.held long.out =
    subst (λ x. IsRecoded x r.to s.held long.out) f.from (subst (λ x. IsRecoded s.from x s.held long.out) f.to long.recoded) in
    let le = room_after old new long.out wrote f.fits same (room (take wrote new ++ long.out) (f.leaves long.out held)) in
    omega arith

-- three bytes for each byte are enough, whatever the encodings
pub three_each : (from to : Form) (n : ℕ) → most_bytes from to n ≤ 3 * n
three_each from to n = mul-le (widest to) (parts_of from n) 3 n (at_most_three to) (no_more_parts from n)
  where
    at_most_three : (to : Form) → widest to ≤ 3
    at_most_three = by_form _ (omega arith) (λ high. rw (is_units high, widest) (omega arith))

pub recoded_is_short : RecodedIsShort
recoded_is_short from to bytes = omega (arith, recoded_bound from to bytes (recoded from to bytes) (recoded_is from to bytes), three_each from to (length bytes))
