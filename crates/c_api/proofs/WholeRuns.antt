-- Transcoding of a whole input in one call, and in parts that are only counted.
use Rattle.std.proofs.Common.{◌≡◌, ℕ, ◌+◌, ◌-◌, ◌<◌, ◌≤◌, ◌^◌, ⊎_elim, List, [], ◌++◌, length, take, drop, min, refl, ap, sym, subst, ◌∙◌, append_assoc, arith, length-append, length-take, length-drop, take-append-drop}
use Rattle.std.proofs.lemmas.Bool.{cases_lt}
use Rattle.std.proofs.lemmas.List.{append-nil, take_all, drop-drop}
use Rattle.std.proofs.lemmas.Slice.{take-put_mid, drop-put_mid}
use Rattle.std.proofs.Math.ListN.{drop_of_length-le}
use Rattle.std.proofs.Math.Seq.{take-append-add, drop-append-add}
use borrow.Rule.Slice.PartMut.{put_mid}
use Rattle.std.specs.Prelude.{slice_range}
use Rattle.cuts.specs.declared.Form.{Form}
use Rattle.cuts.specs.Recoded.{Recoding, IsRecoded, Finishes, fresh}
use Rattle.cuts.specs.Rooms.{FeedsInto, FinishesInto, IsAmple, IsAmpleFor, IsFull, IsLastFull}
use Rattle.cuts.specs.Bounds.{HasRoom}
use Rattle.cuts.specs.Fed.{IsFed}
use Rattle.c_api.specs.declared.recodings.NodyRecoder.{NodyRecoder}
use Rattle.c_api.specs.Whole.{IsLongerThan, IsFrontOfRecoded, IsRecodedLen}
use Rattle.recoding.proofs.BoundLemmas.{recoded_bound}
use Rattle.recoding.proofs.Earliest.{read_are_scalars}
use Rattle.recoding.proofs.EnoughRoom.{feeds_in_room, finishes_in_room, room_is_left, three_each}
use Rattle.recoding.proofs.FedParts.{nothing_is_fed, part_is_fed, fed_is_recoded}
use Rattle.recoding.proofs.Growing.{recoded_once}

-- capacity for one output is capacity for all, since there is no other
room_for_one : (from to : Form) (bytes out : List ℕ) (room : ℕ) → IsRecoded from to bytes out → length out ≤ room → HasRoom from to bytes room
room_for_one from to bytes out room r le other h =
    let once = recoded_once from to bytes in
    let same : other ≡ out = once.2 other h ∙ sym (once.2 out r) in
    rw same le

longer_where_no_room : (from to : Form) (bytes : List ℕ) (room : ℕ) → (HasRoom from to bytes room → ⊥) → IsLongerThan from to bytes room
longer_where_no_room from to bytes room none out r =
    ⊎_elim (λ (lt : room < length out). lt) (λ (le : length out ≤ room). absurd (none (room_for_one from to bytes out room r le))) (cases_lt room (length out))

-- An output that was full before all was read.
module _ (from to : Form) (s : Recoding) (bytes old new : List ℕ) (read wrote : ℕ) (f : FeedsInto (fresh from to) bytes old new read wrote s) where
  pub longer_where_full : length new ≡ length old → IsFull s bytes read (length old - wrote) → IsLongerThan from to bytes (length old)
  longer_where_full same full = longer_where_no_room from to bytes (length old) (λ room. feeds_in_room (fresh from to) s bytes old new read wrote f same room full)

  pub fed_front : IsFrontOfRecoded from to bytes (take wrote new)
  fed_front out r =
      let once = f.feeds [] in
      let tail = recoded_once from to (s.held ++ drop read bytes) in
      let all : IsRecoded from to (take read bytes ++ drop read bytes) (once.grows.grown ++ tail.0) = once.grows.continues (drop read bytes) tail.0 tail.1 in
      let here : IsRecoded from to bytes (once.grows.grown ++ tail.0) = subst (λ xs. IsRecoded from to xs (once.grows.grown ++ tail.0)) (take-append-drop read bytes) all in
      let only = recoded_once from to bytes in
      let same : out ≡ once.grows.grown ++ tail.0 = only.2 out r ∙ sym (only.2 _ here) in (
        tail.1.0,
        read_are_scalars from (s.held ++ drop read bytes) tail.1.0 tail.1.1,
        same ∙ ap (λ xs. xs ++ tail.0) (sym once.grows.appended) ∙ ap (λ xs. take wrote new ++ xs) tail.1.2,
      )

  -- An output that was not full before all was read.
  module _ (t : Recoding) (rest after : List ℕ) (last : ℕ) (all : read ≡ length bytes) (g : FinishesInto s rest after last t) where
    fed_all : IsFed from to bytes (take wrote new) s
    fed_all = let whole : take read bytes ≡ bytes = take_all read bytes (omega arith) in record { once = rw whole at (f.feeds []) }

    pub longer_where_last_full : length new ≡ length old → length rest ≡ length old - wrote → length after ≡ length rest → IsLastFull t (length rest - last)
        → IsLongerThan from to bytes (length old)
    longer_where_last_full same left kept full =
        longer_where_no_room from to bytes (length old)
        (λ (room : HasRoom from to bytes (length old)).
        let whole : take read bytes ≡ bytes = take_all read bytes (omega arith) in
        let some : HasRoom from to (take read bytes) (length old) = subst (λ xs. HasRoom from to xs (length old)) (sym whole) room in
        let held : HasRoom s.from s.to s.held (length old - wrote) = room_is_left (fresh from to) s bytes old new read wrote f same some in
        finishes_in_room s t rest after last g kept (subst (HasRoom s.from s.to s.held) (sym left) held) full)

    pub recoded_whole : ((out : List ℕ) → Finishes s out (out ++ take last after)) → IsRecoded from to bytes (take wrote new ++ take last after)
    recoded_whole done = fed_is_recoded from to bytes bytes (take wrote new) (take wrote new ++ take last after) s fed_all (done (take wrote new)) refl

    pub last_front : IsFrontOfRecoded from to bytes (take wrote new ++ take last after)
    last_front out r =
        let once = fed_all.once in
        let tail = recoded_once from to t.held in
        let held : IsRecoded from to s.held (take last after ++ tail.0) =
        subst (λ x. IsRecoded x to s.held (take last after ++ tail.0)) once.from
        (subst (λ x. IsRecoded s.from x s.held (take last after ++ tail.0)) once.to
        (g.leaves tail.0 (subst (λ x. IsRecoded x s.to t.held tail.0) (sym once.from) (subst (λ x. IsRecoded from x t.held tail.0) (sym once.to) tail.1)))) in
        let all : IsRecoded from to (bytes ++ []) (once.grows.grown ++ (take last after ++ tail.0)) = once.grows.continues [] (take last after ++ tail.0) (rw (append-nil s.held) held) in
        let here : IsRecoded from to bytes (once.grows.grown ++ (take last after ++ tail.0)) = rw (append-nil bytes) at all in
        let only = recoded_once from to bytes in
        let same : out ≡ once.grows.grown ++ (take last after ++ tail.0) = only.2 out r ∙ sym (only.2 _ here) in
        let joined : out ≡ (take wrote new ++ take last after) ++ tail.0 =
        same ∙ ap (λ xs. xs ++ (take last after ++ tail.0)) (sym once.grows.appended) ∙ sym (append_assoc (take wrote new) (take last after) tail.0) in
        (tail.1.0, read_are_scalars from t.held tail.1.0 tail.1.1, joined ∙ ap (λ xs. (take wrote new ++ take last after) ++ xs) tail.1.2)

-- Bytes that are fed in parts, of which only the length of the output is kept.

pub record CountsTo (from to : Form) (bytes : List ℕ) (place count : ℕ) (r : Recoding) : Type 0 where
  pub within : place ≤ length bytes
  pub out : List ℕ
  pub fed : IsFed from to (take place bytes) out r
  pub counted : count ≡ min (length out) (2 ^ 64 - 1)

pub counts_none : (from to : Form) (bytes : List ℕ) → CountsTo from to bytes 0 0 (fresh from to)
counts_none from to bytes = record { within = omega arith; out = []; fed = nothing_is_fed from to; counted = refl }

room_for_few : (from to : Form) (bytes : List ℕ) (room : ℕ) → IsAmple room (length bytes) → HasRoom from to bytes room
room_for_few from to bytes room le out r =
    let bound = recoded_bound from to bytes out r in
    let few = three_each from to (length bytes) in
    omega arith

-- ample capacity for what is carried over and fed is never exhausted
pub part_has_room : (r s : Recoding) (part room new : List ℕ) (read wrote : ℕ) → FeedsInto r part room new read wrote s → length new ≡ length room
    → IsAmpleFor (length room) r part → IsFull s part read (length room - wrote) → ⊥
part_has_room r s part room new read wrote f same le full =
    feeds_in_room r s part room new read wrote f same (room_for_few r.from r.to (r.held ++ part) (length room) (omega (arith, length-append r.held part))) full

pub end_has_room : (r s : Recoding) (room new : List ℕ) (wrote : ℕ) → FinishesInto r room new wrote s → length new ≡ length room
    → IsAmple (length room) (length r.held) → IsLastFull s (length room - wrote) → ⊥
end_has_room r s room new wrote f same le full = finishes_in_room r s room new wrote f same (room_for_few r.from r.to r.held (length room) le) full

pub none_held : (r : NodyRecoder) → r.count ≡ 0 → take r.count r.held ≡ []
none_held r e = ap (λ n. take n r.held) e

-- a status that is below two and not one
pub is_zero : (n : ℕ) → n < 2 → (n ≡ 1 → ⊥) → n ≡ 0
is_zero n lt not = ⊎_elim (λ (z : n < 1). omega arith) (λ (one : 1 ≤ n). absurd (not (omega arith))) (cases_lt n 1)

min_more : (a b c m : ℕ) → c ≡ min a m → min (c + b) m ≡ min (a + b) m
min_more a b c m e = omega arith

module _ (from to : Form) (bytes : List ℕ) (place count : ℕ) (r : Recoding) (so_far : CountsTo from to bytes place count r) where
  pub counts_more : (s : Recoding) (part room new : List ℕ) (end read wrote sum : ℕ) → end ≤ length bytes → take end bytes ≡ take place bytes ++ part
      → FeedsInto r part room new read wrote s → length new ≡ length room → read ≡ length part → sum ≡ min (count + wrote) (2 ^ 64 - 1)
      → CountsTo from to bytes end sum s
  counts_more s part room new end read wrote sum le more f same all e =
      let whole : take read part ≡ part = take_all read part (omega arith) in
      let fits = f.fits in
      record {
        within = le;
        out = so_far.out ++ take wrote new;
        fed = part_is_fed from to (take place bytes) part (take end bytes) so_far.out (so_far.out ++ take wrote new) r s so_far.fed (rw whole at (f.feeds so_far.out)) more;
        counted = e ∙ min_more (length so_far.out) wrote count (2 ^ 64 - 1) so_far.counted ∙ ap (λ n. min n (2 ^ 64 - 1)) (omega (arith, length-append so_far.out (take wrote new), length-take wrote new));
      }

  pub counts_all : (room new : List ℕ) (wrote sum : ℕ) → length bytes ≤ place → ((out : List ℕ) → Finishes r out (out ++ take wrote new))
      → length new ≡ length room → wrote ≤ length room → sum ≡ min (count + wrote) (2 ^ 64 - 1) → IsRecodedLen from to bytes sum
  counts_all room new wrote sum le done same fits e out h =
      let whole : take place bytes ≡ bytes = take_all place bytes (omega arith) in
      let all : IsRecoded from to bytes (so_far.out ++ take wrote new) = fed_is_recoded from to (take place bytes) bytes so_far.out (so_far.out ++ take wrote new) r so_far.fed (done so_far.out) (sym whole) in
      let once = recoded_once from to bytes in
      let is : out ≡ so_far.out ++ take wrote new = once.2 out h ∙ sym (once.2 _ all) in
      e ∙ min_more (length so_far.out) wrote count (2 ^ 64 - 1) so_far.counted ∙ ap (λ n. min n (2 ^ 64 - 1)) (omega (arith, ap length is, length-append so_far.out (take wrote new), length-take wrote new))

-- Lists that were written and read by parts.

take_more : {X : Type 0} (p q : List X) (n k : ℕ) → length p ≡ n → take (n + k) (p ++ q) ≡ p ++ take k q
take_more p q n k e = ap (λ j. take (j + k) (p ++ q)) (sym e) ∙ take-append-add p q k

drop_more : {X : Type 0} (p q : List X) (n k : ℕ) → length p ≡ n → drop (n + k) (p ++ q) ≡ drop k q
drop_more p q n k e = ap (λ j. drop (j + k) (p ++ q)) (sym e) ∙ drop-append-add p q k

-- the front of the bytes, and a part that follows it
pub longer_front : (bytes : List ℕ) (place end : ℕ) → place ≤ end → end ≤ length bytes → take end bytes ≡ take place bytes ++ slice_range bytes place end
longer_front bytes place end le within =
    let len : length (take place bytes) ≡ place = length-take place bytes ∙ omega arith in
    let sum : end ≡ place + (end - place) = omega arith in
    ap (λ n. take n bytes) sum ∙ ap (take (place + (end - place))) (sym (take-append-drop place bytes)) ∙ take_more (take place bytes) (drop place bytes) place (end - place) len

pub length_part : (bytes : List ℕ) (place end : ℕ) → end ≤ length bytes → length (slice_range bytes place end) ≡ end - place
length_part bytes place end le = omega (arith, length-take (end - place) (drop place bytes), length-drop place bytes)

-- the output after its rest, from an offset on, was written
module _ {X : Type 0} (room rest : List X) (place wrote : ℕ) (le : place ≤ length room) (same : length rest ≡ length room - place) where
  put_rest : put_mid place (length room - place) room rest ≡ take place room ++ rest
  put_rest =
      let put = put_mid place (length room - place) room rest in
      let front = take-put_mid place (length room - place) room rest (length room) (omega arith) le in
      let following = drop-put_mid place (length room - place) room rest (length room) (omega arith) le same ∙ drop_of_length-le room (omega arith) in
      sym (take-append-drop (length room) put) ∙ ap (λ z. z ++ drop (length room) put) front ∙ ap (λ z. (take place room ++ rest) ++ z) following ∙ append-nil (take place room ++ rest)

  front_len : length (take place room) ≡ place
  front_len = length-take place room ∙ omega arith

  pub length_both : length (put_mid place (length room - place) room rest) ≡ length room
  length_both = omega (arith, ap length put_rest, length-append (take place room) rest, front_len)

  pub written_both : take (place + wrote) (put_mid place (length room - place) room rest) ≡ take place room ++ take wrote rest
  written_both = ap (take (place + wrote)) put_rest ∙ take_more (take place room) rest place wrote front_len

  pub kept_both : (old : List X) → drop wrote rest ≡ drop wrote (drop place room) → drop place room ≡ drop place old
      → drop (place + wrote) (put_mid place (length room - place) room rest) ≡ drop (place + wrote) old
  kept_both old last first =
      ap (drop (place + wrote)) put_rest ∙ drop_more (take place room) rest place wrote front_len ∙ last ∙ ap (drop wrote) first ∙ drop-drop wrote place old
