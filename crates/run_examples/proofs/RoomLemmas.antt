-- Bytes that are transcoded into a buffer that is large enough.
use Rattle.std.proofs.Common.{◌≡◌, ℕ, ◌+◌, ◌-◌, ◌≤◌, Bool, true, false, List, [], ◌++◌, length, take, refl, ap, sym, subst, ◌∙◌, arith, length-take}
use Rattle.std.proofs.lemmas.List.{take_all, take-append-le}
use Rattle.std.proofs.Math.Seq.{take-append-add}
use Rattle.std.specs.Prelude.{IsTrue, IsFalse}
use Rattle.cuts.specs.declared.Form.{Form}
use Rattle.cuts.specs.Bounds.{FeedsInRoom, RoomIsLeft, FinishesInRoom, HasRoom}
use Rattle.cuts.specs.Recoded.{Recoding, Feeds, Finishes, IsRecoded, fresh}
use Rattle.cuts.specs.Rooms.{FeedsInto, FinishesInto, IsFull, IsLastFull}
use Rattle.cuts.proofs.FedParts.{fed_is_recoded}

-- a statement that follows if a test is false, and is refuted if it is true
where_not : {P Q : Type 0} (b : Bool) → (IsTrue b → P) → (P → ⊥) → (IsFalse b → Q) → Q
where_not true full never rest = absurd (never (full refl))
where_not false full never rest = rest refl

joined_fronts : (xs ys post : List ℕ) (n m : ℕ) → n ≤ length xs → m ≤ length ys → take (n + m) (take n xs ++ (ys ++ post)) ≡ take n xs ++ take m ys
joined_fronts xs ys post n m a b =
    let len : length (take n xs) ≡ n = omega (arith, length-take n xs) in
    ap (λ k. take (k + m) (take n xs ++ (ys ++ post))) (sym len) ∙ take-append-add (take n xs) (ys ++ post) m ∙ ap (λ zs. take n xs ++ zs) (take-append-le m ys post b)

-- one part into the buffer, and then the end into the rest of it
pub in_room : FeedsInRoom → RoomIsLeft → FinishesInRoom → {from to : Form} {r s t : Recoding} {bytes old mid old2 new2 : List ℕ} (post : List ℕ) {read wrote more : ℕ} (full last : Bool)
    → r ≡ fresh from to → FeedsInto r bytes old mid read wrote s → (IsTrue full → IsFull s bytes read (length old - wrote))
    → (IsFalse full → read ≡ length bytes) → FinishesInto s old2 new2 more t → (IsTrue last → IsLastFull t (length old2 - more))
    → (IsFalse last → (out : List ℕ) → Finishes s out (out ++ take more new2)) → length mid ≡ length old → length old2 ≡ length old - wrote → length new2 ≡ length old2
    → HasRoom from to bytes (length old) → IsRecoded from to bytes (take (wrote + more) (take wrote mid ++ (new2 ++ post)))
in_room feeds left ends {from} {to} {r} {s} {t} {bytes} {old} {mid} {old2} {new2} post {read} {wrote} {more} full last e f is_full all g is_last done same_mid len2 same2 room =
    let room_before : HasRoom r.from r.to (r.held ++ bytes) (length old) = subst (λ (x : Recoding). HasRoom x.from x.to (x.held ++ bytes) (length old)) (sym e) room in
    let read_all : read ≡ length bytes = where_not full is_full (feeds r s bytes old mid read wrote f same_mid room_before) all in
    let taken : take read bytes ≡ bytes = take_all read bytes (omega arith) in
    let room_after : HasRoom s.from s.to s.held (length old2)
    = subst (λ n. HasRoom s.from s.to s.held n) (sym len2) (left r s bytes old mid read wrote f same_mid (subst (λ xs. HasRoom r.from r.to (r.held ++ xs) (length old)) (sym taken) room_before)) in
    let finished : Finishes s (take wrote mid) (take wrote mid ++ take more new2) = where_not last is_last (ends s t old2 new2 more g same2 room_after) done (take wrote mid) in
    let fed : Feeds (fresh from to) bytes [] (take wrote mid) s
    = subst (λ (x : Recoding). Feeds x bytes [] (take wrote mid) s) e (subst (λ xs. Feeds r xs [] (take wrote mid) s) taken (f.feeds [])) in
    let fits = f.fits in
    subst (IsRecoded from to bytes) (sym (joined_fronts mid new2 post wrote more (omega arith) (omega arith)))
    (fed_is_recoded from to bytes bytes (take wrote mid) (take wrote mid ++ take more new2) s (record { once = fed }) finished refl)
