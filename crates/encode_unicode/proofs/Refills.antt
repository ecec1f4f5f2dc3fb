-- A buffer that is filled from a list, part by part.
use Rattle.std.proofs.Common.{◌≡◌, ℕ, ◌+◌, ◌-◌, ◌<◌, ◌≤◌, List, [], ◌++◌, length, take, drop, min, ap, sym, ◌∙◌, arith, length-append, append_assoc}
use Rattle.std.proofs.lemmas.List.{take_at, drop_at, take-append-drop, length-take, length-drop, take_rest, append-nil, drop-drop}
use Rattle.std.proofs.lemmas.Slice.{take-put_mid, drop-put_mid}
use Rattle.std.proofs.Math.ListN.{drop_of_length-le}
use Rattle.std.proofs.Math.Seq.{take-append-add, drop-append-add}
use borrow.Rule.Slice.PartMut.{put_mid}
use Rattle.utf_chars.specs.Taking.{fitting, filled}
use Rattle.utf_chars.proofs.Ranges.{drop_fitting}

-- the buffer `new` has the first k elements of a list at its front, where `old` had others, and `left` is the rest
pub record Refilled (old new xs left : List ℕ) (k : ℕ) : Type 0 where
  pub len : length new ≡ length old
  pub within : k ≤ length new
  pub none : k < length new → left ≡ []
  pub after : drop k new ≡ drop k old
  pub front : take k new ++ left ≡ xs

pub refilled : {old new xs left : List ℕ} {k : ℕ} → k ≡ fitting old xs → new ≡ filled old xs → left ≡ drop (length old) xs → Refilled old new xs left k
refilled {old} {new} {xs} {left} {k} count written rest =
    let taken : length (take (length old) xs) ≡ k = length-take (length old) xs ∙ sym count in
    let following = length-drop (length xs) old in
    let both = length-append (take (length old) xs) (drop (length xs) old) in
    let size : length new ≡ length old = ap length written ∙ both ∙ omega arith in
    let front : take k new ≡ take (length old) xs = ap (take k) written ∙ take_at (take (length old) xs) (drop (length xs) old) k taken in
    let same : min (length xs) (length old) ≡ k = omega arith in
    record {
      len = size;
      within = omega arith;
      none = λ lt. rest ∙ drop_of_length-le xs (omega arith);
      after = ap (drop k) written ∙ drop_at (take (length old) xs) (drop (length xs) old) k taken ∙ sym (drop_fitting old (length xs)) ∙ ap (λ j. drop j old) same;
      front = ap (λ ys. ys ++ left) front ∙ ap (λ ys. take (length old) xs ++ ys) rest ∙ take-append-drop (length old) xs;
    }

-- a write to the part from n on
put_whole : (buf ys : List ℕ) (n : ℕ) → n ≤ length buf → length ys ≡ length buf - n → put_mid n (length buf - n) buf ys ≡ take n buf ++ ys
put_whole buf ys n le len =
    let put = put_mid n (length buf - n) buf ys in
    let front = take-put_mid n (length buf - n) buf ys (length buf) (omega arith) le in
    let following = drop-put_mid n (length buf - n) buf ys (length buf) (omega arith) le len ∙ drop_of_length-le buf (omega arith) in
    sym (take-append-drop (length buf) put) ∙ ap (λ z. z ++ drop (length buf) put) front ∙ ap (λ z. (take n buf ++ ys) ++ z) following ∙ append-nil (take n buf ++ ys)

-- a refill of a buffer that already has n elements at its front
pub record RefilledFrom (buf new xs left : List ℕ) (n k : ℕ) : Type 0 where
  pub len : length new ≡ length buf
  pub within : n + k ≤ length new
  pub none : n + k < length new → left ≡ []
  pub after : drop (n + k) new ≡ drop (n + k) buf
  pub front : take (n + k) new ++ left ≡ take n buf ++ xs

pub refilled_from : (buf ys xs left : List ℕ) (n k : ℕ) → n ≤ length buf → Refilled (take (length buf - n) (drop n buf)) ys xs left k
    → RefilledFrom buf (put_mid n (length buf - n) buf ys) xs left n k
refilled_from buf ys xs left n k le part =
    let tail = take_rest buf n in
    let size : length ys ≡ length buf - n = part.len ∙ ap length tail ∙ length-drop n buf in
    let taken : length (take n buf) ≡ n = length-take n buf ∙ omega arith in
    let both = length-append (take n buf) ys in
    let within = part.within in
    let whole = put_whole buf ys n le size in
    let front : take (n + k) (take n buf ++ ys) ≡ take n buf ++ take k ys = take_more (take n buf) ys n k taken in
    let following : drop (n + k) (take n buf ++ ys) ≡ drop k ys = drop_more (take n buf) ys n k taken in
    rw whole (record {
      len = both ∙ omega arith;
      within = omega arith;
      none = λ lt. part.none (omega arith);
      after = following ∙ part.after ∙ ap (drop k) tail ∙ drop-drop k n buf;
      front = ap (λ z. z ++ left) front ∙ append_assoc (take n buf) (take k ys) left ∙ ap (λ z. take n buf ++ z) part.front;
    })
  where
    take_more : (p q : List ℕ) (n k : ℕ) → length p ≡ n → take (n + k) (p ++ q) ≡ p ++ take k q
    take_more p q n k e = ap (λ j. take (j + k) (p ++ q)) (sym e) ∙ take-append-add p q k

    drop_more : (p q : List ℕ) (n k : ℕ) → length p ≡ n → drop (n + k) (p ++ q) ≡ drop k q
    drop_more p q n k e = ap (λ j. drop (j + k) (p ++ q)) (sym e) ∙ drop-append-add p q k

-- fewer elements are left to fill
pub less_left : (buf ys xs : List ℕ) (n k : ℕ) → n < length buf → 0 < length xs → k ≡ fitting (take (length buf - n) (drop n buf)) xs → length ys ≡ length (take (length buf - n) (drop n buf))
    → length (put_mid n (length buf - n) buf ys) - (n + k) < length buf - n
less_left buf ys xs n k lt some count len =
    let part = length-take (length buf - n) (drop n buf) in
    let tail = length-drop n buf in
    let whole = put_whole buf ys n (omega arith) (len ∙ part ∙ omega arith) in
    let both = length-append (take n buf) ys in
    let taken = length-take n buf in
    rw whole (omega arith)
