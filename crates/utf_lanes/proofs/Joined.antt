-- Lists joined, for each of some numbers in order.
use Rattle.std.proofs.Common.{◌≡◌, ℕ, zero, suc, ◌+◌, ◌<◌, ◌≤◌, List, [], ◌++◌, map, arith, refl, sym, ap, ap₂, ◌∙◌, append_assoc}
use Rattle.std.proofs.lemmas.List.{map-append, append-nil}
use Rattle.utf_lanes.specs.Utf8ToUtf16.{concat_range}

pub joined_map : (h : ℕ → ℕ) (f : ℕ → List ℕ) (p n : ℕ) → map h (concat_range f p n) ≡ concat_range (λ i. map h (f i)) p n
unfolding concat_range
joined_map h f p zero = refl
joined_map h f p (suc n) = map-append h (f p) (concat_range f (suc p) n) ∙ ap (λ xs. map h (f p) ++ xs) (joined_map h f (suc p) n)

pub joined_same : (f g : ℕ → List ℕ) (p n : ℕ) → ((i : ℕ) → p ≤ i → i < p + n → f i ≡ g i) → concat_range f p n ≡ concat_range g p n
unfolding concat_range
joined_same f g p zero same = refl
joined_same f g p (suc n) same = ap₂ (λ xs ys. xs ++ ys) (same p (omega arith) (omega arith)) (joined_same f g (suc p) n (λ i ge lt. same i (omega arith) (omega arith)))

pub joined_none : (f : ℕ → List ℕ) (p n : ℕ) → ((i : ℕ) → p ≤ i → i < p + n → f i ≡ []) → concat_range f p n ≡ []
unfolding concat_range
joined_none f p zero none = refl
joined_none f p (suc n) none = ap₂ (λ xs ys. xs ++ ys) (none p (omega arith) (omega arith)) (joined_none f (suc p) n (λ i ge lt. none i (omega arith) (omega arith)))

pub joined_add : (f : ℕ → List ℕ) (p m n : ℕ) → concat_range f p (m + n) ≡ concat_range f p m ++ concat_range f (p + m) n
unfolding concat_range
joined_add f p zero n = let at : p ≡ p + 0 = omega arith in let all : 0 + n ≡ n = omega arith in ap (concat_range f p) all ∙ ap (λ q. concat_range f q n) at
joined_add f p (suc m) n =
    let all : suc m + n ≡ suc (m + n) = omega arith in
    let at : suc p + m ≡ p + suc m = omega arith in
    ap (concat_range f p) all ∙ ap (λ xs. f p ++ xs) (joined_add f (suc p) m n ∙ ap (λ q. concat_range f (suc p) m ++ concat_range f q n) at)
    ∙ sym (append_assoc (f p) (concat_range f (suc p) m) (concat_range f (p + suc m) n))

pub joined_moved : (f g : ℕ → List ℕ) (p q n : ℕ) → ((i : ℕ) → i < n → f (p + i) ≡ g (q + i)) → concat_range f p n ≡ concat_range g q n
unfolding concat_range
joined_moved f g p q zero same = refl
joined_moved f g p q (suc n) same =
    let zp : p + 0 ≡ p = omega arith in
    let zq : q + 0 ≡ q = omega arith in
    let first : f p ≡ g q = rw (zp, zq) at (same 0 (omega arith)) in
    ap₂ (λ xs ys. xs ++ ys) first
    (joined_moved f g (suc p) (suc q) n (λ i lt.
    let sp : suc p + i ≡ p + suc i = omega arith in
    let sq : suc q + i ≡ q + suc i = omega arith in
    rw (sp, sq) (same (suc i) (omega arith))))

-- two halves of equal length
pub joined_halves : (f g h : ℕ → List ℕ) (n : ℕ) → ((i : ℕ) → i < n → f i ≡ h i) → ((i : ℕ) → i < n → g i ≡ h (n + i)) → concat_range f 0 n ++ concat_range g 0 n ≡ concat_range h 0 (n + n)
joined_halves f g h n front back =
    let at : 0 + n ≡ n = omega arith in
    ap₂ (λ xs ys. xs ++ ys) (joined_same f h 0 n (λ i ge lt. front i (omega arith))) (joined_moved g h 0 n n (λ i lt. let z : 0 + i ≡ i = omega arith in rw z (back i lt)))
    ∙ ap (λ k. concat_range h 0 n ++ concat_range h k n) (sym at) ∙ sym (joined_add h 0 n n)

-- A few of them, written out.

pub joined_1 : (f : ℕ → List ℕ) (p : ℕ) → concat_range f p 1 ≡ f p
unfolding concat_range
joined_1 f p = append-nil (f p)

joined_next : (f : ℕ → List ℕ) (p n q : ℕ) → suc p ≡ q → concat_range f p (suc n) ≡ f p ++ concat_range f q n
unfolding concat_range
joined_next f p n q at = ap (λ j. f p ++ concat_range f j n) at

pub joined_2 : (f : ℕ → List ℕ) (p : ℕ) → concat_range f p 2 ≡ f p ++ f (p + 1)
joined_2 f p = joined_next f p 1 (p + 1) (omega arith) ∙ ap (λ ys. f p ++ ys) (joined_1 f (p + 1))

pub joined_3 : (f : ℕ → List ℕ) (p : ℕ) → concat_range f p 3 ≡ f p ++ (f (p + 1) ++ f (p + 2))
joined_3 f p =
    let at : p + 1 + 1 ≡ p + 2 = omega arith in
    joined_next f p 2 (p + 1) (omega arith) ∙ ap (λ ys. f p ++ ys) (joined_2 f (p + 1) ∙ ap (λ j. f (p + 1) ++ f j) at)

pub joined_4 : (f : ℕ → List ℕ) (p : ℕ) → concat_range f p 4 ≡ f p ++ (f (p + 1) ++ (f (p + 2) ++ f (p + 3)))
joined_4 f p =
    let at : p + 1 + 1 ≡ p + 2 = omega arith in
    let last : p + 1 + 2 ≡ p + 3 = omega arith in
    joined_next f p 3 (p + 1) (omega arith) ∙ ap (λ ys. f p ++ ys) (joined_3 f (p + 1) ∙ ap₂ (λ i j. f (p + 1) ++ (f i ++ f j)) at last)
