-- A table after one character more, and the characters of a text one by one.
use Rattle.std.proofs.Common.{◌≡◌, ℕ, ◌+◌, ◌<◌, ◌≤◌, List, [], ◌∷◌, ◌++◌, length, Bool, true, false, cond, Option, Some, None, unwrap_or, refl, ap, sym, ◌∙◌, arith, append_assoc, append-nil, length-append}
use Rattle.std.proofs.lemmas.Grind.{common_steps}
use Rattle.std.proofs.lemmas.List.Sums.{sum_by_push, count_by-le-length}
use Rattle.std.specs.Map.{count_at}
use Rattle.std.specs.Prelude.{count_by, nat_eq, ◌≢◌}
use Rattle.std.specs.Str.{chars}
use Rattle.encode_unicode.specs.Code.{utf8}
use Rattle.encode_unicode.specs.TextWindow.{NextScalar}
use Rattle.encode_unicode.specs.Window.{Window, elements}
use Rattle.encode_unicode.proofs.ForCallers.{utf8_is_code}
use Rattle.encode_unicode.proofs.Listed.{scalars_listed}
use Rattle.examples.specs.Tables.{CountsEach, CountsOneMore, non_zero}

number_of : (n : ℕ) → unwrap_or (non_zero n) 0 ≡ n
number_of n = grind (arith, common_steps)

count_is : (seen : List ℕ) (table : ℕ → Option ℕ) (s : ℕ) → CountsEach seen table → count_at table s ≡ count_by (nat_eq s) seen
count_is seen table s counted = ap (λ o. unwrap_or o 0) (counted s) ∙ number_of (count_by (nat_eq s) seen)

pub count_few : (seen : List ℕ) (table : ℕ → Option ℕ) (s : ℕ) → CountsEach seen table → count_at table s ≤ length seen
count_few seen table s counted = rw (count_is seen table s counted) (count_by-le-length (nat_eq s) seen)

pub counts_push : (seen : List ℕ) (old new : ℕ → Option ℕ) (s : ℕ) → CountsEach seen old → CountsOneMore old new s → CountsEach (seen ++ s ∷ []) new
counts_push seen old new s counted more q = by_key (nat_eq q s) refl
  where
    push : (q : ℕ) (b : Bool) → nat_eq q s ≡ b → count_by (nat_eq q) (seen ++ s ∷ []) ≡ count_by (nat_eq q) seen + cond b 1 0
    push q b e = sum_by_push _ seen s ∙ ap (λ x. count_by (nat_eq q) seen + cond x 1 0) e

    one_more : (n : ℕ) → Some (n + 1) ≡ non_zero (n + 1)
    one_more n = grind (arith, common_steps)

    by_key : (b : Bool) → nat_eq q s ≡ b → new q ≡ non_zero (count_by (nat_eq q) (seen ++ s ∷ []))
    by_key true e =
        let same : q ≡ s = grind (arith, common_steps) in
        ap new same ∙ more.this ∙ ap (λ n. Some (n + 1)) (count_is seen old s counted ∙ ap (λ x. count_by (nat_eq x) seen) (sym same)) ∙ one_more (count_by (nat_eq q) seen) ∙ ap non_zero (sym (push q true e))
    by_key false e =
        let apart : q ≢ s = grind (arith, common_steps) in
        more.others q apart ∙ counted q ∙ ap non_zero (sym (push q false e ∙ omega arith))

-- the characters of a text that an iterator has given so far, and those that are left
pub record IsReadSoFar (text seen : List ℕ) (w : Window) : Type 0 where
  pub whole : w.whole ≡ text
  pub left : chars text ≡ seen ++ chars (elements w)
  pub few : length seen ≤ w.front

pub read_more : (text seen : List ℕ) (w v : Window) (s : ℕ) → IsReadSoFar text seen w → NextScalar w (Some s) v → (length seen < length text) × IsReadSoFar text (seen ++ s ∷ []) v
read_more text seen w v s before step =
    let some = utf8_is_code.some s step.scalar in
    let further : v.front ≡ w.front + length (utf8 s) = ap (λ (x : Window). x.front) step.left in
    let same : v.whole ≡ w.whole = ap (λ (x : Window). x.whole) step.left in
    let few = before.few in (
      rw (← before.whole, ← same) (omega arith),
      record {
        whole = same ∙ before.whole;
        left = before.left ∙ ap (λ cs. seen ++ cs) (scalars_listed w (Some s) v step) ∙ sym (append_assoc seen (s ∷ []) (chars (elements v)));
        few = omega (arith, length-append seen (s ∷ []));
      },
    )

pub read_all : (text seen : List ℕ) (w v : Window) → IsReadSoFar text seen w → NextScalar w None v → seen ≡ chars text
read_all text seen w v before step = sym (before.left ∙ ap (λ cs. seen ++ cs) (scalars_listed w None v step).0 ∙ append-nil seen)

-- A table that counts the characters that an iterator has given so far.
pub record CountsSoFar (text seen : List ℕ) (w : Window) (table : ℕ → Option ℕ) : Type 0 where
  pub counted : CountsEach seen table
  pub read : IsReadSoFar text seen w

pub one_fits : {text seen : List ℕ} {w : Window} (v : Window) (s m : ℕ) {table : ℕ → Option ℕ} → CountsSoFar text seen w table → NextScalar w (Some s) v → length text < m → count_at table s + 1 < m
one_fits {text} {seen} {w} v s m {table} before step fits =
    let few = count_few seen table s before.counted in
    let more = (read_more text seen w v s before.read step).0 in
    omega arith

pub one_counted : {text seen : List ℕ} {w v : Window} {s : ℕ} {old new : ℕ → Option ℕ} → CountsSoFar text seen w old → NextScalar w (Some s) v → CountsOneMore old new s → CountsSoFar text (seen ++ s ∷ []) v new
one_counted {text} {seen} {w} {v} {s} {old} {new} before step more = record { counted = counts_push seen old new s before.counted more; read = (read_more text seen w v s before.read step).1 }

pub all_counted : (text seen : List ℕ) (w v : Window) (table : ℕ → Option ℕ) → CountsSoFar text seen w table → NextScalar w None v → CountsEach (chars text) table
all_counted text seen w v table before step = rw (← read_all text seen w v before.read step) before.counted
