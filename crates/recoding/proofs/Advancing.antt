-- The number of faults that a recoder replaced, and its count in all.
use Rattle.std.specs.Prelude.{◌^◌, min}
use Rattle.std.proofs.Common.{◌≡◌, ℕ, ◌+◌, ◌-◌, List, [], ◌++◌, arith, ap, ap₂, sym, ◌∙◌, append_assoc}
use Rattle.std.proofs.lemmas.List.{append-nil}
use Rattle.recoding.specs.declared.form.Form.{Form}
use Rattle.recoding.specs.Recoded.{Recoding}
use Rattle.recoding.specs.Faults.{AddsUp, CountsFed, CountsTo, KeepsCount, Replaces, ReplacesLast, fault_count, replaced_in_all}
use Rattle.recoding.proofs.FaultCounts.{none_in_nothing}

pub Replaces-of : (r s : Recoding) (from : Form) (part bytes held : List ℕ) (n : ℕ) → from ≡ r.from → s.from ≡ r.from → bytes ≡ r.held ++ part → s.held ≡ held → CountsTo from bytes n held
    → Replaces r part n s
Replaces-of r s from part bytes held n e f b h c later =
    let all : fault_count r.from (r.held ++ (part ++ later)) ≡ fault_count from (bytes ++ later) =
    ap (fault_count r.from) (sym (append_assoc r.held part later)) ∙ ap₂ (λ x xs. fault_count x (xs ++ later)) (sym e) (sym b) in
    let left : fault_count from (held ++ later) ≡ fault_count s.from (s.held ++ later) = ap₂ (λ x xs. fault_count x (xs ++ later)) (e ∙ sym f) (sym h) in
    all ∙ c later ∙ ap (λ k. n + k) left

-- The count in all, as far as 64 bits count.

pub keeps_count : (r s : Recoding) (part : List ℕ) (n : ℕ) → Replaces r part n s → AddsUp r n s → KeepsCount r part s
unfolding replaced_in_all
keeps_count r s part n f total later = omega (arith, f later, total)

pub fed_counts : (r s : Recoding) (part : List ℕ) → CountsFed r part s → KeepsCount r part s
fed_counts r s part (n, f, total) = keeps_count r s part n f total

pub keeps_last : (r s : Recoding) (n : ℕ) → ReplacesLast r n s → AddsUp r n s → replaced_in_all s [] ≡ replaced_in_all r []
unfolding replaced_in_all
keeps_last r s n f total = rw (append-nil r.held, append-nil s.held) (omega (arith, f, total))

pub counts_last : (r s : Recoding) (n : ℕ) → ReplacesLast r n s → AddsUp r n s → s.held ≡ [] → s.replaced ≡ replaced_in_all r []
unfolding replaced_in_all
counts_last r s n f total none =
    rw (append-nil r.held) (omega (arith, f, total, ap (fault_count s.from) none, none_in_nothing s.from))

pub counts_all : (r : Recoding) (n : ℕ) → n ≡ min (2 ^ 64 - 1) (r.replaced + fault_count r.from r.held) → n ≡ replaced_in_all r []
unfolding replaced_in_all
counts_all r n e = rw (append-nil r.held) e
