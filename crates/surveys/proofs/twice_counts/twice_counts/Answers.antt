use Rattle.std.proofs.Common.{◌≡◌, ℕ, ◌+◌, ◌-◌, ◌<◌, ◌≤◌, ◌∙◌, length, take, drop, nat_lt, arith, ap, sym}
use Rattle.surveys.specs.SurveyCounts.{number, window_sum, wrapped}
use Rattle.surveys.specs.SurveyWindows.{twice_len}
use Rattle.surveys.proofs.TwiceWindows.{none_twice-at, sum_ended, sum_one, sum_skip}
use Rattle.surveys.proofs.twice_counts.twice_counts.Goals as goal

pub loop-place-preserved-then-has_none_surely : goal.loop-place-preserved-then-has_none_surely
loop-place-preserved-then-has_none_surely c =
    let l = c.loop-place in
    let bytes = c.args.bytes.now in
    let within = c.if-has_none_surely.ensures.within in
    let none : (k : ℕ) → k < 256 → twice_len (take 17 (drop (l.place + k) bytes)) ≡ 0 = λ k lt. none_twice-at bytes (l.place + k) (c.has_none_surely.ensures.none c.if-has_none_surely.true k lt) in
    record {
      within = omega (arith, c.has_none_surely.ensures.within c.if-has_none_surely.true);
      sequences = ap (λ n. wrapped (l.sequences + n)) (sum_skip (λ w. number (nat_lt 0 (twice_len w))) bytes l.place 256 (omega (arith, c.has_none_surely.ensures.within c.if-has_none_surely.true)) (λ k lt. ap (λ n. number (nat_lt 0 n)) (none k lt)))
          ∙ l.invariant.sequences;
      chars = ap (λ n. wrapped (l.chars + n)) (sum_skip twice_len bytes l.place 256 (omega (arith, c.has_none_surely.ensures.within c.if-has_none_surely.true)) none) ∙ l.invariant.chars;
    }

pub loop-place-preserved-then-has_none : goal.loop-place-preserved-then-has_none
loop-place-preserved-then-has_none c =
    let l = c.loop-place in
    let bytes = c.args.bytes.now in
    let within = c.if-has_none.ensures.within in
    let none : (k : ℕ) → k < 64 → twice_len (take 17 (drop (l.place + k) bytes)) ≡ 0 = λ k lt. none_twice-at bytes (l.place + k) (c.has_none.ensures.none c.if-has_none.true k lt) in
    record {
      within = omega (arith, c.has_none.ensures.within c.if-has_none.true);
      sequences = ap (λ n. wrapped (l.sequences + n)) (sum_skip (λ w. number (nat_lt 0 (twice_len w))) bytes l.place 64 (omega (arith, c.has_none.ensures.within c.if-has_none.true)) (λ k lt. ap (λ n. number (nat_lt 0 n)) (none k lt)))
          ∙ l.invariant.sequences;
      chars = ap (λ n. wrapped (l.chars + n)) (sum_skip twice_len bytes l.place 64 (omega (arith, c.has_none.ensures.within c.if-has_none.true)) none) ∙ l.invariant.chars;
    }

pub loop-place-preserved-then-ends_with_none : goal.loop-place-preserved-then-ends_with_none
loop-place-preserved-then-ends_with_none c =
    let l = c.loop-place in
    let bytes = c.args.bytes.now in
    let n = length bytes - 16 - l.place in
    let long : l.place + 17 ≤ length bytes = omega (arith, l.invariant.within, c.loop-place-test.true) in
    let to : l.place + n ≡ length bytes - 16 = omega arith in
    let none : (k : ℕ) → k < n → twice_len (take 17 (drop (l.place + k) bytes)) ≡ 0 = λ k lt. none_twice-at bytes (l.place + k) (c.ends_with_none.ensures c.if-ends_with_none.true k (omega arith)) in
    record {
      within = omega arith;
      sequences = ap (λ n. wrapped (l.sequences + n))
          (ap (λ k. window_sum (λ w. number (nat_lt 0 (twice_len w))) (drop k bytes)) (sym to)
          ∙ sum_skip (λ w. number (nat_lt 0 (twice_len w))) bytes l.place n (omega arith) (λ k lt. ap (λ n. number (nat_lt 0 n)) (none k lt)))
          ∙ l.invariant.sequences;
      chars = ap (λ n. wrapped (l.chars + n)) (ap (λ k. window_sum twice_len (drop k bytes)) (sym to) ∙ sum_skip twice_len bytes l.place n (omega arith) none) ∙ l.invariant.chars;
    }

pub loop-place-preserved : goal.loop-place-preserved
loop-place-preserved c =
    let l = c.loop-place in
    let bytes = c.args.bytes.now in
    let width : l.place + 17 - l.place ≡ 17 = omega arith in
    let len : c.twice_len-len.result ≡ twice_len (take 17 (drop l.place bytes)) = rw width at c.twice_len-len.ensures.len in
    let one : c.number.result ≡ number (nat_lt 0 (twice_len (take 17 (drop l.place bytes)))) = c.number.ensures ∙ ap (λ n. number (nat_lt 0 n)) len in
    let within : l.place + 17 ≤ length bytes = omega (arith, l.invariant.within, c.loop-place-test.true) in
    record {
      within = omega arith;
      sequences = ap (λ n. wrapped (n + window_sum (λ w. number (nat_lt 0 (twice_len w))) (drop (l.place + 1) bytes))) c.sum-sequences.ensures
          ∙ sum_one (λ w. number (nat_lt 0 (twice_len w))) bytes l.place l.sequences c.number.result within one
          ∙ l.invariant.sequences;
      chars = ap (λ n. wrapped (n + window_sum twice_len (drop (l.place + 1) bytes))) c.sum-chars.ensures ∙ sum_one twice_len bytes l.place l.chars c.twice_len-len.result within len ∙ l.invariant.chars;
    }

pub returns-clause-sequences : goal.returns-clause-sequences
returns-clause-sequences c =
    let l = c.loop-place in
    c.whole.ensures ∙ sym (sum_ended (λ w. number (nat_lt 0 (twice_len w))) c.args.bytes.now l.place l.sequences (omega (arith, l.invariant.within, c.loop-place-test.false))) ∙ l.invariant.sequences

pub returns-clause-chars : goal.returns-clause-chars
returns-clause-chars c =
    let l = c.loop-place in
    c.whole-2.ensures ∙ sym (sum_ended twice_len c.args.bytes.now l.place l.chars (omega (arith, l.invariant.within, c.loop-place-test.false))) ∙ l.invariant.chars
