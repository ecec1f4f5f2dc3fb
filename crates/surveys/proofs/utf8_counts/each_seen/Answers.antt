use Rattle.std.proofs.Common.{◌≡◌, ◌+◌, ◌-◌, ◌∙◌, ap, drop, take, arith}
use Rattle.std.proofs.lemmas.List.{take_rest}
use Rattle.surveys.specs.SurveyCounts.{counted, plus, seen}
use Rattle.surveys.specs.SurveyWindows.{front_len}
use Rattle.surveys.proofs.Counting.{counted-char, counted-one, counted-skip}
use Rattle.surveys.proofs.utf8_counts.each_seen.Goals as goal

pub loop-place-init : goal.loop-place-init
loop-place-init c = record { least = omega arith; within = omega (arith, c.requires.within); same = ap (λ n. counted n (drop c.args.start c.args.bytes.now)) c.new-counts.ensures }

pub loop-place-preserved-then-bytes-place-lt128 : goal.loop-place-preserved-then-bytes-place-lt128
loop-place-preserved-then-bytes-place-lt128 c =
    let next = c.ascii_step-place.ensures in
    record {
      least = omega (arith, c.loop-place.invariant.least, next.more);
      within = omega (arith, next.within);
      same = counted-skip c.loop-place.counts c.args.bytes.now c.loop-place.place c.ascii_step-place.result next.more next.within next.ascii ∙ c.loop-place.invariant.same;
    }

pub loop-place-preserved : goal.loop-place-preserved
loop-place-preserved c =
    let counts = c.loop-place.counts in
    let bytes = c.args.bytes.now in
    let place = c.loop-place.place in
    let width : place + 17 - place ≡ 17 = omega arith in
    let seen_is : c.seen.result ≡ seen (take 17 (drop place bytes)) = c.seen.ensures ∙ ap (λ n. seen (take n (drop place bytes))) width in
    let sum : c.add-else-len-gt1.new.self ≡ plus counts (seen (take 17 (drop place bytes))) = c.add-else-len-gt1.ensures ∙ ap (plus counts) seen_is in
    record {
      least = omega (arith, c.loop-place.invariant.least);
      within = omega arith;
      same = ap (λ n. counted n (drop (place + 1) bytes)) sum ∙ counted-one counts bytes place (omega arith) ∙ c.loop-place.invariant.same;
    }

pub loop-place-preserved-then-len-bytes : goal.loop-place-preserved-then-len-bytes
loop-place-preserved-then-len-bytes c =
    let counts = c.loop-place.counts in
    let bytes = c.args.bytes.now in
    let place = c.loop-place.place in
    let width : place + 17 - place ≡ 17 = omega arith in
    let n = c.front_len-len.result in
    let len : n ≡ front_len (drop 3 (take 17 (drop place bytes))) = rw width at c.front_len-len.ensures.len ∙ ap front_len (take_rest (take 17 (drop place bytes)) 3) in
    let seen_is : c.char_seen.result ≡ seen (take 17 (drop place bytes)) = c.char_seen.ensures ∙ ap (λ n. seen (take n (drop place bytes))) width in
    let sum : c.add.new.self ≡ plus counts (seen (take 17 (drop place bytes))) = c.add.ensures ∙ ap (plus counts) seen_is in
    record {
      least = omega (arith, c.loop-place.invariant.least);
      within = omega arith;
      same = ap (λ d. counted d (drop (place + n) bytes)) sum ∙ counted-char counts bytes place n (omega arith) (omega arith) c.front_len-len.ensures.few len ∙ c.loop-place.invariant.same;
    }
