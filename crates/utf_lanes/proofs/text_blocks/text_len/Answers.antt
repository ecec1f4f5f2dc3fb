use Rattle.std.proofs.Common.{◌≡◌, ◌+◌, ◌∷◌, length, take, ◌∙◌, sym, arith, subst, true≢false, inl, inr}
use Rattle.std.proofs.lemmas.Bool.{cases_lt}
use Rattle.std.proofs.lemmas.List.{take_all}
use Rattle.utf_lanes.specs.TextBlocks.{AllMayFollow, EndsCharacter}
use Rattle.utf_lanes.proofs.AsciiTexts.{ascii_text}
use Rattle.utf_lanes.proofs.FewBytes.{text_padded}
use Rattle.utf_lanes.proofs.TextFollows.{text_follows, text_closes}
use Rattle.utf_lanes.proofs.text_blocks.text_len.Goals.{else-end-bytes-via-then-end-bytes+else-ends_character, else-end-bytes-via-else-end-bytes}
use Rattle.utf_lanes.proofs.text_blocks.text_len.Goals as goal

pub returns-then-ends_character-clause-text : goal.returns-then-ends_character-clause-text
returns-then-ends_character-clause-text c =
    let xs = c.args.bytes.now in
    let end = c.valid_len-end.result in
    let at : end ≡ length xs = omega arith in
    let all : take end xs ≡ xs = take_all end xs (omega arith) in
    let size : end + 3 ≡ length (0 ∷ 0 ∷ 0 ∷ xs) = omega arith in
    let follow = subst (λ n. AllMayFollow (0 ∷ 0 ∷ 0 ∷ xs) 3 n) size c.valid_len-end.ensures.follow in
    let closed = subst (λ n. EndsCharacter xs n) at (c.ends_character.ensures.closed c.if-ends_character.true) in
    rw all (text_padded 0 xs (omega arith) follow closed)

pub returns-then-bytes-lt19-clause-ascii : goal.returns-then-bytes-lt19-clause-ascii
returns-then-bytes-lt19-clause-ascii c ascii = elim (cases_lt (length c.args.bytes.now) 4) [
  | inl few ↦ c.few_len.ensures.ascii few ascii
  | inr more ↦ c.few_len.ensures.all more (ascii_text c.args.bytes.now ascii)
]

pub returns-clause-near : goal.returns-clause-near
returns-clause-near c enough n within text =
    let end = c.valid_len-end.ensures.all n within (text_follows c.args.bytes.now n within text) in
    omega (arith, c.last_code_start.ensures.near)

pub returns-clause-all : goal.returns-clause-all
returns-clause-all c enough text =
    let xs = c.args.bytes.now in
    let whole : take (length xs) xs ≡ xs = take_all (length xs) xs (omega arith) in
    let end = c.valid_len-end.ensures.all (length xs) (omega arith) (text_follows xs (length xs) (omega arith) (rw whole text)) in
    let at : length xs ≡ c.valid_len-end.result = omega (arith, c.valid_len-end.ensures.within) in
    let closed = subst (λ n. EndsCharacter xs n) at (text_closes xs text) in
    elim c.else-end-bytes.branch [
      | else-end-bytes-via-then-end-bytes+else-ends_character w ↦ absurd (true≢false (sym (w.ends_character.ensures.all closed) ∙ w.if-ends_character.false))
      | else-end-bytes-via-else-end-bytes w ↦ (let other = w.if-end-bytes.false in absurd (omega arith))
    ]

pub returns-clause-ascii : goal.returns-clause-ascii
returns-clause-ascii c ascii = returns-clause-all c (omega arith) (ascii_text c.args.bytes.now ascii)
