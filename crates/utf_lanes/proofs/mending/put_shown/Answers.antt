use borrow.Rule.Slice.PartMut.{put_mid}
use Rattle.std.proofs.Common.{◌≡◌, arith, ap, sym, ◌∙◌, ◌++◌, ◌+◌, ◌-◌, ◌≤◌, length, take, get_or}
use Rattle.utf_lanes.proofs.MendedTexts.{Mends-one, MendsFront-on, code_length, few_put, length_put}
use Rattle.utf_lanes.proofs.mending.put_shown.Goals as goal

pub returns-clause-mends : goal.returns-clause-mends
returns-clause-mends g c =
    let f = c.requires.so_far in
    let fits = f.fits in
    let made = c.args.made.now in
    let n = c.args.done.len in
    let code = c.code.result in
    let shown = c.code.ensures in
    let k = get_or code 3 0 in
    let few : k ≤ 3 = shown.few in
    let written = c.copy_from_slice.new.self in
    let bytes : written ≡ code = c.copy_from_slice.ensures.after in
    let four : length written ≡ 4 = omega (arith, ap length bytes) in
    let all : n + 4 - n ≡ 4 = omega arith in
    let size : length code ≡ 4 = omega arith in
    let same : c.code_len-shown_len.result ≡ k = c.code_len-shown_len.ensures ∙ sym (code_length _ code shown size) in
    let len : length (put_mid n 4 made written) ≡ length made = length_put made written n 4 (omega arith) four in
    rw (all, same) (MendsFront-on f (Mends-one c.args.done.read c.args.len c.requires.invalid)
    (few_put made written n 4 k (omega arith) (omega arith) ∙ ap (λ ys. take n made ++ take k ys) bytes ∙ ap (λ ys. take n made ++ ys) shown.code)
    (omega arith) c.requires.within (omega arith) (omega arith) (omega arith))
