use Rattle.std.proofs.Common.{◌≡◌, ◌+◌, ◌-◌, ◌≤◌, length, take, arith, ap, ◌∙◌, ◌++◌}
use Rattle.std.proofs.lemmas.Slice.{take-put_mid}
use Rattle.recoding.proofs.fills.put_all.Goals as goal

pub returns-clause-fills : goal.returns-clause-fills
returns-clause-fills c =
    let room = c.args.room.now in
    let place = c.args.place in
    let written = c.copy_from_slice.new.self in
    let bytes : written ≡ c.args.bytes.now = c.copy_from_slice.ensures.after in
    let fits = c.requires in
    let within : place ≤ length room = omega arith in
    let end = place + length c.args.bytes.now in
    record {
      ordered = omega arith;
      fits = omega arith;
      front = take-put_mid place (end - place) room written end (omega arith) within ∙ ap (λ xs. take place room ++ xs) bytes;
    }
