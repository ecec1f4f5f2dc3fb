use Rattle.std.proofs.Common.{◌≡◌, List, ℕ, [], refl}
use Rattle.cuts.specs.declared.Form.TheVariants.{Utf8}
use Rattle.cuts.specs.Recoded.{Recoding, Feeds, Finishes, IsRecoded, fresh}
use Rattle.cuts.proofs.FedParts.{nothing_is_fed, part_is_fed, fed_is_recoded}
use Rattle.run_examples.proofs.bounds.lossy_text.Goals as goal

-- one part, and then the end
recoded_at_once : {r s : Recoding} {bytes old out new : List ℕ} → r ≡ fresh Utf8 Utf8 → old ≡ []
    → Feeds r bytes old out s → Finishes s out new → IsRecoded Utf8 Utf8 bytes new
recoded_at_once {s} {bytes} {out} {new} empty none fed last =
    let first : Feeds (fresh Utf8 Utf8) bytes [] out s = rw (empty, none) at fed in
    let whole = part_is_fed Utf8 Utf8 [] bytes bytes [] out (fresh Utf8 Utf8) s (nothing_is_fed Utf8 Utf8) first refl in
    fed_is_recoded Utf8 Utf8 bytes bytes out new s whole last refl

pub returns-clause-text : goal.returns-clause-text
returns-clause-text g c = recoded_at_once c.new-recoder.ensures.nothing c.in_ok-out.ensures.items c.in_ok-feed.ensures.ok c.in_ok-finish.ensures.ok

pub returns-clause-most : goal.returns-clause-most
returns-clause-most g c =
    c.recoded_is_bounded.ensures.lossy _ _
    (recoded_at_once c.new-recoder.ensures.nothing c.in_ok-out.ensures.items c.in_ok-feed.ensures.ok c.in_ok-finish.ensures.ok)
