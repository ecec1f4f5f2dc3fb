use Rattle.std.proofs.Common.{◌++◌, ◌∙◌, ap}
use Rattle.std.specs.List.{flat_map}
use Rattle.utf_base.specs.Code.{utf8}
use Rattle.encode_unicode.proofs.iter_ext.AnyUtf8CharIterExt.collect_string.Goals as goal

pub returns-clause-runs : goal.returns-clause-runs
returns-clause-runs g c = let all = c.in_ok-extend.ensures.runs in (all.0, all.1, all.2, all.3 ∙ ap (λ before. before ++ flat_map utf8 all.0.items) c.new-text.ensures.bytes)
