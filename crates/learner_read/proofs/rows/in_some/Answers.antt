use Rattle.std.proofs.Common.{rules, tests}
use Rattle.std.proofs.lemmas.Iterator.{YieldsList-from_slice}
use Rattle.std.proofs.lemmas.Iterator.Search.{any_from_yields_List}
use Rattle.flash_types.specs.Ranges.{holds}
use Rattle.flash_types.specs.declared.refusal.Cut.{Cut}
use Rattle.learner_read.proofs.rows.in_some.Goals as goal

pub returns : goal.returns
returns c = any_from_yields_List (λ (cut : Cut). holds cut.range c.args.handle) _ _ c.any.result c.any.ensures.ran (YieldsList-from_slice c.args.cuts.now (cc)) (λ x b q k. search (rules, tests))
