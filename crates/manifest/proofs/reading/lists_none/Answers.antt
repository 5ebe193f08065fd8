use Rattle.std.proofs.Common.{sym, ◌∙◌}
use Rattle.manifest.proofs.Listed.{first_listed}
use Rattle.manifest.proofs.reading.lists_none.Goals as goal

pub returns-clause-some : goal.returns-clause-some
returns-clause-some c = λ some. first_listed c.args.list.now (sym c.is_empty.ensures ∙ some)
