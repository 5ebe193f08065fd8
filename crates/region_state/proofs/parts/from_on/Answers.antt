use Rattle.std.proofs.Common.{◌∙◌, sym, subst, w64, int_le}
use Rattle.std.proofs.lemmas.Int.{to_z-of_z}
use Rattle.std.specs.Ordering.{int_cmp}
use Rattle.committed_log.proofs.Maps.{Rise, Rise-filter}
use Rattle.region_state.proofs.Parting.{locks_from}
use Rattle.region_state.proofs.parts.from_on.Goals as goal

pub returns-clause-all : goal.returns-clause-all
returns-clause-all c = c.range.ensures.between tt ∙ locks_from _ c.args.at (to_z-of_z w64 _ c.ranges.at) c.args.locks.now.entries

pub returns-clause-ordered : goal.returns-clause-ordered
returns-clause-ordered c = subst (Rise int_cmp) (sym (c.range.ensures.between tt ∙ locks_from _ c.args.at (to_z-of_z w64 _ c.ranges.at) c.args.locks.now.entries)) (Rise-filter int_cmp (λ e. int_le c.args.at e.0) c.args.locks.now.entries c.range.ensures.ordered)
