use Rattle.std.proofs.Common.{◌∙◌, sym, subst, w64, int_lt}
use Rattle.std.proofs.lemmas.Int.{to_z-of_z}
use Rattle.std.specs.Ordering.{int_cmp}
use Rattle.committed_log.proofs.Maps.{Rise, Rise-filter}
use Rattle.region_state.proofs.Parting.{locks_below}
use Rattle.region_state.proofs.parts.below.Goals as goal

pub returns-clause-all : goal.returns-clause-all
returns-clause-all c = c.range.ensures.between tt ∙ locks_below _ c.args.at (to_z-of_z w64 _ c.ranges.at) c.args.locks.now.entries

pub returns-clause-ordered : goal.returns-clause-ordered
returns-clause-ordered c = subst (Rise int_cmp) (sym (c.range.ensures.between tt ∙ locks_below _ c.args.at (to_z-of_z w64 _ c.ranges.at) c.args.locks.now.entries)) (Rise-filter int_cmp (λ e. int_lt e.0 c.args.at) c.args.locks.now.entries c.range.ensures.ordered)
