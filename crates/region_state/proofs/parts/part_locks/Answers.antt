use Rattle.std.proofs.Common.{◌∙◌, ap, subst, ℤ, int_lt, int_le}
use Rattle.std.proofs.lemmas.Map.Lookups.{exact_signed}
use Rattle.std.specs.Cmp.{int_cmp_total}
use Rattle.std.specs.Ordering.{int_cmp}
use Rattle.region_state.specs.Parting.{IsSideOf}
use Rattle.region_state.specs.State.{outside}
use Rattle.region_state.proofs.Joining.{outside_part}
use Rattle.region_state.proofs.Parting.{not_below, not_from}
use Rattle.region_state.proofs.parts.part_locks.Goals as goal

pub returns-in-Below-clause-upper : goal.returns-in-Below-clause-upper
returns-in-Below-clause-upper c =
    ap (λ m. m.entries) c.replace.ensures.value ∙ c.take_out.ensures ∙ ap (λ os. outside int_cmp os c.args.locks.now.entries) (subst (IsSideOf c.args.at c.args.locks.now.entries) c.in-Below.is c.requires)
    ∙ outside_part int_cmp_total exact_signed (λ (k : ℤ). int_lt k c.args.at) (λ (k : ℤ). int_le c.args.at k) (not_below c.args.at) c.args.locks.now.entries c.len-len.ensures.ordered

pub returns-in-From-clause-lower : goal.returns-in-From-clause-lower
returns-in-From-clause-lower c =
    c.take_out-in-From.ensures ∙ ap (λ os. outside int_cmp os c.args.locks.now.entries) (subst (IsSideOf c.args.at c.args.locks.now.entries) c.in-From.is c.requires)
    ∙ outside_part int_cmp_total exact_signed (λ (k : ℤ). int_le c.args.at k) (λ (k : ℤ). int_lt k c.args.at) (not_from c.args.at) c.args.locks.now.entries c.len-len.ensures.ordered
