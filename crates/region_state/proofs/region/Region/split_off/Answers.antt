use Rattle.std.proofs.Common.{◌≡◌, ◌∙◌, sym, ap, subst, true, int_lt, w64}
use Rattle.std.proofs.lemmas.Int.{to_z-of_z}
use Rattle.flash_types.specs.Ranges.{holds}
use Rattle.region_state.specs.State.{State, lower_of, upper_of}
use Rattle.region_state.proofs.Lying.{lower_is, lower_within, upper_is, upper_within}
use Rattle.region_state.proofs.region.Region.split_off.Goals as goal

pub invariant_of-upper : goal.invariant_of-upper
invariant_of-upper c =
    let s : State = record { descriptor = c.self.inside.descriptor; target = c.self.inside.target; values = c.self.inside.values.entries; locks = c.self.inside.locks.entries } in
    upper_within s c.self.invariant c.args.at (subst (λ (t : State). int_lt t.descriptor.range.low c.args.at ≡ true) (sym c.self.view_is) c.requires.above) (subst (λ (t : State). holds t.descriptor.range c.args.at ≡ true) (sym c.self.view_is) c.requires.inside)
    c.upper_part.result c.in-Ok-part_values.upper_values.entries c.part_locks-upper_locks.result.entries
    (simp (to_z-of_z w64 _ c.ranges.at) at c.upper_part.ensures) (simp (to_z-of_z w64 _ c.ranges.at) at c.in-Ok-part_values.ensures.upper) (simp (to_z-of_z w64 _ c.ranges.at) at c.part_locks-upper_locks.ensures.upper)

pub invariant_of-self-2 : goal.invariant_of-self-2
invariant_of-self-2 c =
    let s : State = record { descriptor = c.self.inside.descriptor; target = c.self.inside.target; values = c.self.inside.values.entries; locks = c.self.inside.locks.entries } in
    lower_within s c.self.invariant c.args.at (subst (λ (t : State). int_lt t.descriptor.range.low c.args.at ≡ true) (sym c.self.view_is) c.requires.above) (subst (λ (t : State). holds t.descriptor.range c.args.at ≡ true) (sym c.self.view_is) c.requires.inside)
    c.lower_part-self-inside.result c.part_values.new.values.entries c.part_locks-upper_locks.new.locks.entries c.args.index
    (simp (to_z-of_z w64 _ c.ranges.at) at c.lower_part-self-inside.ensures) (simp (to_z-of_z w64 _ c.ranges.at) at c.in-Ok-part_values.ensures.lower) (simp (to_z-of_z w64 _ c.ranges.at) at c.part_locks-upper_locks.ensures.lower)

pub returns-clause-lower : goal.returns-clause-lower
returns-clause-lower c =
    let s : State = record { descriptor = c.self.inside.descriptor; target = c.self.inside.target; values = c.self.inside.values.entries; locks = c.self.inside.locks.entries } in
    lower_is s c.self.invariant c.args.at (subst (λ (t : State). int_lt t.descriptor.range.low c.args.at ≡ true) (sym c.self.view_is) c.requires.above) (subst (λ (t : State). holds t.descriptor.range c.args.at ≡ true) (sym c.self.view_is) c.requires.inside)
    c.lower_part-self-inside.result c.part_values.new.values.entries c.part_locks-upper_locks.new.locks.entries c.args.index
    (simp (to_z-of_z w64 _ c.ranges.at) at c.lower_part-self-inside.ensures) (simp (to_z-of_z w64 _ c.ranges.at) at c.in-Ok-part_values.ensures.lower) (simp (to_z-of_z w64 _ c.ranges.at) at c.part_locks-upper_locks.ensures.lower)
    ∙ ap (λ t. lower_of t c.args.at c.args.index) c.self.view_is

pub returns-clause-upper : goal.returns-clause-upper
returns-clause-upper c =
    let s : State = record { descriptor = c.self.inside.descriptor; target = c.self.inside.target; values = c.self.inside.values.entries; locks = c.self.inside.locks.entries } in
    upper_is s c.self.invariant c.args.at (subst (λ (t : State). int_lt t.descriptor.range.low c.args.at ≡ true) (sym c.self.view_is) c.requires.above) (subst (λ (t : State). holds t.descriptor.range c.args.at ≡ true) (sym c.self.view_is) c.requires.inside)
    c.upper_part.result c.in-Ok-part_values.upper_values.entries c.part_locks-upper_locks.result.entries
    (simp (to_z-of_z w64 _ c.ranges.at) at c.upper_part.ensures) (simp (to_z-of_z w64 _ c.ranges.at) at c.in-Ok-part_values.ensures.upper) (simp (to_z-of_z w64 _ c.ranges.at) at c.part_locks-upper_locks.ensures.upper)
    ∙ ap (λ t. upper_of t c.args.at) c.self.view_is
