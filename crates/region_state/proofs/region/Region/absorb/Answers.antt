use Rattle.std.proofs.Common.{◌≡◌, sym, subst, true}
use Rattle.flash_types.specs.Ranges.{is_below, touch}
use Rattle.region_state.specs.State.{State}
use Rattle.region_state.proofs.Lying.{values_apart, locks_apart, values_apart_back, locks_apart_back, united_within}
use Rattle.region_state.proofs.region.Region.absorb.Goals as goal

pub unite-requires-clause-values : goal.unite-requires-clause-values
unite-requires-clause-values c =
    let s : State = record { descriptor = c.self.inside.descriptor; target = c.self.inside.target; values = c.self.inside.values.entries; locks = c.self.inside.locks.entries } in
    let t : State = record { descriptor = c.other.inside.descriptor; target = c.other.inside.target; values = c.other.inside.values.entries; locks = c.other.inside.locks.entries } in
    values_apart s t c.self.invariant c.other.invariant (subst (λ (x : State). touch x.descriptor.range t.descriptor.range ≡ true) (sym c.self.view_is) (subst (λ (y : State). touch c.args.self.now.descriptor.range y.descriptor.range ≡ true) (sym c.other.view_is) c.requires.touch))

pub unite-requires-clause-locks : goal.unite-requires-clause-locks
unite-requires-clause-locks c =
    let s : State = record { descriptor = c.self.inside.descriptor; target = c.self.inside.target; values = c.self.inside.values.entries; locks = c.self.inside.locks.entries } in
    let t : State = record { descriptor = c.other.inside.descriptor; target = c.other.inside.target; values = c.other.inside.values.entries; locks = c.other.inside.locks.entries } in
    locks_apart s t c.self.invariant c.other.invariant (subst (λ (x : State). touch x.descriptor.range t.descriptor.range ≡ true) (sym c.self.view_is) (subst (λ (y : State). touch c.args.self.now.descriptor.range y.descriptor.range ≡ true) (sym c.other.view_is) c.requires.touch))

pub unite-requires-clause-more_values : goal.unite-requires-clause-more_values
unite-requires-clause-more_values c =
    let s : State = record { descriptor = c.self.inside.descriptor; target = c.self.inside.target; values = c.self.inside.values.entries; locks = c.self.inside.locks.entries } in
    let t : State = record { descriptor = c.other.inside.descriptor; target = c.other.inside.target; values = c.other.inside.values.entries; locks = c.other.inside.locks.entries } in
    values_apart_back s t c.self.invariant c.other.invariant (subst (λ (x : State). touch x.descriptor.range t.descriptor.range ≡ true) (sym c.self.view_is) (subst (λ (y : State). touch c.args.self.now.descriptor.range y.descriptor.range ≡ true) (sym c.other.view_is) c.requires.touch))

pub unite-requires-clause-more_locks : goal.unite-requires-clause-more_locks
unite-requires-clause-more_locks c =
    let s : State = record { descriptor = c.self.inside.descriptor; target = c.self.inside.target; values = c.self.inside.values.entries; locks = c.self.inside.locks.entries } in
    let t : State = record { descriptor = c.other.inside.descriptor; target = c.other.inside.target; values = c.other.inside.values.entries; locks = c.other.inside.locks.entries } in
    locks_apart_back s t c.self.invariant c.other.invariant (subst (λ (x : State). touch x.descriptor.range t.descriptor.range ≡ true) (sym c.self.view_is) (subst (λ (y : State). touch c.args.self.now.descriptor.range y.descriptor.range ≡ true) (sym c.other.view_is) c.requires.touch))

pub invariant_of-self : goal.invariant_of-self
invariant_of-self c =
    let s : State = record { descriptor = c.self.inside.descriptor; target = c.self.inside.target; values = c.self.inside.values.entries; locks = c.self.inside.locks.entries } in
    let t : State = record { descriptor = c.other.inside.descriptor; target = c.other.inside.target; values = c.other.inside.values.entries; locks = c.other.inside.locks.entries } in
    united_within s t c.self.invariant c.other.invariant (subst (λ (x : State). touch x.descriptor.range t.descriptor.range ≡ true) (sym c.self.view_is) (subst (λ (y : State). touch c.args.self.now.descriptor.range y.descriptor.range ≡ true) (sym c.other.view_is) c.requires.touch))
    (subst (λ (x : State). is_below x.descriptor.range.low x.descriptor.range.high ≡ true) (sym c.self.view_is) c.requires.filled) (subst (λ (x : State). is_below x.descriptor.range.low x.descriptor.range.high ≡ true) (sym c.other.view_is) c.requires.other_filled)
    c.merged-self-inside.result c.args.index c.unite.new.values.entries c.unite.new.locks.entries c.merged-self-inside.ensures c.in-Ok.ensures.values c.in-Ok.ensures.locks
