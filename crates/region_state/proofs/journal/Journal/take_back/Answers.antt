use Rattle.std.proofs.Common.{◌∙◌, sym, ap, subst, option_to_list}
use Rattle.region_state.specs.Undoing.{undone, CanUndo}
use Rattle.region_state.proofs.Undoing.{undone_append, can_first, can_last}
use Rattle.region_state.proofs.journal.Journal.take_back.Goals as goal

pub take_back_one-requires : goal.take_back_one-requires
take_back_one-requires g c = can_last g.K.Ord.cmp c.args.map.now.entries (option_to_list c.args.self.last) c.args.self.earlier.items c.requires

pub take_back_all-requires : goal.take_back_all-requires
take_back_all-requires g c = subst (λ es. CanUndo g.K.Ord.cmp es c.args.self.earlier.items) (sym c.take_back_one.ensures) (can_first g.K.Ord.cmp c.args.map.now.entries (option_to_list c.args.self.last) c.args.self.earlier.items c.requires)

pub returns : goal.returns
returns g c = c.take_back_all.ensures ∙ ap (λ es. undone g.K.Ord.cmp es c.args.self.earlier.items) c.take_back_one.ensures ∙ sym (undone_append g.K.Ord.cmp c.args.map.now.entries (option_to_list c.args.self.last) c.args.self.earlier.items)
