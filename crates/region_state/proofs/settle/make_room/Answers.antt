use Rattle.std.proofs.Common.{◌∙◌, sym, ap, subst, []}
use Rattle.std.specs.BTreeMap.{is_at}
use Rattle.std.specs.Map.{lookup}
use Rattle.region_state.specs.State.{outside, united}
use Rattle.region_state.specs.Settling.{Ready, settled, missing}
use Rattle.region_state.proofs.Settling.{missing_apart, ready, filled, united_rise, settled_seen}
use Rattle.region_state.proofs.settle.make_room.Goals as goal

pub add_all-requires : goal.add_all-requires
add_all-requires g c = ap (λ fs. outside g.K.Ord.cmp fs c.args.map.now.entries) c.in-Ok.ensures ∙ missing_apart g.met.K.Ord.total c.args.map.now.entries c.args.changes.now.entries

pub returns-in-Ok-add_all-clause-ready : goal.returns-in-Ok-add_all-clause-ready
returns-in-Ok-add_all-clause-ready g c =
    subst (λ es. Ready g.K.Ord.cmp es c.args.changes.now.entries) (sym (c.in-Ok-add_all.ensures.ok ∙ ap (united g.K.Ord.cmp c.args.map.now.entries) c.in-Ok.ensures))
    (ready g.met.K.Ord.total (united g.K.Ord.cmp c.args.map.now.entries (missing g.K.Ord.cmp c.args.map.now.entries [] c.args.changes.now.entries)) c.args.changes.now.entries
    (united_rise g.met.K.Ord.total c.args.map.now.entries (missing g.K.Ord.cmp c.args.map.now.entries [] c.args.changes.now.entries) c.len.ensures.ordered) c.len-2.ensures.ordered (filled g.met.K.Ord.total c.args.map.now.entries c.args.changes.now.entries))

pub returns-in-Ok-add_all-clause-found : goal.returns-in-Ok-add_all-clause-found
returns-in-Ok-add_all-clause-found g c q =
    ap (λ es. lookup (is_at (g.K.Ord.cmp q)) (settled g.K.Ord.cmp es c.args.changes.now.entries)) (c.in-Ok-add_all.ensures.ok ∙ ap (united g.K.Ord.cmp c.args.map.now.entries) c.in-Ok.ensures)
    ∙ settled_seen g.met.K.Ord.total c.args.map.now.entries c.args.changes.now.entries c.len.ensures.ordered c.len-2.ensures.ordered q
