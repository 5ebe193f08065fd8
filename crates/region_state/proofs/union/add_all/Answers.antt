use Rattle.std.proofs.Common.{◌≡◌, ◌∙◌, sym, ap, Some}
use Rattle.std.specs.BTreeMap.{get, insert_entry}
use Rattle.std.specs.Map.Iter.{deref_pair}
use Rattle.std.proofs.lemmas.Map.Views.{All-turn}
use Rattle.region_state.specs.State.{united, outside}
use Rattle.region_state.proofs.Uniting.{outside_insert}
use Rattle.region_state.proofs.union.add_all.Goals as goal

pub loop-key-preserved : goal.loop-key-preserved
loop-key-preserved g c =
    let there = All-turn deref_pair (λ e. get g.K.Ord.cmp c.args.more.now e.0 ≡ Some e.1) _ _ _ _ _ _ _ c.iter-key-items.ensures.found (c.into_iter-key-iterator.ensures.into_iter_gives ∙ c.iter-key-items.ensures.rest) c.loop-key.yielded_by c.in-Some.is c.next.ensures.steps in
    record {
      rest = ap (λ es. united g.K.Ord.cmp es c.next.new.self) (c.in-Ok-put.ensures.ok ∙ ap (insert_entry g.K.Ord.cmp c.loop-key.map.entries c.in-Some.key.now) c.in-Ok.ensures)
          ∙ sym (ap (united g.K.Ord.cmp c.loop-key.map.entries) c.in-Some.ensures.steps) ∙ c.loop-key.invariant.rest;
      back = ap (outside g.K.Ord.cmp c.args.more.now.entries) c.in-Ok-put.ensures.ok ∙ outside_insert g.met.K.Ord.total c.args.more.now.entries c.loop-key.map.entries c.in-Some.key.now c.in-Ok.value c.in-Some.value.now there ∙ c.loop-key.invariant.back;
    }
