use Rattle.std.proofs.Common.{Some, find, ◌∙◌, sym, ap, option_map, ℤ, w64, SFits, rules}
use Rattle.std.proofs.lemmas.Int.{to_z-of_z}
use Rattle.committed_log.specs.declared.store.Lock.{Lock}
use Rattle.region_state.specs.Blocking.{blocks_at}
use Rattle.region_state.proofs.Parting.{first_of_part, find_here, find_next, find_nothing}
use Rattle.region_state.proofs.locks.first_lock.Goals as goal

pub loop-handle-init : goal.loop-handle-init
loop-handle-init c = first_of_part c.args.locks.now.entries c.args.range c.args.ts ∙ sym (ap (find (λ (e : ℤ × Lock). blocks_at c.args.ts e.1)) (c.into_iter-handle-iterator.ensures.into_iter_gives ∙ c.locks_in-handle-items.ensures))

pub returns-then-blocks : goal.returns-then-blocks
returns-then-blocks c =
    let fits : SFits w64 c.in-Some.handle.now = search rules in
    ap (λ h. Some (h, c.in-Some.lock.now.start)) (to_z-of_z w64 _ fits) ∙ sym (ap (option_map (λ (l : ℤ × Lock). (l.0, l.1.start))) (c.loop-handle.invariant ∙ find_here _ c.loop-handle.handle-iterator c.next.new.self (c.in-Some.handle.now, c.in-Some.lock.now) c.in-Some.ensures.steps (sym c.if-blocks.ensures)))

pub loop-handle-preserved : goal.loop-handle-preserved
loop-handle-preserved c = c.loop-handle.invariant ∙ find_next _ c.loop-handle.handle-iterator c.next.new.self (c.in-Some.handle.now, c.in-Some.lock.now) c.in-Some.ensures.steps (sym c.if-blocks.ensures)

pub returns : goal.returns
returns c = sym (ap (option_map (λ (l : ℤ × Lock). (l.0, l.1.start))) (c.loop-handle.invariant ∙ find_nothing _ c.loop-handle.handle-iterator c.in-None.ensures.steps.0))
