use Rattle.std.proofs.Common.{rules, ◌≡◌, ◌<◌, ◌≤◌, length, sym, subst}
use Rattle.std.specs.Arc.{arc_value}
use Rattle.segment_flush.specs.Flushing.{after_slots, has_more}
use Rattle.replica_state.specs.Core.{Core}
use Rattle.replica_state.proofs.Flushes.{checkpoint_core}
use Rattle.replica_state.proofs.state.State.put_checkpoint.Goals as goal

pub invariant_of-self : goal.invariant_of-self
invariant_of-self g c =
    let s : Core _ = record { log = arc_value c.self.inside.logs; slots = c.self.inside.segments; table = c.self.inside.table; listed = c.self.inside.listed.items; committed = c.self.inside.committed; count = c.self.inside.count; highest = c.self.inside.highest; numbers = c.self.inside.numbers; settings = c.self.inside.settings } in
    let above : after_slots has_more s.numbers.next s.slots < c.args.next = subst (λ (x : Core _). after_slots has_more x.numbers.next x.slots < c.args.next) (sym c.self.view_is) c.requires.next in
    let no_lower : s.numbers.high ≤ c.args.high = subst (λ (x : Core _). x.numbers.high ≤ c.args.high) (sym c.self.view_is) c.requires.no_lower in
    let within : c.args.high ≤ length s.log.entries = subst (λ (x : Core _). c.args.high ≤ length x.log.entries) (sym c.self.view_is) c.requires.in_log in
    let no_younger : s.numbers.generation ≤ c.args.generation = subst (λ (x : Core _). x.numbers.generation ≤ c.args.generation) (sym c.self.view_is) c.requires.no_younger in
    let all : c.len.result ≡ length s.listed = search rules in
    checkpoint_core s c.self.invariant c.put_all.new.list c.len.result c.args.next c.args.high c.args.generation c.put_all.ensures all above no_lower within no_younger c.requires.numbered
