use Rattle.std.proofs.Common.{rules}
use Rattle.std.proofs.lemmas.Fn.{always_returns_same}
use Rattle.flash_types.specs.declared.range.HandleRange.{HandleRange}
use Rattle.delta_layer.specs.Overlay.{clears_in}
use Rattle.delta_layer.proofs.Sweeping.{by_low, same_holds}
use Rattle.delta_layer.proofs.newest.clears.Goals as goal

pub returns-clause-order : goal.returns-clause-order
returns-clause-order c = by_low c.sort_unstable_by_key.new.self.items (c.sort_unstable_by_key.ensures.sorted (λ (range : HandleRange). range.low) (always_returns_same _ _ _ (λ a r q k. search rules)))

pub returns-clause-same : goal.returns-clause-same
returns-clause-same c = same_holds c.in_ok-ranges.ranges.items c.sort_unstable_by_key.new.self.items (clears_in c.args.delta.now) c.sort_unstable_by_key.ensures.permutation c.in_ok-ranges.ensures
