use Rattle.std.proofs.Common.{◌≡◌, ◌∙◌, ap, ℕ, Bool, true, not, ◌&&◌, filter, nat_lt, nat_cmp, arith}
use Rattle.std.specs.Ordering.{is_le}
use Rattle.region_table.proofs.ready.below.Goals as goal

contains : (q bound : ℕ) → (true && not (is_le (nat_cmp bound q))) ≡ nat_lt q bound
contains q bound = grind arith

pub returns : goal.returns
returns c = c.range.ensures.between tt ∙ ap (λ (t : ℕ × Unit {0} → Bool). filter t c.args.positions.now.entries) (λ i e. contains e.0 c.args.bound i)
