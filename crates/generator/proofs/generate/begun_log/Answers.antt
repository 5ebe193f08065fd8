use Rattle.std.proofs.Common.{◌≡◌, ◌∙◌, refl, sym, ap, ℕ, ◌+◌, ◌*◌, ◌%◌, ◌^◌, add-one}
use Rattle.generator.specs.Generated.{random, begun}
use Rattle.generator.proofs.generate.begun_log.Goals as goal

next_random : (x y i : ℕ) → x ≡ random i → y ≡ (x * 6364136223846793005 + 1442695040888963407) % 2 ^ 64 → y ≡ random (i + 1)
unfolding random
next_random x y i e f = f ∙ ap (λ z. (z * 6364136223846793005 + 1442695040888963407) % 2 ^ 64) e ∙ ap random (sym (add-one i))

pub loop-i-init : goal.loop-i-init
unfolding begun random
loop-i-init c = (c.in_ok-logs.ensures, refl)

pub add_transaction-requires-clause-random : goal.add_transaction-requires-clause-random
add_transaction-requires-clause-random c = next_random c.loop-i.x c.random_after-x.result c.loop-i.i c.loop-i.invariant.1 c.random_after-x.ensures

pub loop-i-preserved : goal.loop-i-preserved
loop-i-preserved c = (c.in_ok-add_transaction.ensures, next_random c.loop-i.x c.random_after-x.result c.loop-i.i c.loop-i.invariant.1 c.random_after-x.ensures)
