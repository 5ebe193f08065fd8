use Rattle.std.proofs.Common.{ℕ, List, ◌<◌, ◌≤◌, ◌+◌, length, get_or, sym, ap, ◌∙◌, arith}
use Rattle.std.proofs.Math.Nat.{mul-le-mul_left}
use Rattle.row_codec.specs.Numbers.{bytes_each}
use Rattle.row_codec.proofs.Lists.{numbers_count, get_or-numbers}
use Rattle.row_codec.proofs.numbers.Numbers.at.Goals as goal

pub number_at-requires : goal.number_at-requires
number_at-requires c =
    let lt : c.args.k + 1 ≤ c.self.inside.count = omega (arith, c.requires, numbers_count (bytes_each c.self.inside.width) c.self.inside.count c.self.inside.bytes.now, ap length c.self.view_is) in
    omega (arith, c.self.invariant, mul-le-mul_left (bytes_each c.self.inside.width) lt)

pub returns : goal.returns
returns c =
    let lt : c.args.k < c.self.inside.count = omega (arith, c.requires, numbers_count (bytes_each c.self.inside.width) c.self.inside.count c.self.inside.bytes.now, ap length c.self.view_is) in
    c.number_at.ensures ∙ sym (get_or-numbers (bytes_each c.self.inside.width) c.self.inside.count c.self.inside.bytes.now c.args.k lt) ∙ ap (λ (xs : List ℕ). get_or xs c.args.k 0) c.self.view_is
