use Rattle.std.proofs.Common.{◌≡◌, ◌++◌, take}
use Rattle.row_codec.specs.Numbers.{bytes_each}
use Rattle.row_codec.specs.Writing.{packed}
use Rattle.row_codec.proofs.write.push_nulls.Given as goal

abbrev pub invariant-loop-id : goal.invariant-loop-id
invariant-loop-id l = l.into.items ≡ l.fn.into.items ++ packed (bytes_each l.width) (take l.id-index l.nulls)
