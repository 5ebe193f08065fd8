use Rattle.std.proofs.Common.{◌≡◌, ◌++◌, take}
use Rattle.row_codec.specs.Numbers.{bytes_each}
use Rattle.row_codec.specs.Writing.{packed, keys_of}
use Rattle.row_codec.proofs.write.push_keys.Given as goal

abbrev pub invariant-loop-field : goal.invariant-loop-field
invariant-loop-field l = l.into.items ≡ l.fn.into.items ++ packed (bytes_each l.width) (keys_of (take l.field-index l.fields))
