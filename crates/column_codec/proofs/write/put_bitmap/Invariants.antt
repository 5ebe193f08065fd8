use Rattle.std.proofs.Common.{◌-◌}
use Rattle.column_codec.specs.Spelling as spelling
use Rattle.column_codec.proofs.WriteSteps.{Written}
use Rattle.column_codec.proofs.write.put_bitmap.Given as goal

abbrev pub invariant-loop-j : goal.invariant-loop-j
invariant-loop-j g l = Written l.initial.into.items l.into.items (spelling.bytes_from (spelling.are_null l.values) l.j (l.j-end - l.j)) (spelling.bytes_from (spelling.are_null l.values) 0 l.j-end)
