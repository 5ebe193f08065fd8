use Rattle.std.proofs.Common.{drop}
use Rattle.column_codec.specs.Lists.{given}
use Rattle.column_codec.specs.Spelling as spelling
use Rattle.column_codec.proofs.WriteSteps.{Written}
use Rattle.column_codec.proofs.write.put_uints.Given as goal

abbrev pub invariant-loop-value : goal.invariant-loop-value
invariant-loop-value l = Written l.initial.into.items l.into.items (spelling.each spelling.uint (λ n. n) l.before (given (drop l.value-index l.values))) (spelling.each spelling.uint (λ n. n) 0 (given l.values))
