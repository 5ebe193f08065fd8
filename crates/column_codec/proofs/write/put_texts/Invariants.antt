use Rattle.std.proofs.Common.{drop}
use Rattle.column_codec.specs.Lists.{given}
use Rattle.column_codec.specs.Spelling as spelling
use Rattle.column_codec.proofs.WriteSteps.{Written}
use Rattle.column_codec.proofs.write.put_texts.Given as goal

abbrev pub invariant-loop-i : goal.invariant-loop-i
invariant-loop-i l = Written l.initial.into.items l.into.items (spelling.each spelling.text (λ _. tt {0}) (tt {0}) (given (drop l.i l.texts))) (spelling.each spelling.text (λ _. tt {0}) (tt {0}) (given l.texts))
