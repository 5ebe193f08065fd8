use Rattle.std.proofs.Common.{drop, slice_range}
use Rattle.std.specs.List.{AllByRecursion}
use Rattle.column_codec.proofs.WriteSteps.{Written}
use Rattle.pack_codec.specs.Spelling.{ListFits, columns_of}
use Rattle.pack_codec.proofs.ColumnSteps.{left}
use Rattle.pack_codec.proofs.write.put_columns.Given as goal

abbrev pub invariant-loop-k : goal.invariant-loop-k
invariant-loop-k l = record {
  bytes : Written l.initial.into.items l.into.items (left l.columns l.k (slice_range l.block l.from l.to)) (left l.columns 0 (slice_range l.block l.from l.to));
  fits : AllByRecursion ListFits (columns_of (drop l.k l.columns) l.k (slice_range l.block l.from l.to)) → AllByRecursion ListFits (columns_of l.columns 0 (slice_range l.block l.from l.to));
}
