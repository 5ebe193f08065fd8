use Rattle.std.proofs.Common.{◌≡◌, ℕ, List, Option, take, drop}
use Rattle.column_block.specs.declared.cell.Version.{Version}
use Rattle.learner_read.specs.Parts.{LeftIn}
use Rattle.learner_read.specs.Scans.{answers_of}
use Rattle.learner_read.proofs.scans.next_rows.Given as goal

abbrev pub invariant-loop-k : goal.invariant-loop-k
invariant-loop-k g l = record {
  exact : g.R.Grip.Gripped.tells → (rows : List Version) (damage : Option ℕ) → LeftIn g.R.Grip.Gripped.bytes l.snapshot (answers_of g.F.Fn l.sieve.test) l.sieve.bound l.left (drop l.k (take l.to l.snapshot.pieces)) rows damage → LeftIn g.R.Grip.Gripped.bytes l.snapshot (answers_of g.F.Fn l.sieve.test) l.sieve.bound l.fn.part (drop l.from (take l.to l.snapshot.pieces)) rows damage;
  quiet : g.R.Reader.fault_count l.reader ≡ g.R.Reader.fault_count l.fn.reader;
}
