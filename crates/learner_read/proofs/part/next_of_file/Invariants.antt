use Rattle.std.proofs.Common.{◌≡◌}
use Rattle.stable_file.specs.Opened.{packs_of}
use Rattle.learner_read.specs.Parts.{LeftOf}
use Rattle.learner_read.specs.Scans.{answers_of}
use Rattle.learner_read.proofs.Going.{LeadsTo, LeftFrom}
use Rattle.learner_read.proofs.part.next_of_file.Given as goal

abbrev pub invariant-loop-k : goal.invariant-loop-k
invariant-loop-k g l = record {
  exact : g.R.Grip.Gripped.tells → LeadsTo g.R.Grip.Gripped.bytes l.snapshot (answers_of g.F.Fn l.sieve.test) l.sieve.bound l.piece (LeftOf g.R.Grip.Gripped.bytes l.snapshot (answers_of g.F.Fn l.sieve.test) l.sieve.bound l.piece l.fn.part) (LeftFrom g.R.Grip.Gripped.bytes l.snapshot (answers_of g.F.Fn l.sieve.test) l.sieve.bound l.piece (packs_of l.file) l.left l.k);
  quiet : g.R.Reader.fault_count l.reader ≡ g.R.Reader.fault_count l.fn.reader;
}
