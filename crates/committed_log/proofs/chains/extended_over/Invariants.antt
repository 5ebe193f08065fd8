use Rattle.std.proofs.Common.{◌≡◌, fold, take}
use Rattle.committed_log.specs.Digest.{extended_by}
use Rattle.committed_log.proofs.chains.extended_over.Given as goal

abbrev pub invariant-loop-k : goal.invariant-loop-k
invariant-loop-k l = l.digest ≡ fold extended_by l.fn.first (take l.k l.entries)
