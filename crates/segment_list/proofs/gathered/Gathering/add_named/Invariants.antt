use Rattle.std.proofs.Common.{◌≡◌, ◌-◌, ◌++◌, take, drop}
use Rattle.segment_list.specs.Slots.{clip_files}
use Rattle.segment_list.proofs.gathered.Gathering.add_named.Given as goal

abbrev pub invariant-loop-k : goal.invariant-loop-k
invariant-loop-k l = l.self ≡ record l.fn.self { files = l.fn.self.files ++ clip_files l.range (take (l.k - l.from) (drop l.from l.layer)) }
