use Rattle.opened_segments.proofs.Ends.{too_short}
use Rattle.opened_segments.proofs.tail.tail_of.Goals as goal

pub returns-then-len-lt12-clause-refused : goal.returns-then-len-lt12-clause-refused
returns-then-len-lt12-clause-refused g c = λ tells. too_short (g.D.Disk.files c.args.disk.now) c.args.file c.args.len c.if-len-lt12.true
