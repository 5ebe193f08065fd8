use Rattle.std.proofs.Common.{rules}
use Rattle.manifest_form.proofs.Growth.{below_last}
use Rattle.manifest_form.proofs.tops.tops_below.Goals as goal

pub returns-in-Some : goal.returns-in-Some
returns-in-Some c = λ less q there. below_last c.in-Some.last.now q c.args.next (c.in-Some.ensures.greatest q there) (search rules)
