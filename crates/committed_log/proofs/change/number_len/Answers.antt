use Rattle.std.proofs.Common.{◌∙◌, sym}
use Rattle.committed_log.proofs.Shorts.{place_found, place_absent}
use Rattle.committed_log.proofs.change.number_len.Goals as goal

pub returns-in-Some-clause-size : goal.returns-in-Some-clause-size
returns-in-Some-clause-size c = place_found c.args.bytes.now c.in-Some.place (sym c.last_of_number.ensures.place ∙ c.in-Some.is)

pub returns-in-None-clause-size : goal.returns-in-None-clause-size
returns-in-None-clause-size c = place_absent c.args.bytes.now (sym c.last_of_number.ensures.place ∙ c.in-None.is)
