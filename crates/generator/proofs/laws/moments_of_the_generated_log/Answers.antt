use Rattle.generator.proofs.GeneratedLogs.{is_begun}
use Rattle.generator.proofs.laws.moments_of_the_generated_log.Goals as goal

pub returns : goal.returns
returns c = λ n room. let b = is_begun n room in (b.lawful, b.moment)
