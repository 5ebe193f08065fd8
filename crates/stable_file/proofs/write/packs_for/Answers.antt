use Rattle.stable_file.proofs.BuildSteps.{last_reach}
use Rattle.stable_file.proofs.write.packs_for.Goals as goal

pub returns-clause-reach : goal.returns-clause-reach
returns-clause-reach c = last_reach c.args.versions c.args.rows c.requires.some
