use Rattle.generator.proofs.GeneratedLogs.{pushed_lawful}
use Rattle.generator.proofs.laws.admitted_entries_extend.Goals as goal

pub returns : goal.returns
returns c = pushed_lawful
