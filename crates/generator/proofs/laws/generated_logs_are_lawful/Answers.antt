use Rattle.generator.proofs.GeneratedLogs.{generated_lawful}
use Rattle.generator.proofs.laws.generated_logs_are_lawful.Goals as goal

pub returns : goal.returns
returns c = generated_lawful
