use Rattle.format_examples.proofs.Lists.{written, read}
use Rattle.format_examples.proofs.lists_in_bytes.Goals as goal

pub returns-clause-written : goal.returns-clause-written
returns-clause-written c = written

pub returns-clause-read : goal.returns-clause-read
returns-clause-read c = read
