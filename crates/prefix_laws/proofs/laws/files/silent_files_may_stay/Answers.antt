use Rattle.prefix_laws.proofs.Tagging.{says_stay, silent_stay}
use Rattle.prefix_laws.proofs.laws.files.silent_files_may_stay.Goals as goal

pub returns-clause-tagged : goal.returns-clause-tagged
returns-clause-tagged c = λ stays all h files k. says_stay stays all h k files

pub returns-clause-plain : goal.returns-clause-plain
returns-clause-plain c = λ stays all h files. silent_stay stays all h files
