use Rattle.good_replica.proofs.Installs.{merged_left, merged_right}
use Rattle.good_replica.proofs.laws.files.merged_segments_join.Goals as goal

pub returns-clause-first : goal.returns-clause-first
returns-clause-first c = λ log lawful h f m safe range both stable new taken rest others none same good. merged_left log lawful h f m safe range both stable new taken rest others none same good

pub returns-clause-second : goal.returns-clause-second
returns-clause-second c = λ log lawful h f m safe range both stable new taken rest others none same good. merged_right log lawful h f m safe range both stable new taken rest others none same good
