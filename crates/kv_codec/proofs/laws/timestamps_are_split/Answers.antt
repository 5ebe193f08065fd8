use Rattle.kv_codec.proofs.Agree.{timestamps_split}
use Rattle.kv_codec.proofs.laws.timestamps_are_split.Goals as goal

pub returns : goal.returns
returns c = timestamps_split
