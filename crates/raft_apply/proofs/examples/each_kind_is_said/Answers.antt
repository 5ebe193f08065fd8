use Rattle.std.proofs.Common.{refl}
use Rattle.raft_apply.proofs.examples.each_kind_is_said.Goals as goal

pub returns : goal.returns
returns c = record {
  opens = refl;
  write = refl;
  split = refl;
  prepare = refl;
  commit = refl;
  empty = refl;
  remove = refl;
  install = refl;
  none = refl;
}
