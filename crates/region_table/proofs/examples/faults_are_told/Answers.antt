use Rattle.std.proofs.Common.{refl}
use Rattle.region_table.proofs.examples.faults_are_told.Goals as goal

pub returns : goal.returns
returns c = record {
  admitted = (refl, (refl, (refl, (refl, tt))));
  done = refl;
  gone = refl;
  unborn = refl;
  unprepared = refl;
  second = refl;
  ready = refl;
}
