use Rattle.std.proofs.Common.{sym, subst, ◌++◌}
use Rattle.good_replica.specs.Changed.{of_parts}
use Rattle.good_replica.specs.Good.{IsGoodSegment}
use Rattle.prefix_laws.proofs.Replica.{first_files}
use Rattle.segment_laws.proofs.Packs.{repacked_good}
use Rattle.segment_laws.proofs.laws.files.repacked_files_keep_counts.Goals as goal

pub returns : goal.returns
returns c = λ log lawful S m safe from last range stable old new more layer renewed by_old by_new are is came. first_files log lawful S m safe from last range stable old new more by_old by_new
    (λ k others good. subst (λ fs. IsGoodSegment log (S k) m safe (of_parts range stable (fs ++ others))) (sym is) (repacked_good log (S k) m safe range stable others came (subst (λ fs. IsGoodSegment log (S k) m safe (of_parts range stable (fs ++ others))) are good)))
