use Rattle.std.proofs.Common.{subst, sym}
use Rattle.std.specs.List.{AllByRecursion}
use Rattle.delta_layer.specs.declared.view.SegmentView.{SegmentView}
use Rattle.learner_read.specs.Packs.{packs_in}
use Rattle.segment_snapshot.specs.Rights.{TellColumns}
use Rattle.segment_snapshot.proofs.Needed.{each_piece}
use Rattle.segment_snapshot.proofs.Widths.{bound_told, none_told}
use Rattle.segment_snapshot.proofs.laws.columns_tell_a_bound.Goals as goal

pub returns-clause-none : goal.returns-clause-none
returns-clause-none g c = none_told

pub returns-clause-some : goal.returns-clause-some
returns-clause-some g c = λ bound columns pieces less all. bound_told bound columns pieces less all

pub returns-clause-shared : goal.returns-clause-shared
returns-clause-shared g c = λ clip cuts columns slots all pieces are. subst (AllByRecursion (λ (piece : SegmentView g.row.G.Denot). TellColumns columns (packs_in piece.stable))) (sym are) (each_piece clip cuts (λ (piece : SegmentView g.row.G.Denot). TellColumns columns (packs_in piece.stable)) slots all)
