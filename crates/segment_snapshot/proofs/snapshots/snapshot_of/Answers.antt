use Rattle.std.proofs.Common.{◌∙◌, List, map, subst, sym}
use Rattle.flash_types.specs.Ranges.{least_handle}
use Rattle.good_replica.specs.Good.{CoversFrom}
use Rattle.learner_read.specs.Pieces.{PiecesRise}
use Rattle.segment_list.specs.Lists.{range_alone}
use Rattle.segment_list.specs.Slots.{Slotted}
use Rattle.segment_snapshot.specs.Views.{needed_views}
use Rattle.segment_snapshot.proofs.Rising.{rise}
use Rattle.segment_snapshot.proofs.snapshots.snapshot_of.Goals as goal

pub new-requires-clause-rise : goal.new-requires-clause-rise
new-requires-clause-rise g c =
    let cover : CoversFrom least_handle (map range_alone c.slots.result.now) = subst (λ (slots : List (Slotted g.row.G.Denot)). CoversFrom least_handle (map range_alone slots)) (sym {b = c.args.list.now} c.slots.ensures) c.covers.ensures in
    subst PiecesRise (sym c.in_ok-pieces.ensures.views) (rise c.args.clip c.as_slice.result.now least_handle c.slots.result.now cover)
