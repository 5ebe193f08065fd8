-- The laws with a premise left out, computed.
use Rattle.std.proofs.Common.{refl}
use Rattle.row_store.specs.Readers.{readers}
use Rattle.good_examples.specs.Weakened.{FrontsNeedTheMark, CollectionsNeedTheSafePoint, LoneDeletesNeedNoneOlder, MergesNeedOrder, MergesNeedClipping, ChecksNeedTheirHandles}
use Rattle.good_examples.proofs.Computed.{wrong_replicas_are_refused}

pub fronts_need_the_mark : FrontsNeedTheMark
unfolding readers
fronts_need_the_mark = record { at_2 = refl; at_1 = refl; marked = refl }

pub collections_need_the_safe_point : CollectionsNeedTheSafePoint
unfolding readers
collections_need_the_safe_point = record { before = refl; at_20 = refl; later = refl }

pub lone_deletes_need_none_older : LoneDeletesNeedNoneOlder
unfolding readers
lone_deletes_need_none_older = record { before = refl; left = refl }

pub merges_need_order : MergesNeedOrder
unfolding readers
merges_need_order = record { real = refl; kept = refl; unordered = refl; merged = refl }

pub merges_need_clipping : MergesNeedClipping
unfolding readers
merges_need_clipping = record { halves_are_good = refl; clipped = refl; unclipped = refl }

pub checks_need_their_handles : ChecksNeedTheirHandles
unfolding readers
checks_need_their_handles = record { unlisted = refl; lists_nothing = refl; wrong = wrong_replicas_are_refused.dropped.wrong }
