-- The examples, computed.
use Rattle.std.proofs.Common.{refl}
use Rattle.row_store.specs.Readers.{readers}
use Rattle.prefix_examples.specs.Examples.{CutAppliesAreGood, FlushesNeedSetsThatGrow, FlushesNeedTheMark, MergesNeedClipping, NamedRangesNeedTheMark}

pub flushes : FlushesNeedTheMark
unfolding readers
flushes = record { before_0 = refl; before_1 = refl; unraised = refl; raised = refl }

pub ranges : NamedRangesNeedTheMark
unfolding readers
ranges = record { before_0 = refl; before_1 = refl; unraised = refl; raised = refl }

pub sets : FlushesNeedSetsThatGrow
unfolding readers
sets = record { before_0 = refl; before_1 = refl; at_1 = refl; at_0 = refl }

pub clips : MergesNeedClipping
unfolding readers
clips = record { clipped = refl; unclipped = refl }

pub cuts : CutAppliesAreGood
unfolding readers
cuts = record { old_0 = refl; old_1 = refl; old_2 = refl; new_0 = refl; new_1 = refl; new_2 = refl }
