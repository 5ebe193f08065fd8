-- What a read answers.
use Rattle.std.specs.Prelude.{◌≡◌, Option, Some, None}
use Rattle.committed_log.specs.Replies.{AreCuts, refused}
use Rattle.flash_types.specs.Asks.{Asked}
use Rattle.flash_types.specs.declared.refusal.Refusal.{Refusal}
use Rattle.learner_read.specs.declared.snapshot.Snapshot.{Snapshot}
use Rattle.segment_snapshot.specs.Views.{IsSnapshotOf}
use Rattle.replica_state.specs.Core.{Core, full}
use Rattle.replica_state.specs.declared.asks.ReadRefusal.{ReadRefusal}
use Rattle.replica_state.specs.declared.asks.ReadRefusal.TheVariants.{Refused, Memory}

module _ {G : Type 0} where
  -- why a read is refused in a state, if it is
  abbrev pub refused_in : Core G → Asked → Option Refusal
  refused_in s ask = refused s.log ask (full s) s.numbers.safe_point s.numbers.mark

  -- Why it isn't answered: it is refused, or memory ran out where it isn't.
  abbrev pub IsReadCause : Core G → Asked → ReadRefusal → Type 0
  IsReadCause s ask (Refused why) = refused_in s ask ≡ Some why
  IsReadCause s ask Memory = refused_in s ask ≡ None

  -- The read isn't refused, and the snapshot is what it sees: the cuts of its regions, and the views of the segments that it needs.
  pub record IsReadOf (s : Core G) (ask : Asked) (snapshot : Snapshot G) : Type 0 where
    pub granted : refused_in s ask ≡ None
    pub cuts : AreCuts s.log (full s) ask.regions snapshot.cuts
    pub is : IsSnapshotOf s.slots ask.ts ask.clip snapshot.cuts s.count s.numbers.generation s.settings.pack_rows snapshot
