-- The log with no entries, and the kinds of records that change nothing or are in nobody's way.
use Rattle.std.specs.Prelude.{◌≡◌, ℕ, pos, false, ◌-◌, Some, None, List, [], ◌∷◌}
use Rattle.flash_types.specs.declared.refusal.Refusal.TheVariants as refusal
use Rattle.flash_types.specs.declared.refusal.Wants.TheVariants as wants
use Rattle.kv_codec.specs.Spelling.{write}
use Rattle.kv_codec.specs.declared.records.WriteKind.{WriteKind}
use Rattle.kv_codec.specs.declared.records.WriteKind.TheVariants as record_kind
use Rattle.log_codec.specs.declared.entry.Entry.{Entry}
use Rattle.committed_log.specs.Applied.{applied, next}
use Rattle.committed_log.specs.Lawful.{IsLawful, fault}
use Rattle.committed_log.specs.Log.{end}
use Rattle.committed_log.specs.Reads.{rows, rows_at_end}
use Rattle.committed_log.specs.Replies.{refused}
use Rattle.committed_log.specs.Store.{empty}
use Rattle.committed_log.specs.declared.region.Region.TheVariants.{Unborn}
use Rattle.committed_log.specs.declared.unlawful.RegionState.TheVariants as state
use Rattle.committed_log.specs.declared.unlawful.Unlawful.TheVariants as unlawful
use Rattle.row_store.specs.Logs.{log_of, open_all, writes, put_at, put_in, five_ab, five_ab_at, cut_1, ask_1, everything, first}

-- in the log with no entries no region is born, and the first entry makes its region
pub record EmptyLogHasNothing : Type 0 where
  pub lawful : IsLawful (log_of [])
  pub store : end (log_of []) ≡ empty
  pub region : applied (log_of []) (first 0) 1 ≡ Unborn
  pub next : next (log_of []) (first 0) 1 ≡ None
  pub asked : refused (log_of []) (ask_1 1 5) (first 0) 0 0 ≡ Some (refusal.NotYet 1 None (wants.Index 5))
  pub rows : rows_at_end (log_of []) 100 ≡ []
  pub opened : fault (log_of []) open_all ≡ None
  pub written : fault (log_of []) (writes 6 (put_at (pos 5) 10 five_ab)) ≡ Some (unlawful.Region 1 state.Unborn)

-- a put at 10, and then a record of another kind at 20
abbrev pub put_then : WriteKind → List Entry
put_then kind = open_all ∷ writes 6 (put_at (pos 5) 10 five_ab) ∷ writes 7 (put_in (pos 1) (pos 5) 20 (write (record { kind = kind; start = 17; short = None }))) ∷ []

-- A lock record and a rollback record in the write family commit nothing: the row is shown as before, and a put at 15 isn't backdated by them. (Refused: that one at 10 is later than the last commit.)
pub record OtherRecordsCommitNothing : Type 0 where
  pub lock_is_lawful : IsLawful (log_of (put_then record_kind.Lock))
  pub rollback_is_lawful : IsLawful (log_of (put_then record_kind.Rollback))
  pub after_lock : rows (log_of (put_then record_kind.Lock)) (cut_1 7) 20 everything ≡ five_ab_at (pos 5) ∷ []
  pub after_rollback : rows (log_of (put_then record_kind.Rollback)) (cut_1 7) 20 everything ≡ five_ab_at (pos 5) ∷ []
  pub later : fault (log_of (put_then record_kind.Rollback)) (writes 8 (put_at (pos 5) 15 five_ab)) ≡ None
  pub backdated : fault (log_of (put_then record_kind.Rollback)) (writes 8 (put_at (pos 5) 9 five_ab)) ≡ Some (unlawful.Backdated 0 10)
