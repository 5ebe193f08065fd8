-- The empty log, and records that commit nothing, computed.
use Rattle.std.specs.Prelude.{◌≡◌, true, refl}
use Rattle.committed_log.specs.Lawful.{IsLawful}
use Rattle.kv_codec.specs.declared.records.WriteKind.TheVariants as record_kind
use Rattle.row_store.proofs.Fits.{all_fit, all-true}
use Rattle.row_store.proofs.OneRegion.{is_schema}
use Rattle.row_store.specs.Readers.{readers}
use Rattle.row_store.specs.Logs.{log_of}
use Rattle.row_store.specs.Records.{put_then, EmptyLogHasNothing, OtherRecordsCommitNothing}

pub empty_log_has_nothing : EmptyLogHasNothing
unfolding readers
empty_log_has_nothing = record { lawful = record { schema = is_schema; writable = tt; admitted = tt }; store = refl; region = refl; next = refl; asked = refl; rows = refl; opened = refl; written = refl }

lock_fits : all_fit (put_then record_kind.Lock) ≡ true
unfolding readers
lock_fits = refl

lock_lawful : IsLawful (log_of (put_then record_kind.Lock))
unfolding readers
lock_lawful = record { schema = is_schema; writable = all-true (put_then record_kind.Lock) lock_fits; admitted = (refl, (refl, (refl, tt))) }

rollback_fits : all_fit (put_then record_kind.Rollback) ≡ true
unfolding readers
rollback_fits = refl

rollback_lawful : IsLawful (log_of (put_then record_kind.Rollback))
unfolding readers
rollback_lawful = record { schema = is_schema; writable = all-true (put_then record_kind.Rollback) rollback_fits; admitted = (refl, (refl, (refl, tt))) }

pub other_records_commit_nothing : OtherRecordsCommitNothing
unfolding readers
other_records_commit_nothing = record { lock_is_lawful = lock_lawful; rollback_is_lawful = rollback_lawful; after_lock = refl; after_rollback = refl; later = refl; backdated = refl }
