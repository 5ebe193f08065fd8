-- The examples of several regions, computed.
use Rattle.std.specs.Prelude.{◌≡◌, true, refl}
use Rattle.std.proofs.Common.{arith}
use Rattle.committed_log.specs.Lawful.{IsLawful}
use Rattle.row_store.proofs.Fits.{all_fit, all-true}
use Rattle.row_store.proofs.OneRegion.{is_schema}
use Rattle.row_store.specs.Readers.{readers}
use Rattle.row_store.specs.Logs.{log_of}
use Rattle.row_store.specs.ManyRegions.{split_at_100, two_merged, installed, generated, generated_entries, SplitsRaiseEpochs, MergesJoin, InstallsBeginAnew, GeneratedIsShown}

split_fits : all_fit split_at_100 ≡ true
unfolding readers
split_fits = refl

split_lawful : IsLawful (log_of split_at_100)
split_lawful = record { schema = is_schema; writable = all-true split_at_100 split_fits; admitted = (refl, (refl, tt)) }

pub splits_raise_epochs : SplitsRaiseEpochs
splits_raise_epochs = record { lawful = split_lawful; parent = refl; unborn = refl; child = refl }

merged_fits : all_fit two_merged ≡ true
unfolding readers
merged_fits = refl

merged_lawful : IsLawful (log_of two_merged)
unfolding readers
merged_lawful = record { schema = is_schema; writable = all-true two_merged merged_fits; admitted = (refl, (refl, (refl, (refl, (refl, tt))))) }

pub merges_join : MergesJoin
unfolding readers
merges_join = record { lawful = merged_lawful; early = refl; source = refl; ready = refl; next = refl; prepared = refl; target = refl; gone = refl; again = refl }

installed_fits : all_fit installed ≡ true
unfolding readers
installed_fits = refl

installed_lawful : IsLawful (log_of installed)
unfolding readers
installed_lawful = record { schema = is_schema; writable = all-true installed installed_fits; admitted = (refl, (refl, (refl, (refl, tt)))) }

pub installs_begin_anew : InstallsBeginAnew
unfolding readers
installs_begin_anew = record { lawful = installed_lawful; rows = (refl, refl, refl); removed = refl }

generated_fits : all_fit generated_entries ≡ true
unfolding readers
generated_fits = refl

generated_lawful : IsLawful generated
unfolding readers
generated_lawful = record {
  schema = record { rises = refl; few = omega arith };
  writable = all-true generated_entries generated_fits;
  admitted = (refl, (refl, (refl, (refl, (refl, (refl, (refl, (refl, (refl, (refl, (refl, (refl, tt))))))))))));
}

pub generated_is_shown : GeneratedIsShown
unfolding readers
generated_is_shown = record { lawful = generated_lawful; text = refl; last = refl; locked = refl; read = (refl, refl, refl) }
