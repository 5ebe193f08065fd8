use Rattle.committed_log.specs.Store.{store_of}
use Rattle.committed_log.proofs.lookups.admit_fine.Given as goal

abbrev pub ghost-admit_entry : goal.ghost-admit_entry
ghost-admit_entry a = store_of a.table a.earlier.now
