use Rattle.committed_log.proofs.tables.admit_remove.Given as goal

abbrev pub ghost-enter : goal.ghost-enter
ghost-enter g a = g.store

abbrev pub ghost-clear_range : goal.ghost-clear_range
ghost-clear_range g a = g.store
