use Rattle.committed_log.proofs.tables.admit_write.Given as goal

abbrev pub ghost-admit_list : goal.ghost-admit_list
ghost-admit_list g a = g.store

abbrev pub ghost-enter : goal.ghost-enter
ghost-enter g a = g.store
