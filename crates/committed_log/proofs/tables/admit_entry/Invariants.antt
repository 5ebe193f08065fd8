use Rattle.committed_log.proofs.tables.admit_entry.Given as goal

abbrev pub ghost-admit_write : goal.ghost-admit_write
ghost-admit_write g a = g.store

abbrev pub ghost-admit_install : goal.ghost-admit_install
ghost-admit_install g a = g.store

abbrev pub ghost-admit_remove : goal.ghost-admit_remove
ghost-admit_remove g a = g.store

abbrev pub ghost-enter : goal.ghost-enter
ghost-enter g a = g.store
