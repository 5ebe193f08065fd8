use Rattle.committed_log.specs.Store.{cleared}
use Rattle.committed_log.proofs.tables.admit_install.Given as goal

abbrev pub ghost-admit_write : goal.ghost-admit_write
ghost-admit_write g a = cleared a.range g.store
