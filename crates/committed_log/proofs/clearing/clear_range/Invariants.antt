use Rattle.committed_log.proofs.clearing.clear_range.Given as goal

abbrev pub ghost-clear_values : goal.ghost-clear_values
ghost-clear_values g a = g.store

abbrev pub ghost-clear_last : goal.ghost-clear_last
ghost-clear_last g a = g.store
