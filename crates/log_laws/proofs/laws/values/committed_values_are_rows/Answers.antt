use Rattle.log_laws.proofs.Committed.{committed_is_row}
use Rattle.log_laws.proofs.Fitting.{row_fits}
use Rattle.log_laws.proofs.laws.values.committed_values_are_rows.Goals as goal

pub returns-clause-row : goal.returns-clause-row
returns-clause-row c = committed_is_row

pub returns-clause-cells : goal.returns-clause-cells
returns-clause-cells c = λ log lawful p x there value is. row_fits log.schema value (committed_is_row log lawful p x there value is)
