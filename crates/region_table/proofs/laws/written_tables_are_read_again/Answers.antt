use Rattle.region_table.proofs.TableAgain.{table_again}
use Rattle.region_table.proofs.laws.written_tables_are_read_again.Goals as goal

pub returns : goal.returns
returns c = table_again
