use Rattle.std.proofs.Common.{◌∙◌, sym}
use Rattle.region_table.proofs.Sets.{of_table, tells}
use Rattle.region_table.proofs.laws.tables_tell_their_set.Goals as goal

pub returns-clause-told : goal.returns-clause-told
returns-clause-told c = λ log lawful A regions is p. tells log lawful A regions is p

pub returns-clause-one : goal.returns-clause-one
returns-clause-one c = λ log lawful t A B a b p. tells log lawful A t.regions (of_table log A t a) p ∙ sym (tells log lawful B t.regions (of_table log B t b) p)
