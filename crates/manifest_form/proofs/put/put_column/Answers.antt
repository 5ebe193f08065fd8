use Rattle.std.proofs.Common.{[], ◌∷◌}
use Rattle.std.specs.Int.{w32, to_be_bytes}
use Rattle.manifest_form.specs.Spelling as spelling
use Rattle.flash_put.proofs.Appending.{more}
use Rattle.manifest_form.proofs.put.put_column.Goals as goal

pub returns-clause-bytes : goal.returns-clause-bytes
unfolding spelling.column
returns-clause-bytes c = more c.put_u8.result c.args.into.now.items (to_be_bytes w32 c.args.id) (spelling.kind c.args.kind ∷ []) c.put_u32.new.into.items c.put_u8.new.into.items c.in_ok-put_u32.ensures (rw (← c.kind_byte.ensures) c.put_u8.ensures)
