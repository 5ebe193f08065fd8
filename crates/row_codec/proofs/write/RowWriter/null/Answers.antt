use Rattle.std.proofs.Common.{List, ℕ, sym, subst}
use Rattle.row_codec.specs.Writing.{IsWritable}
use Rattle.row_codec.proofs.Writing.{writable_null}
use Rattle.row_codec.proofs.write.RowWriter.null.Goals as goal

pub invariant_of-self-2 : goal.invariant_of-self-2
invariant_of-self-2 c =
    subst (λ (nulls : List ℕ). IsWritable (c.self.inside.fields.items, nulls)) (sym c.in-Ok.ensures.items) (writable_null c.self.inside.fields.items c.self.inside.nulls.items c.args.self.now c.args.id c.self.view_is c.self.invariant c.requires.above c.requires.room)
