use Rattle.std.proofs.Common.{List, ℕ, [], ◌∷◌, ◌++◌, sym, ap, ◌∙◌, subst}
use Rattle.row_codec.specs.Writing.{IsWritable}
use Rattle.row_codec.proofs.Writing.{writable_field}
use Rattle.row_codec.proofs.write.RowWriter.field.Goals as goal

pub invariant_of-self-2 : goal.invariant_of-self-2
invariant_of-self-2 c =
    let added = c.in-Ok-push.ensures.items ∙ ap (λ (bytes : List ℕ). c.self.inside.fields.items ++ (c.args.id, bytes) ∷ []) c.in-Ok.ensures in
    subst (λ (fields : List (ℕ × List ℕ)). IsWritable (fields, c.self.inside.nulls.items)) (sym added) (writable_field c.self.inside.fields.items c.self.inside.nulls.items c.args.self.now c.args.id c.self.view_is c.self.invariant c.requires.above c.requires.room c.args.value.now c.requires.bytes)
