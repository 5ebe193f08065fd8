use Rattle.std.proofs.Common.{SFits, w64, rules}
use Rattle.std.proofs.lemmas.Int.{to_z-of_z}
use Rattle.log_rows.proofs.Clearing.{shorter}
use Rattle.log_rows.proofs.clear.drop_handle.Goals as goal

pub returns-clause-entries : goal.returns-clause-entries
returns-clause-entries c =
    let fits : SFits w64 c.args.handle = search rules in
    simp to_z-of_z at c.remove.ensures.entries

pub returns-clause-len : goal.returns-clause-len
returns-clause-len c = λ some.
    let fits : SFits w64 c.args.handle = search rules in
    let value = simp to_z-of_z at c.remove.ensures.value in
    shorter _ _ _ _ value c.remove.ensures.len some
