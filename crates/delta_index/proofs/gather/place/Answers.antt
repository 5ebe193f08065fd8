use Rattle.std.proofs.Common.{rules, ◌≡◌, ℤ, SFits, w64, subst}
use Rattle.std.proofs.lemmas.Int.{to_z-of_z}
use Rattle.std.specs.BTreeMap.{insert_entry}
use Rattle.column_block.specs.Order.{key_cmp}
use Rattle.delta_index.proofs.gather.place.Goals as goal

pub returns-in-Ok : goal.returns-in-Ok
returns-in-Ok c =
    let fits : SFits w64 c.args.version.now.handle = search rules in
    subst (λ (handle : ℤ). c.insert.new.self.entries ≡ insert_entry key_cmp c.args.found.now.entries (handle, c.args.version.now.ts) c.args.at) (to_z-of_z w64 c.args.version.now.handle fits) c.in-Ok.ensures.entries
