use Rattle.std.proofs.Common.{SFits, w64, rules, subst, sym, refl}
use Rattle.flash_types.specs.declared.range.HandleRange.{HandleRange}
use Rattle.log_rows.specs.Folds.{Holds}
use Rattle.log_rows.proofs.Knowing.{ok_so, families_installed}
use Rattle.std.proofs.lemmas.Int.{to_z-of_z}
use Rattle.log_rows.proofs.fold.Fold.entry.Goals as goal

pub returns-in-Some-clause-holds : goal.returns-in-Some-clause-holds
returns-in-Some-clause-holds c =
    let table : SFits w64 c.args.table = search rules in
    rw (c.in-Write.is, c.in-Some.is, ← c.as_slice.ensures) (simp to_z-of_z at c.ops.ensures.holds)

pub returns-in-Install-clause-holds : goal.returns-in-Install-clause-holds
returns-in-Install-clause-holds c =
    let table : SFits w64 c.args.table = search rules in
    let low : SFits w64 c.in-Install.low = search rules in
    let install = c.in-Install in
    let range : HandleRange = record { low = install.low; high = install.high } in
    let done = simp to_z-of_z at c.install.ensures.holds in
    rw c.in-Install.is
    (ok_so c.install.result (λ run p s holds. subst (λ t. Holds t c.args.self.now.ts c.install.new.self.values c.install.new.self.handles) (sym (families_installed c.args.table p c.args.range install.conf_ver install.version install.low install.high install.ops s range refl)) (run p s holds)) (simp c.as_slice-in-Install.ensures at done))
