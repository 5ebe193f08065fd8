use Rattle.std.proofs.Common.{SFits, w64, rules}
use Rattle.std.proofs.lemmas.Int.{to_z-of_z}
use Rattle.log_rows.proofs.Knowing.{holds_dropped}
use Rattle.log_rows.proofs.fold.Fold.change.Goals as goal

pub returns-in-DropValue-clause-holds : goal.returns-in-DropValue-clause-holds
returns-in-DropValue-clause-holds c = λ p s holds.
    let fits : SFits w64 c.in-DropValue.handle = search rules in
    let drop = simp to_z-of_z at c.remove.ensures.entries in
    rw c.in-DropValue.is (holds_dropped c.args.self.now.ts p s c.args.self.now.values c.remove.new.self c.args.self.now.handles c.in-DropValue.handle c.in-DropValue.start holds drop)

pub returns-clause-holds : goal.returns-clause-holds
returns-clause-holds c =
    let fits : SFits w64 c.in-Write.handle = search rules in
    rw c.in-Write.is (simp to_z-of_z at c.commit.ensures.holds)
