use Rattle.std.proofs.Common.{sym, subst}
use Rattle.stable_file.specs.declared.file.Parts.{Parts}
use Rattle.stable_file.specs.Opened.{ArePacks}
use Rattle.stable_file.proofs.ToldPacks.{pack_is}
use Rattle.stable_file.proofs.file.StableFile.place.Goals as goal

pub returns-clause-reach : goal.returns-clause-reach
returns-clause-reach g c = (pack_is c.deref.result.now.packs c.args.k c.at-pack.result.now (subst (λ (parts : Parts g.row.G.Denot). ArePacks parts.packs) (sym c.deref.ensures) c.self.invariant) c.at-pack.ensures).reach
