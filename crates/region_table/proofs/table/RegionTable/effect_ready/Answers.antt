use Rattle.std.proofs.Common.{◌≡◌, ◌∙◌, refl, sym, subst}
use Rattle.good_replica.specs.Effect.{added, clearing}
use Rattle.region_table.specs.Effects.{adds_of, clears_of}
use Rattle.region_table.specs.Table.{IsTableAt, kept_in}
use Rattle.region_table.proofs.Effected.{adds_is, clears_is}
use Rattle.region_table.proofs.Parsed.{entry_of, moved}
use Rattle.region_table.proofs.table.RegionTable.effect_ready.Goals as goal

pub returns-in-Ok-clause-effect : goal.returns-in-Ok-clause-effect
returns-in-Ok-clause-effect c =
    let log = c.args.logs.now in
    let x = c.args.parsed.now in
    let p = c.args.parsed.now.position in
    let e = entry_of log x c.requires.parsed in
    let A = c.requires.agrees.0 in
    let at = subst (IsTableAt log A) (sym c.self.view_is) c.requires.agrees.1 in
    let ready = c.requires.ready A c.requires.agrees.1 in
    record {
      region = refl;
      index = refl;
      clears = c.clears_of-clears.ensures ∙ moved log x e.0 e.1 (λ r i command. clears_of (kept_in c.self.inside.regions.entries r) command ≡ clearing log p) (clears_is log c.told_lawful.ensures A at.closed p e.0 e.1.here ready (kept_in c.self.inside.regions.entries) at.regions);
      adds = c.in-Ok.ensures ∙ (λ i. adds_of (c.schema.ensures i) (kept_in c.self.inside.regions.entries c.args.parsed.now.region) c.args.parsed.now.index c.args.parsed.now.command)
          ∙ moved log x e.0 e.1 (λ r i command. adds_of log.schema (kept_in c.self.inside.regions.entries r) i command ≡ added log p) (adds_is log c.told_lawful.ensures A at.closed p e.0 e.1.here ready (kept_in c.self.inside.regions.entries) at.regions);
    }
