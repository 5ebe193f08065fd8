use Rattle.std.proofs.Common.{rules, ◌≡◌, ◌∙◌, to_z, of_z, w64, subst}
use Rattle.flash_io.specs.Crash.{LeavesOnly}
use Rattle.manifest.specs.Made.{OldOrMade, new_store}
use Rattle.manifest_form.specs.declared.recover.Recovered.{Recovered}
use Rattle.store_image.proofs.Begun.{begun}
use Rattle.store_image.proofs.Keeping.{sound_made}
use Rattle.opened_store.proofs.Leaving.{made_keeps, unmade_sound}
use Rattle.opened_store.proofs.finding.made.Goals as goal

pub returns-in-Ok-clause-keeps : goal.returns-in-Ok-clause-keeps
returns-in-Ok-clause-keeps g c = λ tells.
    let d = g.D.Disk in
    let log = c.args.logs.now in
    let old = c.args.disk.now in
    let new = c.create.new.disk in
    let signed : to_z w64 (of_z w64 c.table.result) ≡ c.table.result = search rules in
    let is : new_store (to_z w64 (of_z w64 c.table.result)) c.schema.result.now c.chain.result ≡ begun log = λ i. new_store ((signed ∙ c.table.ensures) i) (c.schema.ensures i) (c.chain.ensures i) in
    made_keeps d log old new (c.requires.new tells)
    (λ sound. sound_made log c.in-Ok.manifest (d.files new) (d.may_leave new) (λ image left. g.met.D.Disk.leaves_files new (g.met.D.Disk.told new image left)) c.in-Ok.ensures.kept (c.in-Ok.ensures.made.has ∙ is))
    (λ free. subst (λ (has : Recovered). LeavesOnly d.moment d.left_since old new (OldOrMade (d.may_leave old) has)) is (c.in-Ok.ensures.any_moment free))

pub returns-in-Err-clause-keeps : goal.returns-in-Err-clause-keeps
returns-in-Err-clause-keeps g c = λ tells.
    let d = g.D.Disk in
    let log = c.args.logs.now in
    let old = c.args.disk.now in
    let new = c.create.new.disk in
    let signed : to_z w64 (of_z w64 c.table.result) ≡ c.table.result = search rules in
    let is : new_store (to_z w64 (of_z w64 c.table.result)) c.schema.result.now c.chain.result ≡ begun log = λ i. new_store ((signed ∙ c.table.ensures) i) (c.schema.ensures i) (c.chain.ensures i) in
    made_keeps d log old new (c.requires.new tells)
    (unmade_sound d log old new (c.requires.new tells) g.met.D.Disk.counts_now (λ free. subst (λ (has : Recovered). LeavesOnly d.moment d.left_since old new (OldOrMade (d.may_leave old) has)) is (c.in-Err.ensures.any_moment free)) c.in-Err.ensures.unmade)
    (λ free. subst (λ (has : Recovered). LeavesOnly d.moment d.left_since old new (OldOrMade (d.may_leave old) has)) is (c.in-Err.ensures.any_moment free))
