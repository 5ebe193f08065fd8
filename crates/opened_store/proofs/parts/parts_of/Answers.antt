use Rattle.std.proofs.Common.{◌≡◌, ℕ, List, sym, subst}
use Rattle.manifest.specs.Stores.{has_of}
use Rattle.manifest_form.specs.declared.state.State.{State}
use Rattle.store_image.specs.Images.{columns_in}
use Rattle.opened_segments.specs.Faults.{IsFaultOf, faults_in}
use Rattle.opened_segments.specs.declared.fault.OpenFault.{OpenFault}
use Rattle.opened_store.specs.Causes.{ArePartsDamaged, IsDamageOr}
use Rattle.opened_store.specs.Opening.{AreRegionsOpened}
use Rattle.opened_store.proofs.Judging.{regions_there, segments_cause}
use Rattle.opened_store.proofs.parts.parts_of.Goals as goal

pub returns-in-Err-opened_segments-clause-cause : goal.returns-in-Err-opened_segments-clause-cause
returns-in-Err-opened_segments-clause-cause g c = λ tells.
    let d = g.D.Disk in
    let m = c.args.manifest.now in
    let log = c.args.logs.now in
    let files = d.files c.args.disk.now in
    let t = c.in-Ok.table in
    let own : c.file-own.result ≡ m.file = c.file-own.ensures in
    let state : c.state-state.result.now ≡ m.state = c.state-state.ensures in
    let faults : faults_in c.file-own.result (d.files c.table_of.new.disk) c.schema.result.now c.state-state.result.now.segments ≡ faults_in m.file files (columns_in log) m.state.segments =
    λ i. faults_in (own i) (c.in-Ok.ensures.untouched.same i) (c.schema.ensures i) (state i).segments in
    let found = subst (λ (xs : List OpenFault). IsFaultOf xs c.in-Err-opened_segments.fault) faults (c.in-Err-opened_segments.ensures.exact tells) in
    let there = subst (λ (o : ℕ). AreRegionsOpened o files m.state.regions t) own (subst (λ (s : State). AreRegionsOpened c.file-own.result files s.regions t) state (c.in-Ok.ensures.read tells)) in
    subst (IsDamageOr (ArePartsDamaged log m.file files (has_of m))) (sym c.from.ensures)
    (segments_cause log m.file files (has_of m) (regions_there log m.file files m.state.regions t c.in-Ok.ensures.agrees there) c.in-Err-opened_segments.fault found)
