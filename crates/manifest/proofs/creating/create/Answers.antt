use Rattle.std.proofs.Common.{◌≡◌, List, ℕ, Ok, rules, subst}
use Rattle.manifest_form.specs.Takes.{IsManifest, Closes}
use Rattle.manifest.specs.Stores.{has_of}
use Rattle.manifest_form.specs.Walk.{manifest_of}
use Rattle.manifest.specs.Made.{new_store}
use Rattle.manifest.proofs.Created.{kept_new}
use Rattle.manifest.proofs.Same.{on_err}
use Rattle.manifest.proofs.creating.create.Goals as goal

pub returns-clause-kept : goal.returns-clause-kept
returns-clause-kept g c =
    let m = c.in_ok-manifest.manifest in
    let made = c.in_ok-manifest.ensures.made in
    let same : c.as_slice.result.now ≡ c.as_slice-2.result.now = search rules in
    kept_new (g.D.Disk.may_leave c.establish.new.disk) c.as_slice-2.result.now m made.0 made.1 (subst (λ (l : List ℕ). Closes (IsManifest 1 (has_of m)) m.at l) same made.4) c.in_ok-establish.ensures.root c.in_ok-establish.ensures.staged

pub returns-in_err-establish-clause-any_moment : goal.returns-in_err-establish-clause-any_moment
returns-in_err-establish-clause-any_moment g c = λ unmade.
    let has = new_store c.args.table c.args.schema.now c.args.chain in
    let read : manifest_of 1 c.as_slice-2.result.now ≡ Ok has = search rules in
    c.establish.ensures.any_moment has read unmade

pub returns-in_err-establish-clause-unmade : goal.returns-in_err-establish-clause-unmade
returns-in_err-establish-clause-unmade g c = λ unmade. on_err c.from_residual-in_err-establish.result (c.establish.ensures.unmade unmade)

pub returns-clause-any_moment : goal.returns-clause-any_moment
returns-clause-any_moment g c = λ unmade.
    let has = new_store c.args.table c.args.schema.now c.args.chain in
    let read : manifest_of 1 c.as_slice-2.result.now ≡ Ok has = search rules in
    c.establish.ensures.any_moment has read unmade
