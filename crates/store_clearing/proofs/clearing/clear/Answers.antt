use Rattle.std.proofs.Common.{rules, ◌≡◌, ◌∙◌, ℕ, false, List, sym, ap, subst}
use Rattle.std.specs.List.{Contains}
use Rattle.flash_io.specs.Image.{Image}
use Rattle.manifest.specs.declared.store.Manifest.{Manifest}
use Rattle.replica_store.specs.Naming.{is_named}
use Rattle.store_clearing.proofs.Removing.{all_cleared, each_unknown, known_alone, stray_unnamed}
use Rattle.store_clearing.proofs.clearing.clear.Goals as goal

pub remove_all-requires-clause-there : goal.remove_all-requires-clause-there
remove_all-requires-clause-there g c = λ tells file has.
    let is : c.as_slice.result.now ≡ c.in_ok-strays.strays.items = search rules in
    let both = (c.in_ok-strays.ensures.each tells file).0 (subst (λ (l : List ℕ). Contains l file) is has) in
    (both.0.0, ap (λ (image : Image). image file) c.strays.ensures.untouched.same ∙ both.0.1)

pub remove_all-requires-clause-unnamed : goal.remove_all-requires-clause-unnamed
remove_all-requires-clause-unnamed g c = λ file has.
    let is : c.as_slice.result.now ≡ c.in_ok-strays.strays.items = search rules in
    subst (λ (m : Manifest). is_named m.file m.state file ≡ false) (sym c.strays.ensures.named.manifest)
    (stray_unnamed c.args.store.now.manifest c.args.needed.now file (c.in_ok-strays.ensures.stray file (subst (λ (l : List ℕ). Contains l file) is has)))

pub returns-in_err-remove_all-clause-any_moment : goal.returns-in_err-remove_all-clause-any_moment
returns-in_err-remove_all-clause-any_moment g c =
    let is : c.as_slice.result.now ≡ c.in_ok-strays.strays.items = search rules in
    all_cleared g.D.Disk c.args.store.now.manifest c.args.needed.now c.as_slice.result.now (λ file has. c.in_ok-strays.ensures.stray file (subst (λ (l : List ℕ). Contains l file) is has))
    c.args.store.now c.strays.new.self c.remove_all.new.store c.strays.ensures.untouched c.remove_all.ensures.any_moment

pub returns-clause-cleared : goal.returns-clause-cleared
returns-clause-cleared g c = λ tells.
    let xs = c.in_ok-strays.strays.items in
    let is : c.as_slice.result.now ≡ xs = search rules in
    record {
      files = xs;
      rising = c.in_ok-strays.ensures.rising;
      each = each_unknown c.args.store.now.manifest c.args.needed.now xs (g.D.Disk.files c.args.store.now.disk) (c.in_ok-strays.ensures.each tells);
      count = search rules;
      gone = λ file has. c.in_ok-remove_all.ensures.gone tells file (subst (λ (l : List ℕ). Contains l file) (sym is) has);
    }

pub returns-clause-left : goal.returns-clause-left
returns-clause-left g c = λ tells.
    let xs = c.in_ok-strays.strays.items in
    let is : c.as_slice.result.now ≡ xs = search rules in
    known_alone c.args.store.now.manifest c.args.needed.now xs (g.D.Disk.files c.args.store.now.disk) (c.in_ok-strays.ensures.each tells) (g.D.Disk.files c.remove_all.new.store.disk)
    (λ file has. c.in_ok-remove_all.ensures.gone tells file (subst (λ (l : List ℕ). Contains l file) (sym is) has))
    (λ file out. c.remove_all.ensures.stays file (λ has. out (subst (λ (l : List ℕ). Contains l file) is has)) ∙ ap (λ (image : Image). image file) c.strays.ensures.untouched.same)

pub returns-clause-any_moment : goal.returns-clause-any_moment
returns-clause-any_moment g c =
    let is : c.as_slice.result.now ≡ c.in_ok-strays.strays.items = search rules in
    all_cleared g.D.Disk c.args.store.now.manifest c.args.needed.now c.as_slice.result.now (λ file has. c.in_ok-strays.ensures.stray file (subst (λ (l : List ℕ). Contains l file) is has))
    c.args.store.now c.strays.new.self c.remove_all.new.store c.strays.ensures.untouched c.remove_all.ensures.any_moment
