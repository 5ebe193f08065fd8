use Rattle.std.proofs.Common.{◌≡◌, List, ℕ, sym, subst, rules}
use Rattle.std.specs.Prelude.{Contains}
use Rattle.manifest.proofs.Listed.{not_there}
use Rattle.manifest.proofs.ready.has_root.Goals as goal

pub returns-clause-there : goal.returns-clause-there
returns-clause-there g c = λ tells has.
    let is : c.as_slice.result.now ≡ c.in_ok-list.list.items = search rules in
    (c.in_ok-list.ensures.each tells 0).0 (subst (λ (l : List ℕ). Contains l 0) is (c.lists.ensures.there has))

pub returns-clause-absent : goal.returns-clause-absent
returns-clause-absent g c = λ tells none.
    let is : c.as_slice.result.now ≡ c.in_ok-list.list.items = search rules in
    not_there (g.D.Disk.files c.args.disk.now) 0 (λ there. c.lists.ensures.absent none (subst (λ (l : List ℕ). Contains l 0) (sym is) ((c.in_ok-list.ensures.each tells 0).1 there)))
