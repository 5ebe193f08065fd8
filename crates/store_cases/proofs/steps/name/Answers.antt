use Rattle.std.proofs.Common.{◌≤◌, ℕ, subst}
use Rattle.store_cases.proofs.Formed.{named_formed}
use Rattle.store_cases.proofs.steps.name.Goals as goal

pub commit-requires : goal.commit-requires
commit-requires g c =
    let m = c.args.store.now.manifest in
    let file = c.in_ok-file.file in
    record { formed = named_formed m.file m.state file m.formed (subst (λ (next : ℕ). next ≤ file) c.next.ensures c.in_ok-file.ensures.0) }
