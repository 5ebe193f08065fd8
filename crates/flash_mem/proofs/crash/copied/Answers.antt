use Rattle.std.proofs.Common.{ap}
use Rattle.std.specs.Prelude.{ℕ, ◌≡◌}
use Rattle.std.specs.Ordering.{nat_cmp}
use Rattle.std.specs.BTreeMap.{is_at}
use Rattle.std.specs.Map.{lookup}
use Rattle.std.specs.Arc.{arc_value}
use Rattle.std.proofs.lemmas.Map.Entries.{lookup_clone}
use Rattle.flash_mem.specs.Files.{Content}
use Rattle.flash_mem.proofs.Outcome.{same_bytes}
use Rattle.flash_mem.proofs.crash.copied.Goals as goal

pub returns : goal.returns
returns c f =
    let old = c.args.files.now.entries in
    let new = c.in_ok-clone.field-0.entries in
    let test = is_at (nat_cmp f) in
    same_bytes (lookup test old) (lookup test new)
    (lookup_clone (λ (x y : ℕ). y ≡ x) (λ (a b : Content). arc_value b ≡ arc_value a) test (λ x y e. ap test e) old new c.in_ok-clone.ensures.cases)
