use Rattle.std.proofs.Common.{◌≡◌, ◌∙◌, sym, ap, refl, w64, SFits, rules}
use Rattle.std.proofs.lemmas.Int.{to_z-of_z}
use Rattle.std.specs.BTreeMap.{get}
use Rattle.std.specs.Ordering.{int_cmp}
use Rattle.committed_log.specs.Laws.{owned, owns}
use Rattle.committed_log.proofs.LeastTaken.{no_owner, none_owns}
use Rattle.committed_log.proofs.lows.owner.Goals as goal

pub returns-in_err-id-clause-none : goal.returns-in_err-id-clause-none
returns-in_err-id-clause-none c none =
    let fits : SFits w64 c.args.handle = search rules in
    no_owner c.args.regions.now.entries c.requires.parted (get int_cmp c.args.lows.now) c.requires.lows c.args.handle (simp (to_z-of_z w64 _ fits) at (c.in_err-id.ensures.none refl))

pub returns-else-owns-clause-none : goal.returns-else-owns-clause-none
returns-else-owns-clause-none c none =
    let fits : SFits w64 c.args.handle = search rules in
    let is : c.owns.result ≡ owns c.args.regions.now.entries c.in_ok-id.id c.args.handle = c.owns.ensures ∙ ap (λ h. owned c.region_of.result h) (to_z-of_z w64 _ fits) ∙ ap (λ s. owned s c.args.handle) c.region_of.ensures in
    none_owns c.args.regions.now.entries c.requires.parted (get int_cmp c.args.lows.now) c.requires.lows c.args.handle c.in_ok-id.field-0-0 c.in_ok-id.id (simp (to_z-of_z w64 _ fits) at c.in_ok-id.ensures.some) (sym is ∙ c.if-owns.false)
