use Rattle.std.proofs.Common.{◌≡◌, ◌∙◌, sym, ap, Bool, Option, List, ℕ, None, option_copied, false, w64}
use Rattle.std.proofs.lemmas.Int.{to_z-of_z}
use Rattle.committed_log.specs.Store.{committed_value}
use Rattle.region_state.proofs.plan.committed_value.Goals as goal

long_if : (gone : Bool) (short long : Option (List ℕ)) → gone ≡ false → short ≡ None → long ≡ committed_value gone short long
long_if gone short long kept none = sym (ap (λ b. committed_value b short long) kept ∙ ap (λ o. committed_value false o long) none)

pub returns-in-None : goal.returns-in-None
returns-in-None c = (simp (to_z-of_z w64 _ c.ranges.handle) at c.value_at.ensures) ∙ long_if c.args.gone (option_copied c.args.short) _ c.if-gone.false (ap option_copied c.in-None.is)
