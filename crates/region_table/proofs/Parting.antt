-- Two regions that are put one after the other.
use Rattle.std.proofs.Common.{◌≡◌, ◌∙◌, ap, ℕ, Bool, true, false, cond, refl, Option, Some}
use Rattle.std.specs.BTreeMap.{is_at}
use Rattle.std.specs.Ordering.{nat_cmp}
use Rattle.region_table.specs.Steps.{changed, Keeps}
use Rattle.region_table.specs.Table.{Kept}

-- what stood for the first meanwhile doesn't show
pub parted : (f : Keeps) (r child : ℕ) (lower upper meanwhile : Kept) (x y z : Option Kept) (q : ℕ) →
    x ≡ cond (is_at (nat_cmp r) q) (Some lower) y → y ≡ cond (is_at (nat_cmp child) q) (Some upper) z → z ≡ cond (is_at (nat_cmp r) q) (Some meanwhile) (f q) → x ≡ changed (changed f child upper) r lower q
parted f r child lower upper meanwhile x y z q a b l = a ∙ ap (cond (is_at (nat_cmp r) q) (Some lower)) (b ∙ ap (cond (is_at (nat_cmp child) q) (Some upper)) l) ∙ by (is_at (nat_cmp r) q)
  where
    by : (here : Bool) → cond here (Some lower) (cond (is_at (nat_cmp child) q) (Some upper) (cond here (Some meanwhile) (f q))) ≡ cond here (Some lower) (cond (is_at (nat_cmp child) q) (Some upper) (f q))
    by true = refl
    by false = refl
