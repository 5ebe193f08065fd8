-- A region that is born stands in the list of regions, also after another was put.
use Rattle.std.proofs.Common.{◌≡◌, refl, ℕ, IsSome, Some, None, Option, Bool, true, false, cond, subst, sym, unwrap_or, List}
use Rattle.std.specs.Map.{lookup}
use Rattle.std.specs.BTreeMap.{is_at}
use Rattle.std.specs.Ordering.{nat_cmp}
use Rattle.std.specs.Cmp.{nat_cmp_total}
use Rattle.committed_log.specs.declared.region.Descriptor.{Descriptor}
use Rattle.committed_log.specs.Regions.{Region, Unborn, Live, region, with_region}
use Rattle.committed_log.proofs.Maps.{lookup-insert_entry}

some_from_live : (o : Option Region) (d : Descriptor) → unwrap_or o Unborn ≡ Live d → IsSome o
some_from_live None d e = absurd (Prim.cc)
some_from_live (Some x) d e = refl

some_of_either : (b : Bool) (v : Region) (o : Option Region) → IsSome o → IsSome (cond b (Some v) o)
some_of_either true v o h = refl
some_of_either false v o h = h

pub stays_born : (regions after : List (ℕ × Region)) (r k : ℕ) (v : Region) → IsSome (lookup (is_at (nat_cmp r)) regions) → after ≡ with_region k v regions → IsSome (lookup (is_at (nat_cmp r)) after)
stays_born regions after r k v there e =
    subst (λ es. IsSome (lookup (is_at (nat_cmp r)) es)) (sym e)
    (subst (λ o. IsSome o) (sym (lookup-insert_entry nat_cmp_total regions k v r)) (some_of_either (is_at (nat_cmp r) k) v (lookup {X = Region} (is_at (nat_cmp r)) regions) there))

pub live_stays_born : (regions after : List (ℕ × Region)) (r k : ℕ) (d : Descriptor) (v : Region) → region regions r ≡ Live d → after ≡ with_region k v regions → IsSome (lookup (is_at (nat_cmp r)) after)
live_stays_born regions after r k d v live e = stays_born regions after r k v (some_from_live (lookup {X = Region} (is_at (nat_cmp r)) regions) d live) e
