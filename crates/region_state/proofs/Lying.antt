-- Families that lie in a range, after a split and a merge.
use Rattle.std.proofs.Common.{◌≡◌, ◌∙◌, refl, sym, ap, ℕ, ℤ, Bool, true, false, not, true≢false, ◌&&◌, cond, List, [], ◌∷◌, length, Option, Some, None, filter, is_some, int_le, int_lt, drop, arith, ◌≤◌}
use Rattle.std.proofs.lemmas.Int.{ints}
use Rattle.std.proofs.lemmas.Map.Entries.{lookup-filter-keys}
use Rattle.std.proofs.lemmas.Map.Lookups.{CmpEqualImpliesEq, exact_signed}
use Rattle.std.specs.declared.cmp.Ordering.{Ordering}
use Rattle.std.specs.declared.cmp.Ordering.TheVariants.{Less, Equal, Greater}
use Rattle.std.specs.Ordering.{match_ordering, int_cmp}
use Rattle.std.specs.BTreeMap.{insert_entry, is_at}
use Rattle.std.specs.Map.{lookup, remove_entry}
use Rattle.flash_types.specs.Ranges.{holds, is_below, joined, touch}
use Rattle.flash_types.specs.declared.range.HandleRange.{HandleRange}
use Rattle.committed_log.specs.Regions.{merged, lower_part, upper_part}
use Rattle.committed_log.specs.Store.{value_cmp}
use Rattle.committed_log.specs.declared.region.Descriptor.{Descriptor}
use Rattle.committed_log.specs.declared.store.Lock.{Lock}
use Rattle.committed_log.proofs.FamilySteps.{value_exact}
use Rattle.committed_log.proofs.Faults.{both_true}
use Rattle.committed_log.proofs.Undo.{equal_is}
use Rattle.committed_log.proofs.Within.{filter-filter}
use Rattle.region_state.specs.State.{State, IsWithin, values_in, locks_in, lower_of, upper_of, united, outside}
use Rattle.region_state.proofs.Uniting.{filter_both}

-- ---- a split

-- of what lies in a range that passes a test, where the test and the range are another range
pub part : {E : Type 0} (f : E → ℤ) (range other : HandleRange) (test : ℤ → Bool) (es : List E) → filter (λ e. holds range (f e)) es ≡ es → ((h : ℤ) → (holds range h && test h) ≡ holds other h) → filter (λ e. test (f e)) es ≡ filter (λ e. holds other (f e)) es
part f range other test es all same = ap (filter (λ e. test (f e))) (sym all) ∙ filter_both (λ e. test (f e)) (λ e. holds range (f e)) es ∙ (λ i. filter (λ e. same (f e) i) es)

pub again : {E : Type 0} (f : E → ℤ) (range : HandleRange) (es : List E) → filter (λ e. holds range (f e)) (filter (λ e. holds range (f e)) es) ≡ filter (λ e. holds range (f e)) es
again f range es = filter-filter (λ e. holds range (f e)) (λ e. holds range (f e)) (λ x is. is) es

below_both : (low at h : ℤ) (high : Option ℤ) → is_below at high ≡ true → ((int_le low h && is_below h high) && int_lt h at) ≡ (int_le low h && int_lt h at)
below_both low at h None in_it = grind (arith, ints)
below_both low at h (Some high) in_it = grind (arith, ints)

from_both : (low at h : ℤ) (high : Option ℤ) → int_lt low at ≡ true → ((int_le low h && is_below h high) && int_le at h) ≡ (int_le at h && is_below h high)
from_both low at h None above = grind (arith, ints)
from_both low at h (Some high) above = grind (arith, ints)

module _ (range : HandleRange) (at : ℤ) (in_it : holds range at ≡ true) (above : int_lt range.low at ≡ true) where
  pub lower_handles : (h : ℤ) → (holds range h && int_lt h at) ≡ holds (record { low = range.low; high = Some at }) h
  lower_handles h = below_both range.low at h range.high (both_true (int_le range.low at) (is_below at range.high) in_it).1

  pub upper_handles : (h : ℤ) → (holds range h && int_le at h) ≡ holds (record { low = at; high = range.high }) h
  upper_handles h = from_both range.low at h range.high above

-- ---- a merge

module _ (low1 low2 h : ℤ) where
  apart_by : (high1 high2 : Option ℤ) → touch (record { low = low1; high = high1 }) (record { low = low2; high = high2 }) ≡ true → holds (record { low = low1; high = high1 }) h ≡ true → holds (record { low = low2; high = high2 }) h ≡ false
  apart_by None None t in_it = absurd (true≢false (sym t))
  apart_by None (Some b) t in_it = grind (arith, ints)
  apart_by (Some a) None t in_it = grind (arith, ints)
  apart_by (Some a) (Some b) t in_it = grind (arith, ints)

  joined_by : (high1 high2 : Option ℤ) → touch (record { low = low1; high = high1 }) (record { low = low2; high = high2 }) ≡ true → is_below low1 high1 ≡ true → is_below low2 high2 ≡ true
      → holds (record { low = low1; high = high1 }) h ≡ true → holds (joined (record { low = low1; high = high1 }) (record { low = low2; high = high2 })) h ≡ true
  joined_by None None t some1 some2 in_it = absurd (true≢false (sym t))
  joined_by None (Some b) t some1 some2 in_it = grind (arith, ints)
  joined_by (Some a) None t some1 some2 in_it = grind (arith, ints)
  joined_by (Some a) (Some b) t some1 some2 in_it = grind (arith, ints)

  other_by : (high1 high2 : Option ℤ) → touch (record { low = low1; high = high1 }) (record { low = low2; high = high2 }) ≡ true → is_below low1 high1 ≡ true → is_below low2 high2 ≡ true
      → holds (record { low = low2; high = high2 }) h ≡ true → holds (joined (record { low = low1; high = high1 }) (record { low = low2; high = high2 })) h ≡ true
  other_by None None t some1 some2 in_it = absurd (true≢false (sym t))
  other_by None (Some b) t some1 some2 in_it = grind (arith, ints)
  other_by (Some a) None t some1 some2 in_it = grind (arith, ints)
  other_by (Some a) (Some b) t some1 some2 in_it = grind (arith, ints)

if_so : (a b : Bool) → (a ≡ true → b ≡ true) → (a && b) ≡ a
if_so true b so = so refl
if_so false b so = refl

-- what lies in a range lies in a wider one
pub wider : {E : Type 0} (f : E → ℤ) (range other : HandleRange) (es : List E) → filter (λ e. holds range (f e)) es ≡ es → ((h : ℤ) → holds range h ≡ true → holds other h ≡ true) → filter (λ e. holds other (f e)) es ≡ es
wider f range other es all so = ap (filter (λ e. holds other (f e))) (sym all) ∙ filter_both (λ e. holds other (f e)) (λ e. holds range (f e)) es ∙ (λ i. filter (λ e. if_so (holds range (f e)) (holds other (f e)) (so (f e)) i) es) ∙ all

module _ {K X : Type 0} (f : K → ℤ) (R : K → K → Ordering) (exact : CmpEqualImpliesEq R) where
  -- maps of ranges that have no handle in common
  pub apart : (range other : HandleRange) (others es : List (K × X)) → filter (λ (e : K × X). holds range (f e.0)) es ≡ es → filter (λ (e : K × X). holds other (f e.0)) others ≡ others → ((h : ℤ) → holds range h ≡ true → holds other h ≡ false) → outside R others es ≡ es
  apart range other others es all all_others none =
      ap (outside R others) (sym all) ∙ filter_both (λ (e : K × X). not (is_some (lookup (is_at (R e.0)) others))) (λ (e : K × X). holds range (f e.0)) es
      ∙ (λ i. filter (λ (e : K × X). if_so (holds range (f e.0)) (not (is_some (lookup (is_at (R e.0)) others))) (absent e.0) i) es) ∙ all
    where
      absent : (k : K) → holds range (f k) ≡ true → not (is_some (lookup (is_at (R k)) others)) ≡ true
      absent k in_it = ap (λ (o : Option X). not (is_some o)) (ap (lookup (is_at (R k))) (sym all_others)
          ∙ lookup-filter-keys (is_at (R k)) (λ (q : K). holds other (f q)) false (λ q is. ap (λ x. holds other (f x)) (sym (exact k q (equal_is (R k q) is))) ∙ none (f k) in_it) others)

module _ {K X : Type 0} (p : K → Bool) where
  abbrev kept : List (K × X) → List (K × X)
  kept = filter (λ e. p e.0)

  fewer : (es : List (K × X)) → length (kept es) ≤ length es
  fewer [] = omega arith
  fewer (e ∷ es) = elim (p e.0) as (λ b. length (cond b (e ∷ kept es) (kept es)) ≤ length (e ∷ es)) [ true ↦ omega (arith, fewer es) | false ↦ omega (arith, fewer es) ]

  passes : (e : K × X) (es : List (K × X)) → kept (e ∷ es) ≡ e ∷ es → (p e.0 ≡ true) × (kept es ≡ es)
  passes e es = elim (p e.0) as (λ b. cond b (e ∷ kept es) (kept es) ≡ e ∷ es → (b ≡ true) × (kept es ≡ es)) [
    | true ↦ λ all. (refl, ap (drop 1) all)
    | false ↦ λ all. absurd (omega (arith, fewer es, ap length all))
  ]

  stays : (e : K × X) (es : List (K × X)) → p e.0 ≡ true → kept es ≡ es → kept (e ∷ es) ≡ e ∷ es
  stays e es yes_p all = ap (λ b. cond b (e ∷ kept es) (kept es)) yes_p ∙ ap (λ rest. e ∷ rest) all

  pub kept_insert : (R : K → K → Ordering) (es : List (K × X)) (k : K) (v : X) → p k ≡ true → kept es ≡ es → kept (insert_entry R es k v) ≡ insert_entry R es k v
  kept_insert R [] k v yes_p all = stays (k, v) [] yes_p refl
  kept_insert R (e ∷ es) k v yes_p all =
      let so = passes e es all in
      elim (R k e.0) as (λ r. kept (match_ordering r ((k, v) ∷ e ∷ es) ((e.0, v) ∷ es) (e ∷ insert_entry R es k v)) ≡ match_ordering r ((k, v) ∷ e ∷ es) ((e.0, v) ∷ es) (e ∷ insert_entry R es k v)) [
        | Less ↦ stays (k, v) (e ∷ es) yes_p all
        | Equal ↦ stays (e.0, v) es so.0 so.1
        | Greater ↦ stays e (insert_entry R es k v) so.0 (kept_insert R es k v yes_p so.1)
      ]

  pub kept_remove : (test : K → Bool) (es : List (K × X)) → kept es ≡ es → kept (remove_entry test es) ≡ remove_entry test es
  kept_remove test [] all = refl
  kept_remove test (e ∷ es) all =
      let so = passes e es all in
      elim (test e.0) as (λ b. kept (cond b es (e ∷ remove_entry test es)) ≡ cond b es (e ∷ remove_entry test es)) [
        | true ↦ so.1
        | false ↦ stays e (remove_entry test es) so.0 (kept_remove test es so.1)
      ]

  -- both maps lie in a part, and so does their union
  pub kept_united : (R : K → K → Ordering) (es more : List (K × X)) → kept es ≡ es → kept more ≡ more → kept (united R es more) ≡ united R es more
  kept_united R es [] all all_more = all
  kept_united R es (e ∷ more) all all_more = let so = passes e more all_more in kept_united R (insert_entry R es e.0 e.1) more (kept_insert R es e.0 e.1 so.0 all) so.1

-- ---- regions

module _ (s : State) (w : IsWithin s.descriptor.range s.values s.locks) (at : ℤ) (above : int_lt s.descriptor.range.low at ≡ true) (in_it : holds s.descriptor.range at ≡ true) (d : Descriptor) (values : List ((ℤ × ℕ) × List ℕ)) (locks : List (ℤ × Lock)) where
  module _ (index : ℕ) (is : d ≡ lower_part s.descriptor at index) (values_are : values ≡ filter (λ (e : (ℤ × ℕ) × List ℕ). int_lt e.0.0 at) s.values) (locks_are : locks ≡ filter (λ (e : ℤ × Lock). int_lt e.0 at) s.locks) where
    lower_values : values ≡ values_in (lower_part s.descriptor at index).range s.values
    lower_values = values_are ∙ part (λ (e : (ℤ × ℕ) × List ℕ). e.0.0) s.descriptor.range (record { low = s.descriptor.range.low; high = Some at }) (λ h. int_lt h at) s.values w.all_values (lower_handles s.descriptor.range at in_it above)

    lower_locks : locks ≡ locks_in (lower_part s.descriptor at index).range s.locks
    lower_locks = locks_are ∙ part (λ (e : ℤ × Lock). e.0) s.descriptor.range (record { low = s.descriptor.range.low; high = Some at }) (λ h. int_lt h at) s.locks w.all_locks (lower_handles s.descriptor.range at in_it above)

    pub lower_is : record { descriptor = d; target = s.target; values = values; locks = locks } ≡ lower_of s at index
    lower_is = λ i. record { descriptor = is i; target = s.target; values = lower_values i; locks = lower_locks i }

    pub lower_within : IsWithin d.range values locks
    lower_within = record {
      all_values = (λ i. values_in (is i).range (lower_values i)) ∙ again (λ (e : (ℤ × ℕ) × List ℕ). e.0.0) (lower_part s.descriptor at index).range s.values ∙ sym lower_values;
      all_locks = (λ i. locks_in (is i).range (lower_locks i)) ∙ again (λ (e : ℤ × Lock). e.0) (lower_part s.descriptor at index).range s.locks ∙ sym lower_locks;
    }

  module _ (is : d ≡ upper_part s.descriptor at) (values_are : values ≡ filter (λ (e : (ℤ × ℕ) × List ℕ). int_le at e.0.0) s.values) (locks_are : locks ≡ filter (λ (e : ℤ × Lock). int_le at e.0) s.locks) where
    upper_values : values ≡ values_in (upper_part s.descriptor at).range s.values
    upper_values = values_are ∙ part (λ (e : (ℤ × ℕ) × List ℕ). e.0.0) s.descriptor.range (record { low = at; high = s.descriptor.range.high }) (λ h. int_le at h) s.values w.all_values (upper_handles s.descriptor.range at in_it above)

    upper_locks : locks ≡ locks_in (upper_part s.descriptor at).range s.locks
    upper_locks = locks_are ∙ part (λ (e : ℤ × Lock). e.0) s.descriptor.range (record { low = at; high = s.descriptor.range.high }) (λ h. int_le at h) s.locks w.all_locks (upper_handles s.descriptor.range at in_it above)

    pub upper_is : record { descriptor = d; target = None; values = values; locks = locks } ≡ upper_of s at
    upper_is = λ i. record { descriptor = is i; target = None; values = upper_values i; locks = upper_locks i }

    pub upper_within : IsWithin d.range values locks
    upper_within = record {
      all_values = (λ i. values_in (is i).range (upper_values i)) ∙ again (λ (e : (ℤ × ℕ) × List ℕ). e.0.0) (upper_part s.descriptor at).range s.values ∙ sym upper_values;
      all_locks = (λ i. locks_in (is i).range (upper_locks i)) ∙ again (λ (e : ℤ × Lock). e.0) (upper_part s.descriptor at).range s.locks ∙ sym upper_locks;
    }

module _ (s t : State) (w : IsWithin s.descriptor.range s.values s.locks) (v : IsWithin t.descriptor.range t.values t.locks) (touches : touch s.descriptor.range t.descriptor.range ≡ true) where
  none_common : (h : ℤ) → holds s.descriptor.range h ≡ true → holds t.descriptor.range h ≡ false
  none_common h = apart_by s.descriptor.range.low t.descriptor.range.low h s.descriptor.range.high t.descriptor.range.high touches

  pub values_apart : outside value_cmp t.values s.values ≡ s.values
  values_apart = apart (λ (k : ℤ × ℕ). k.0) value_cmp value_exact s.descriptor.range t.descriptor.range t.values s.values w.all_values v.all_values none_common

  pub locks_apart : outside int_cmp t.locks s.locks ≡ s.locks
  locks_apart = apart (λ (k : ℤ). k) int_cmp exact_signed s.descriptor.range t.descriptor.range t.locks s.locks w.all_locks v.all_locks none_common

  none_back : (h : ℤ) → holds t.descriptor.range h ≡ true → holds s.descriptor.range h ≡ false
  none_back h in_it = by (holds s.descriptor.range h) refl
    where
      by : (b : Bool) → holds s.descriptor.range h ≡ b → holds s.descriptor.range h ≡ false
      by true is = absurd (true≢false (sym in_it ∙ none_common h is))
      by false is = is

  pub values_apart_back : outside value_cmp s.values t.values ≡ t.values
  values_apart_back = apart (λ (k : ℤ × ℕ). k.0) value_cmp value_exact t.descriptor.range s.descriptor.range s.values t.values v.all_values w.all_values none_back

  pub locks_apart_back : outside int_cmp s.locks t.locks ≡ t.locks
  locks_apart_back = apart (λ (k : ℤ). k) int_cmp exact_signed t.descriptor.range s.descriptor.range s.locks t.locks v.all_locks w.all_locks none_back

  module _ (filled : is_below s.descriptor.range.low s.descriptor.range.high ≡ true) (other_filled : is_below t.descriptor.range.low t.descriptor.range.high ≡ true) where
    abbrev all : HandleRange
    all = joined s.descriptor.range t.descriptor.range

    first_in : (h : ℤ) → holds s.descriptor.range h ≡ true → holds all h ≡ true
    first_in h = joined_by s.descriptor.range.low t.descriptor.range.low h s.descriptor.range.high t.descriptor.range.high touches filled other_filled

    second_in : (h : ℤ) → holds t.descriptor.range h ≡ true → holds all h ≡ true
    second_in h = other_by s.descriptor.range.low t.descriptor.range.low h s.descriptor.range.high t.descriptor.range.high touches filled other_filled

    pub united_within : (d : Descriptor) (index : ℕ) (values : List ((ℤ × ℕ) × List ℕ)) (locks : List (ℤ × Lock)) → d ≡ merged s.descriptor t.descriptor index → values ≡ united value_cmp s.values t.values → locks ≡ united int_cmp s.locks t.locks → IsWithin d.range values locks
    united_within d index values locks is values_are locks_are = record {
      all_values = (λ i. values_in (is i).range (values_are i)) ∙ kept_united (λ (k : ℤ × ℕ). holds all k.0) value_cmp s.values t.values
          (wider (λ (e : (ℤ × ℕ) × List ℕ). e.0.0) s.descriptor.range all s.values w.all_values first_in) (wider (λ (e : (ℤ × ℕ) × List ℕ). e.0.0) t.descriptor.range all t.values v.all_values second_in) ∙ sym values_are;
      all_locks = (λ i. locks_in (is i).range (locks_are i)) ∙ kept_united (λ (k : ℤ). holds all k) int_cmp s.locks t.locks
          (wider (λ (e : ℤ × Lock). e.0) s.descriptor.range all s.locks w.all_locks first_in) (wider (λ (e : ℤ × Lock). e.0) t.descriptor.range all t.locks v.all_locks second_in) ∙ sym locks_are;
    }
