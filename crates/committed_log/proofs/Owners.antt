-- At every position of a lawful log no handle lies in two regions.
use Rattle.std.proofs.Common.{◌≡◌, ◌≢◌, ◌∙◌, refl, sym, ap, ℕ, ℤ, Bool, true, false, cond, ◌&&◌, ◌||◌, List, Option, Some, None, true≢false, int_lt, option_map}
use Rattle.std.specs.Map.{values_of}
use Rattle.flash_types.specs.Ranges.{holds, is_below}
use Rattle.flash_types.specs.declared.range.HandleRange.{HandleRange}
use Rattle.log_codec.specs.declared.entry.Entry.{Entry}
use Rattle.log_codec.specs.declared.entry.Body.{Body}
use Rattle.log_codec.specs.declared.entry.Body.TheVariants as body
use Rattle.committed_log.specs.declared.region.Descriptor.{Descriptor}
use Rattle.committed_log.specs.declared.unlawful.Unlawful.{Unlawful}
use Rattle.committed_log.specs.declared.unlawful.Unlawful.TheVariants as unlawful
use Rattle.committed_log.specs.Admission.{other_fault, range_fault, split_fault, merge_fault, birth_fault, region_fault, unless, is_unborn, is_prepared_for, touch, least_taken, state_of}
use Rattle.committed_log.specs.Laws.{owned, owns, AreDisjoint}
use Rattle.committed_log.specs.Lawful.{IsLawful}
use Rattle.committed_log.specs.Log.{Log, at}
use Rattle.committed_log.specs.Regions.{Region, Unborn, Live, Prepared, Gone, region, range_of, ends_at, live_after, born_after, regions_step, regions_after, after_merge}
use Rattle.committed_log.proofs.Disjoint.{disjoint_kept, disjoint_split}
use Rattle.committed_log.proofs.Entries.{by_entries, head_next}
use Rattle.committed_log.proofs.Faults.{both_true, unless_ok, IsFine}
use Rattle.committed_log.proofs.Merged.{disjoint_born, disjoint_merge}

-- what a test of a region's state says where it finds no fault
pub tested : (regions : List (ℕ × Region)) (r : ℕ) (test : Region → Bool) → region_fault regions r test ≡ None → test (region regions r) ≡ true
tested regions r test e = unless_ok (test (region regions r)) (unlawful.Region r (state_of (region regions r))) e

-- a split leaves both parts a handle
abbrev fault_of_split : ℤ → Region → Option Unlawful
fault_of_split at s = elim (range_of s) [ None ↦ None | Some range ↦ unless (int_lt range.low at && holds range at) (unlawful.Range at) ]

abbrev fault_of_merge : Region → Region → Option Unlawful
fault_of_merge s t = elim (range_of s) [ None ↦ None | Some a ↦ elim (range_of t) [ None ↦ None | Some b ↦ unless (touch a b) (unlawful.Range a.low) ] ]

module _ (regions : List (ℕ × Region)) (r : ℕ) (d : Descriptor) (live : region regions r ≡ Live d) where
  pub split_within : (at : ℤ) → split_fault regions r at ≡ None → (int_lt d.range.low at ≡ true) × (holds d.range at ≡ true)
  split_within at fine = both_true (int_lt d.range.low at) (holds d.range at) (unless_ok (int_lt d.range.low at && holds d.range at) (unlawful.Range at) (sym (ap (fault_of_split at) live) ∙ fine))

  or_turned : (x y : Bool) → (x || y) ≡ true → (y || x) ≡ true
  or_turned true true e = refl
  or_turned true false e = refl
  or_turned false true e = refl
  or_turned false false e = e

  pub merge_touches : (source : ℕ) (c : Descriptor) (target : ℕ) → region regions source ≡ Prepared c target → merge_fault regions source r ≡ None → touch d.range c.range ≡ true
  merge_touches source c target is fine = or_turned (ends_at c.range d.range.low) (ends_at d.range c.range.low) (unless_ok (touch c.range d.range) (unlawful.Range c.range.low) (sym (ap (λ s. fault_of_merge s (region regions r)) is ∙ ap (λ t. fault_of_merge (Prepared c target) t) live) ∙ fine))

module _ (regions : List (ℕ × Region)) (r index : ℕ) (d : Descriptor) (live : region regions r ≡ Live d) (old : AreDisjoint regions) where
  own : (h : ℤ) → holds d.range h ≡ true → owns regions r h ≡ true
  own h e = ap (λ s. owned s h) live ∙ e

  not_unborn : (child : ℕ) → is_unborn (region regions child) ≡ true → child ≢ r
  not_unborn child e same = true≢false (sym e ∙ ap (λ z. is_unborn (region regions z)) same ∙ ap is_unborn live)

  split_step : (at : ℤ) (child : ℕ) → other_fault regions r (body.Split at child) ≡ None → split_fault regions r at ≡ None → AreDisjoint (live_after r d index (body.Split at child) regions)
  split_step at child other range =
      let within = split_within regions r d live at range in
      disjoint_split regions r child index d at live (not_unborn child (tested regions child is_unborn other)) within.0 (both_true _ _ within.1).1 old

  merge_step : (source : ℕ) (state : Region) → region regions source ≡ state → is_prepared_for r state ≡ true → merge_fault regions source r ≡ None → AreDisjoint (after_merge r d index source state regions)
  merge_step source Unborn is e range = absurd (true≢false (sym e))
  merge_step source (Live c) is e range = absurd (true≢false (sym e))
  merge_step source (Gone last) is e range = absurd (true≢false (sym e))
  merge_step source (Prepared c target) is e range = disjoint_merge regions r source index c.index target d c live is other (merge_touches regions r d live source c target is range) old
    where
      other : source ≢ r
      other same = cc (sym is ∙ ap (region regions) same ∙ live)

  live_step : (b : Body) → other_fault regions r b ≡ None → range_fault regions r b ≡ None → AreDisjoint (live_after r d index b regions)
  live_step (body.Split at child) other range = split_step at child other range
  live_step (body.Commit source) other range = merge_step source (region regions source) refl (tested regions source (is_prepared_for r) other) range
  live_step (body.Prepare target) other range = disjoint_kept regions r _ own old
  live_step body.Remove other range = disjoint_kept regions r _ (λ h e. absurd (true≢false (sym e))) old
  live_step (body.Open conf_ver version low high) other range = disjoint_kept regions r _ own old
  live_step (body.Install conf_ver version low high ops) other range = disjoint_kept regions r _ own old
  live_step (body.Write ops) other range = disjoint_kept regions r _ own old
  live_step body.Empty other range = disjoint_kept regions r _ own old

-- no region has a handle of a range that a region may be born with
pub untaken : (regions : List (ℕ × Region)) (range : HandleRange) → birth_fault regions range ≡ None → least_taken range (values_of regions) ≡ None
untaken regions range e = by (is_below range.low range.high) (least_taken range (values_of regions)) e
  where
    by : (b : Bool) (o : Option ℤ) → cond b (option_map unlawful.Range o) (Some (unlawful.Range range.low)) ≡ None → o ≡ None
    by false o e = cc e
    by true None e = refl
    by true (Some h) e = cc e

module _ (regions : List (ℕ × Region)) (r index : ℕ) (old : AreDisjoint regions) where
  born_step : (b : Body) → range_fault regions r b ≡ None → AreDisjoint (born_after r index b regions)
  born_step (body.Open conf_ver version low high) range = disjoint_born regions r _ (untaken regions (record { low = low; high = high }) range) old
  born_step (body.Install conf_ver version low high ops) range = disjoint_born regions r _ (untaken regions (record { low = low; high = high }) range) old
  born_step (body.Split at child) range = old
  born_step (body.Commit source) range = old
  born_step (body.Prepare target) range = old
  born_step body.Remove range = old
  born_step (body.Write ops) range = old
  born_step body.Empty range = old

-- by an entry that has no fault
pub disjoint_after : (p : ℕ) (regions : List (ℕ × Region)) (e : Entry) → IsFine p regions e → AreDisjoint regions → AreDisjoint (regions_after regions e)
disjoint_after p regions e fine old = by (region regions e.region) refl
  where
    by : (state : Region) → region regions e.region ≡ state → AreDisjoint (regions_step state e regions)
    by Unborn is = born_step regions e.region e.index old e.body fine.range
    by (Live d) is = live_step regions e.region e.index d is old e.body fine.other fine.range
    by (Prepared d target) is = old
    by (Gone last) is = old

pub disjoint_at : (log : Log) → IsLawful log → (p : ℕ) → AreDisjoint (at log p).regions
disjoint_at log lawful p = by_entries log (λ p s. AreDisjoint s.regions) (record { one = λ q r h a b. absurd (true≢false (sym a)) })
    (λ p e is old. disjoint_after p (at log p).regions e (head_next log p e is lawful) old) (λ p s old. old) p
