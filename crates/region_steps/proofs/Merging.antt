-- What the commit of a merge makes of its region and of the source.
use Rattle.std.proofs.Common.{◌≡◌, ◌≢◌, ◌∙◌, refl, sym, ap, subst, ℕ, suc, ℤ, Bool, true, false, true≢false, ◌||◌, List, Option, Some, None, slice_get}
use Rattle.std.specs.Ordering.{int_cmp}
use Rattle.std.specs.Cmp.{int_cmp_total}
use Rattle.std.proofs.lemmas.Map.Lookups.{exact_signed}
use Rattle.flash_types.specs.Ranges.{holds, is_below, joined, touch}
use Rattle.log_codec.specs.declared.entry.Body.TheVariants as body
use Rattle.log_codec.specs.declared.entry.Entry.{Entry}
use Rattle.committed_log.specs.Admission.{own_fault, other_fault, range_fault, state_of, is_live, is_prepared_for}
use Rattle.committed_log.specs.Lawful.{IsLawful}
use Rattle.committed_log.specs.Log.{Log, at}
use Rattle.committed_log.specs.Owned.{IsFilled}
use Rattle.committed_log.specs.Regions.{region, range_of, regions_after, with_region, after_merge, merged}
use Rattle.committed_log.specs.Store.{Store, families_after, value_cmp}
use Rattle.committed_log.specs.declared.region.Descriptor.{Descriptor}
use Rattle.committed_log.specs.declared.region.Region.{Region}
use Rattle.committed_log.specs.declared.region.Region.TheVariants.{Unborn, Live, Prepared, Gone}
use Rattle.committed_log.specs.declared.store.Lock.{Lock}
use Rattle.committed_log.specs.declared.unlawful.Unlawful.TheVariants as unlawful
use Rattle.committed_log.proofs.Entries.{at_next, head_next}
use Rattle.committed_log.proofs.FamilySteps.{value_exact}
use Rattle.committed_log.proofs.Faults.{unless_ok}
use Rattle.committed_log.proofs.Filled.{filled_at, joined_covers}
use Rattle.committed_log.proofs.Merged.{joined_holds}
use Rattle.committed_log.proofs.Owners.{tested, merge_touches}
use Rattle.committed_log.proofs.Ranks.{region_here, region_there}
use Rattle.committed_log.proofs.Sorted.{sorted_at, value_cmp_total}
use Rattle.region_state.specs.State.{State, values_in, locks_in, absorbed, united}
use Rattle.region_steps.specs.Steps.{has, region_in, part_of}
use Rattle.region_steps.proofs.Changing.{live_next}
use Rattle.region_steps.proofs.Folding.{live_state}
use Rattle.region_steps.proofs.Unions.{united_parts}

module _ (log : Log) (lawful : IsLawful log) (p : ℕ) where
  module _ (r source : ℕ) (d c : Descriptor) (target : ℕ) (live : region (at log p).regions r ≡ Live d) (prepared : region (at log p).regions source ≡ Prepared c target) (touches : touch d.range c.range ≡ true) where
    -- a handle lies in the range of both where it lies in one of them
    joined_is : (h : ℤ) → (holds d.range h || holds c.range h) ≡ holds (joined d.range c.range) h
    joined_is h = by (holds d.range h || holds c.range h) (holds (joined d.range c.range) h) (joined_covers d.range c.range touches filled source_filled h) (joined_holds d.range c.range h touches)
      where
        filled : is_below d.range.low d.range.high ≡ true
        filled = subst IsFilled live (filled_at log lawful p r)

        source_filled : is_below c.range.low c.range.high ≡ true
        source_filled = subst IsFilled prepared (filled_at log lawful p source)

        by : (a b : Bool) → (a ≡ true → b ≡ true) → (b ≡ true → a ≡ true) → a ≡ b
        by true b f g = sym (f refl)
        by false true f g = g refl
        by false false f g = refl

    pub joined_values : united value_cmp (values_in d.range (at log p).values) (values_in c.range (at log p).values) ≡ values_in (joined d.range c.range) (at log p).values
    joined_values = united_parts value_cmp_total value_exact (λ k. holds d.range k.0) (λ k. holds c.range k.0) (λ k. holds (joined d.range c.range) k.0) (λ k. joined_is k.0) (at log p).values (sorted_at log p).values

    pub joined_locks : united int_cmp (locks_in d.range (at log p).locks) (locks_in c.range (at log p).locks) ≡ locks_in (joined d.range c.range) (at log p).locks
    joined_locks = united_parts int_cmp_total exact_signed (holds d.range) (holds c.range) (holds (joined d.range c.range)) joined_is (at log p).locks (sorted_at log p).locks

  -- ---- a Commit

  module _ (e : Entry) (is : slice_get log.entries p ≡ Some e) (source : ℕ) (commits : e.body ≡ body.Commit source) where
    abbrev s : Store
    s = at log p

    abbrev own : Region
    own = region s.regions e.region

    is_prepared : (st : Region) → is_prepared_for e.region st ≡ true → (c : Descriptor) × ((target : ℕ) × (st ≡ Prepared c target))
    is_prepared Unborn f = absurd (true≢false (sym f))
    is_prepared (Live c) f = absurd (true≢false (sym f))
    is_prepared (Gone last) f = absurd (true≢false (sym f))
    is_prepared (Prepared c target) f = (c, (target, refl))

    pub source_is : (c : Descriptor) × ((target : ℕ) × (region s.regions source ≡ Prepared c target))
    source_is = is_prepared (region s.regions source) (tested s.regions source (is_prepared_for e.region) (sym (ap (other_fault s.regions e.region) commits) ∙ (head_next log p e is lawful).other))

    abbrev c : Descriptor
    c = source_is.0

    is_own_live : is_live own ≡ true
    is_own_live = unless_ok (is_live own) (unlawful.Region e.region (state_of own)) (sym (ap (own_fault s.regions e.region) commits) ∙ (head_next log p e is lawful).own)

    -- the region before it is live
    own_is : (st : Region) → own ≡ st → is_live st ≡ true → (d : Descriptor) × (own ≡ Live d)
    own_is Unborn there live = absurd (true≢false (sym live))
    own_is (Live d) there live = (d, there)
    own_is (Prepared d target) there live = absurd (true≢false (sym live))
    own_is (Gone index) there live = absurd (true≢false (sym live))

    module _ (d : Descriptor) (live : own ≡ Live d) where
      differs : source ≢ e.region
      differs same = cc (sym source_is.1.1 ∙ ap (region s.regions) same ∙ live)

      touches : touch d.range c.range ≡ true
      touches = merge_touches s.regions e.region d live source c source_is.1.0 source_is.1.1 (sym (ap (range_fault s.regions e.region) commits) ∙ (head_next log p e is lawful).range)

      abbrev with_merged : List (ℕ × Region)
      with_merged = with_region e.region (Live (merged d c e.index)) s.regions

      region_next : (q : ℕ) → region (at log (suc p)).regions q ≡ region (with_region source (Gone c.index) with_merged) q
      region_next q = live_next log lawful p e is d live (body.Commit source) commits q ∙ ap (λ st. region (after_merge e.region d e.index source st s.regions) q) source_is.1.1

      stays : at log (suc p) ≡ record s { regions = regions_after s.regions e }
      stays = at_next log p e is ∙ (λ i. record (families_after log.table p (range_of (live i)) (commits i) s) { regions = regions_after s.regions e })

      own_next : region (at log (suc p)).regions e.region ≡ Live (merged d c e.index)
      own_next = region_next e.region ∙ region_there with_merged source (Gone c.index) e.region (λ same. differs (sym same)) ∙ region_here s.regions e.region (Live (merged d c e.index))

      absorbed_is : part_of s (merged d c e.index) None ≡ absorbed (part_of s d None) (part_of s c (Some source_is.1.0)) e.index
      absorbed_is = λ i. record {
        descriptor = merged d c e.index;
        target = None;
        values = sym (joined_values e.region source d c source_is.1.0 live source_is.1.1 touches) i;
        locks = sym (joined_locks e.region source d c source_is.1.0 live source_is.1.1 touches) i;
      }

      joined_has : has log (suc p) e.region ≡ Some (absorbed (part_of s d None) (part_of s c (Some source_is.1.0)) e.index)
      joined_has = ap (region_in (at log (suc p))) own_next ∙ ap (λ (u : Store). Some (part_of u (merged d c e.index) None)) stays ∙ ap Some absorbed_is

    -- what the log had of the source
    source_had : (other : State) → has log p source ≡ Some other → part_of s c (Some source_is.1.0) ≡ other
    source_had other had = some_is (sym (ap (region_in s) source_is.1.1) ∙ had)
      where
        some_is : Some (part_of s c (Some source_is.1.0)) ≡ Some other → part_of s c (Some source_is.1.0) ≡ other
        some_is same = cc same

    pub commit_has : (t other : State) → has log p e.region ≡ Some t → has log p source ≡ Some other → has log (suc p) e.region ≡ Some (absorbed t other e.index)
    commit_has t other had source_has =
        let found = live_state s own t is_own_live had in
        joined_has found.0 found.1 ∙ (λ i. Some (absorbed (found.2 i) (source_had other source_has i) e.index))

    pub source_gone : (other : State) → has log p source ≡ Some other → region (at log (suc p)).regions source ≡ Gone other.descriptor.index
    source_gone other source_has =
        let found = own_is own refl is_own_live in
        region_next found.0 found.1 source ∙ region_here (with_merged found.0 found.1) source (Gone c.index)
        ∙ ap (λ (x : State). Gone x.descriptor.index) (source_had other source_has)
