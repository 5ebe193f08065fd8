-- What an entry does to a table is what it does to the row store.
use Rattle.std.proofs.Common.{◌≡◌, ◌≢◌, inl, inr, ◌∙◌, refl, sym, ap, subst, ℕ, suc, ℤ, true, false, true≢false, ◌||◌, List, [], Option, Some, None, slice_get, int_lt}
use Rattle.std.specs.Prelude.{◌==◌}
use Rattle.flash_types.specs.Ranges.{holds, touch}
use Rattle.flash_types.specs.declared.range.HandleRange.{HandleRange}
use Rattle.log_codec.specs.declared.entry.Body.{Body}
use Rattle.log_codec.specs.declared.entry.Body.TheVariants as body
use Rattle.log_codec.specs.declared.entry.Entry.{Entry}
use Rattle.log_codec.specs.declared.entry.Op.{Op}
use Rattle.committed_log.specs.declared.region.Descriptor.{Descriptor}
use Rattle.committed_log.specs.declared.region.Region.{Region}
use Rattle.committed_log.specs.declared.region.Region.TheVariants.{Unborn, Live, Prepared, Gone}
use Rattle.committed_log.specs.Admission.{other_fault, range_fault, is_unborn, is_prepared_for}
use Rattle.committed_log.specs.declared.store.Lock.{Lock}
use Rattle.committed_log.specs.Lawful.{IsLawful}
use Rattle.committed_log.specs.Log.{Log, at}
use Rattle.committed_log.specs.Regions.{region, range_of, with_region, regions_step, after_merge, merged, lower_part, upper_part, makes_region}
use Rattle.committed_log.specs.Store.{Store, families_after, after_entry}
use Rattle.committed_log.proofs.Disjoint.{in_lower, in_upper}
use Rattle.committed_log.proofs.Entries.{head_next, at_next}
use Rattle.committed_log.proofs.Faults.{IsFine, both_true, or_either, is_unborn_is}
use Rattle.committed_log.proofs.Owners.{tested, split_within, merge_touches}
use Rattle.committed_log.proofs.Ranks.{same_number, region_here, region_there, of_live, of_unborn, no_entry}
use Rattle.committed_log.proofs.Within.{filter-filter}
use Rattle.raft_apply.specs.Entries.{command_of, changes}
use Rattle.region_file.specs.declared.entry.Entry.TheVariants as kept
use Rattle.region_state.specs.Folding.{folded}
use Rattle.region_state.specs.State.{State, values_in, locks_in, lower_of, upper_of, absorbed}
use Rattle.region_table.specs.Steps.{Keeps, changed, if_there, kept_after}
use Rattle.region_table.proofs.Around.{state_from, kept_from, kept_of}
use Rattle.region_table.proofs.Families.{written, installed, bare_range}
use Rattle.region_steps.proofs.Merging.{joined_values, joined_locks}
use Rattle.region_table.proofs.Locals.{changed_here, changed_apart, is_acted}
use Rattle.region_table.specs.Table.{Kept}

module _ (log : Log) (lawful : IsLawful log) (p : ℕ) (e : Entry) (here : slice_get log.entries p ≡ Some e) where
  s : Store
  s = at log p

  fine : IsFine p (at log p).regions e
  fine = head_next log p e here lawful

  abbrev G : Keeps
  G = kept_of (at log p)

  -- the store after an entry like this, of a region in this state, with this body
  abbrev after_by : Region → Body → Store
  after_by st b = record (families_after log.table p (range_of st) b (at log p)) { regions = regions_step st (record { region = e.region; index = e.index; body = b }) (at log p).regions }

  abbrev command : Body → ℕ → Option Kept
  command b q = kept_after G e.region e.index (command_of log p b) q

  -- a region that the entry puts into a state
  put_here : (S : Store) (more : List (ℕ × Region)) (st : Region) → S.regions ≡ with_region e.region st more → kept_of S e.region ≡ kept_from S st
  put_here S more st is = ap (λ regions. kept_from S (region regions e.region)) is ∙ ap (kept_from S) (region_here more e.region st)

  some_there : (x y : State) → x ≡ y → Some (kept.There x) ≡ Some (kept.There y)
  some_there x y is = ap (λ z. Some (kept.There z)) is

  -- ---- births

  open_is : (conf_ver version : ℕ) (low : ℤ) (high : Option ℤ) → e.body ≡ body.Open conf_ver version low high → command (body.Open conf_ver version low high) e.region ≡ kept_of (after_by Unborn (body.Open conf_ver version low high)) e.region
  open_is conf_ver version low high is = changed_here G e.region _
      ∙ (λ i. Some (kept.There (record { descriptor = record { range = range; epoch = record { conf_ver = conf_ver; version = version }; index = e.index }; target = None; values = sym bare.0 i; locks = sym bare.1 i })))
      ∙ sym (put_here (after_by Unborn (body.Open conf_ver version low high)) (at log p).regions _ refl)
    where
      range : HandleRange
      range = record { low = low; high = high }

      bare : (values_in (record { low = low; high = high }) (at log p).values ≡ []) × (locks_in (record { low = low; high = high }) (at log p).locks ≡ [])
      bare = bare_range log lawful p (record { low = low; high = high }) (sym (ap (range_fault (at log p).regions e.region) is) ∙ fine.range)

  install_is : region (at log p).regions e.region ≡ Unborn → (conf_ver version : ℕ) (low : ℤ) (high : Option ℤ) (ops : List Op) → e.body ≡ body.Install conf_ver version low high ops → command (body.Install conf_ver version low high ops) e.region ≡ kept_of (after_by Unborn (body.Install conf_ver version low high ops)) e.region
  install_is unborn conf_ver version low high ops is = changed_here G e.region _
      ∙ sym (installed log lawful p e here conf_ver version low high ops is).1
      ∙ ap (λ (S : Store). kept_of S e.region) (at_next log p e here ∙ (λ i. after_by (unborn i) (is i)))

  born_is : (b : Body) → e.body ≡ b → region (at log p).regions e.region ≡ Unborn → makes_region b ≡ true → (q : ℕ) → is_acted e.region b q ≡ true → command b q ≡ kept_of (after_by Unborn b) q
  born_is (body.Open conf_ver version low high) is unborn m q acts = subst (λ z. command (body.Open conf_ver version low high) z ≡ kept_of (after_by Unborn (body.Open conf_ver version low high)) z) (only acts) (open_is conf_ver version low high is)
    where
      only : is_acted e.region (body.Open conf_ver version low high) q ≡ true → e.region ≡ q
      only a = elim (or_either (e.region == q) false a) [ inl x ↦ same_number e.region q x | inr x ↦ absurd (true≢false (sym x)) ]
  born_is (body.Install conf_ver version low high ops) is unborn m q acts = subst (λ z. command (body.Install conf_ver version low high ops) z ≡ kept_of (after_by Unborn (body.Install conf_ver version low high ops)) z) (only acts) (install_is unborn conf_ver version low high ops is)
    where
      only : is_acted e.region (body.Install conf_ver version low high ops) q ≡ true → e.region ≡ q
      only a = elim (or_either (e.region == q) false a) [ inl x ↦ same_number e.region q x | inr x ↦ absurd (true≢false (sym x)) ]
  born_is (body.Split at child) is unborn m q acts = absurd (true≢false (sym m))
  born_is (body.Prepare target) is unborn m q acts = absurd (true≢false (sym m))
  born_is (body.Commit source) is unborn m q acts = absurd (true≢false (sym m))
  born_is body.Remove is unborn m q acts = absurd (true≢false (sym m))
  born_is (body.Write ops) is unborn m q acts = absurd (true≢false (sym m))
  born_is body.Empty is unborn m q acts = absurd (true≢false (sym m))

  -- ---- entries of a region that is live

  module _ (d : Descriptor) (live : region (at log p).regions e.region ≡ Live d) where
    own : G e.region ≡ Some (kept.There (state_from (at log p) d None))
    own = ap (kept_from (at log p)) live

    -- what becomes of the region that is there
    with_own : (h : State → Keeps) (q : ℕ) → if_there (G e.region) h G q ≡ h (state_from (at log p) d None) q
    with_own h q = ap (λ o. if_there o h G q) own

    one_here : (b : Body) → is_acted e.region b e.region ≡ true → command b e.region ≡ kept_of (after_by (Live d) b) e.region → (q : ℕ) → e.region ≡ q → command b q ≡ kept_of (after_by (Live d) b) q
    one_here b acts same q is = subst (λ z. command b z ≡ kept_of (after_by (Live d) b) z) is same

    write_is : (ops : List Op) → e.body ≡ body.Write ops → command (body.Write ops) e.region ≡ kept_of (after_by (Live d) (body.Write ops)) e.region
    write_is ops is = with_own (λ s. changed G e.region (kept.There (folded s e.index (changes log p ops)))) e.region ∙ changed_here G e.region _
        ∙ sym (written log lawful p e here d live ops is).1
        ∙ ap (λ (S : Store). kept_of S e.region) (at_next log p e here ∙ (λ i. after_by (live i) (is i)))

    empty_is : command body.Empty e.region ≡ kept_of (after_by (Live d) body.Empty) e.region
    empty_is = with_own (λ s. changed G e.region (kept.There (folded s e.index []))) e.region ∙ changed_here G e.region _
        ∙ sym (put_here (after_by (Live d) body.Empty) (at log p).regions _ refl)

    prepare_is : (target : ℕ) → command (body.Prepare target) e.region ≡ kept_of (after_by (Live d) (body.Prepare target)) e.region
    prepare_is target = with_own _ e.region ∙ changed_here G e.region _
        ∙ sym (put_here (after_by (Live d) (body.Prepare target)) (at log p).regions _ refl)

    remove_is : command body.Remove e.region ≡ kept_of (after_by (Live d) body.Remove) e.region
    remove_is = changed_here G e.region _ ∙ sym (put_here (after_by (Live d) body.Remove) (at log p).regions _ refl)

    module _ (middle : ℤ) (child : ℕ) (is : e.body ≡ body.Split middle child) where
      pub within : (int_lt d.range.low middle ≡ true) × (holds d.range middle ≡ true)
      within = split_within (at log p).regions e.region d live middle (sym (ap (range_fault (at log p).regions e.region) is) ∙ fine.range)

      pub new : region (at log p).regions child ≡ Unborn
      new = is_unborn_is (region (at log p).regions child) (tested (at log p).regions child is_unborn (sym (ap (other_fault (at log p).regions e.region) is) ∙ fine.other))

      pub apart : child ≢ e.region
      apart same = cc (sym new ∙ ap (region (at log p).regions) same ∙ live)

      low_holds : (h : ℤ) → holds (lower_part d middle e.index).range h ≡ true → holds d.range h ≡ true
      low_holds h inside = in_lower d.range middle h (both_true _ _ within.1).1 inside

      up_holds : (h : ℤ) → holds (upper_part d middle).range h ≡ true → holds d.range h ≡ true
      up_holds h inside = in_upper d.range middle h within.0 inside

      lower_is : lower_of (state_from (at log p) d None) middle e.index ≡ state_from (at log p) (lower_part d middle e.index) None
      lower_is = λ i. record {
        descriptor = lower_part d middle e.index;
        target = None;
        values = filter-filter (λ (x : (ℤ × ℕ) × List ℕ). holds (lower_part d middle e.index).range x.0.0) (λ (x : (ℤ × ℕ) × List ℕ). holds d.range x.0.0) (λ x. low_holds x.0.0) (at log p).values i;
        locks = filter-filter (λ (x : ℤ × Lock). holds (lower_part d middle e.index).range x.0) (λ (x : ℤ × Lock). holds d.range x.0) (λ x. low_holds x.0) (at log p).locks i;
      }

      upper_is : upper_of (state_from (at log p) d None) middle ≡ state_from (at log p) (upper_part d middle) None
      upper_is = λ i. record {
        descriptor = upper_part d middle;
        target = None;
        values = filter-filter (λ (x : (ℤ × ℕ) × List ℕ). holds (upper_part d middle).range x.0.0) (λ (x : (ℤ × ℕ) × List ℕ). holds d.range x.0.0) (λ x. up_holds x.0.0) (at log p).values i;
        locks = filter-filter (λ (x : ℤ × Lock). holds (upper_part d middle).range x.0) (λ (x : ℤ × Lock). holds d.range x.0) (λ x. up_holds x.0) (at log p).locks i;
      }

      abbrev parts : State → Keeps
      parts x = changed (changed G child (kept.There (upper_of x middle))) e.region (kept.There (lower_of x middle e.index))

      abbrev with_child : List (ℕ × Region)
      with_child = with_region child (Live (upper_part d middle)) (at log p).regions

      split_own : command (body.Split middle child) e.region ≡ kept_of (after_by (Live d) (body.Split middle child)) e.region
      split_own = with_own parts e.region ∙ changed_here (changed G child _) e.region _ ∙ some_there _ _ lower_is
          ∙ sym (put_here (after_by (Live d) (body.Split middle child)) with_child (Live (lower_part d middle e.index)) refl)

      split_child : command (body.Split middle child) child ≡ kept_of (after_by (Live d) (body.Split middle child)) child
      split_child = with_own parts child ∙ changed_apart (changed G child _) e.region _ child apart ∙ changed_here G child _ ∙ some_there _ _ upper_is
          ∙ sym (ap (kept_from (at log p)) (region_there with_child e.region (Live (lower_part d middle e.index)) child apart ∙ region_here (at log p).regions child (Live (upper_part d middle))))

    module _ (source : ℕ) (is : e.body ≡ body.Commit source) where
      prepared : (st : Region) → is_prepared_for e.region st ≡ true → (c : Descriptor) × ((target : ℕ) × (st ≡ Prepared c target))
      prepared Unborn f = absurd (true≢false (sym f))
      prepared (Live c) f = absurd (true≢false (sym f))
      prepared (Gone last) f = absurd (true≢false (sym f))
      prepared (Prepared c target) f = (c, (target, refl))

      pub source_is : (c : Descriptor) × ((target : ℕ) × (region (at log p).regions source ≡ Prepared c target))
      source_is = prepared (region (at log p).regions source) (tested (at log p).regions source (is_prepared_for e.region) (sym (ap (other_fault (at log p).regions e.region) is) ∙ fine.other))

      pub source_apart : source ≢ e.region
      source_apart same = cc (sym source_is.1.1 ∙ ap (region (at log p).regions) same ∙ live)

      pub source_touches : touch d.range source_is.0.range ≡ true
      source_touches = merge_touches (at log p).regions e.region d live source source_is.0 source_is.1.0 source_is.1.1 (sym (ap (range_fault (at log p).regions e.region) is) ∙ fine.range)

      abbrev other : State
      other = state_from (at log p) source_is.0 (Some source_is.1.0)

      abbrev merges : State → State → Keeps
      merges x o = changed (changed G e.region (kept.There (absorbed x o e.index))) source (kept.Gone o.descriptor.index)

      source_own : G source ≡ Some (kept.There other)
      source_own = ap (kept_from (at log p)) source_is.1.1

      with_both : (q : ℕ) → command (body.Commit source) q ≡ merges (state_from (at log p) d None) other q
      with_both q = with_own (λ x. if_there (G source) (λ o. merges x o) G) q ∙ ap (λ o. if_there o (merges (state_from (at log p) d None)) G q) source_own

      absorbed_is : absorbed (state_from (at log p) d None) other e.index ≡ state_from (at log p) (merged d source_is.0 e.index) None
      absorbed_is = λ i. record { descriptor = merged d source_is.0 e.index; target = None; values = joined_values log lawful p e.region source d source_is.0 source_is.1.0 live source_is.1.1 source_touches i; locks = joined_locks log lawful p e.region source d source_is.0 source_is.1.0 live source_is.1.1 source_touches i }

      abbrev with_merged : List (ℕ × Region)
      with_merged = with_region e.region (Live (merged d source_is.0 e.index)) (at log p).regions

      regions_are : (after_by (Live d) (body.Commit source)).regions ≡ with_region source (Gone source_is.0.index) with_merged
      regions_are = ap (λ st. after_merge e.region d e.index source st (at log p).regions) source_is.1.1

      commit_own : command (body.Commit source) e.region ≡ kept_of (after_by (Live d) (body.Commit source)) e.region
      commit_own = with_both e.region ∙ changed_apart (changed G e.region _) source _ e.region (λ same. source_apart (sym same)) ∙ changed_here G e.region _ ∙ some_there _ _ absorbed_is
          ∙ sym (ap (λ regions. kept_from (at log p) (region regions e.region)) regions_are ∙ ap (kept_from (at log p)) (region_there with_merged source (Gone source_is.0.index) e.region (λ same. source_apart (sym same)) ∙ region_here (at log p).regions e.region (Live (merged d source_is.0 e.index))))

      commit_source : command (body.Commit source) source ≡ kept_of (after_by (Live d) (body.Commit source)) source
      commit_source = with_both source ∙ changed_here (changed G e.region _) source _
          ∙ sym (ap (λ regions. kept_from (at log p) (region regions source)) regions_are ∙ ap (kept_from (at log p)) (region_here with_merged source (Gone source_is.0.index)))

    own_only : (b : Body) → command b e.region ≡ kept_of (after_by (Live d) b) e.region → (q : ℕ) → ((e.region == q) || false) ≡ true → command b q ≡ kept_of (after_by (Live d) b) q
    own_only b same q acts = elim (or_either (e.region == q) false acts) [
      | inl x ↦ subst (λ z. command b z ≡ kept_of (after_by (Live d) b) z) (same_number e.region q x) same
      | inr x ↦ absurd (true≢false (sym x))
    ]

    own_or : (b : Body) (a : ℕ) → command b e.region ≡ kept_of (after_by (Live d) b) e.region → command b a ≡ kept_of (after_by (Live d) b) a → (q : ℕ) → ((e.region == q) || ((a == q) || false)) ≡ true → command b q ≡ kept_of (after_by (Live d) b) q
    own_or b a same other q acts = elim (or_either (e.region == q) ((a == q) || false) acts) [
      | inl x ↦ subst (λ z. command b z ≡ kept_of (after_by (Live d) b) z) (same_number e.region q x) same
      | inr y ↦ elim (or_either (a == q) false y) [ inl x ↦ subst (λ z. command b z ≡ kept_of (after_by (Live d) b) z) (same_number a q x) other | inr x ↦ absurd (true≢false (sym x)) ]
    ]

    live_is : (b : Body) → e.body ≡ b → makes_region b ≡ false → (q : ℕ) → is_acted e.region b q ≡ true → command b q ≡ kept_of (after_by (Live d) b) q
    live_is (body.Open conf_ver version low high) is m q acts = absurd (true≢false m)
    live_is (body.Install conf_ver version low high ops) is m q acts = absurd (true≢false m)
    live_is (body.Write ops) is m q acts = own_only (body.Write ops) (write_is ops is) q acts
    live_is (body.Split middle child) is m q acts = own_or (body.Split middle child) child (split_own middle child is) (split_child middle child is) q acts
    live_is (body.Prepare target) is m q acts = own_only (body.Prepare target) (prepare_is target) q acts
    live_is (body.Commit source) is m q acts = own_or (body.Commit source) source (commit_own source is) (commit_source source is) q acts
    live_is body.Remove is m q acts = own_only body.Remove remove_is q acts
    live_is body.Empty is m q acts = own_only body.Empty empty_is q acts

  -- ---- any entry

  pub done : (q : ℕ) → is_acted e.region e.body q ≡ true → command e.body q ≡ kept_of (after_entry log.table p (at log p) e) q
  done q acts = by (region (at log p).regions e.region) refl
    where
      by : (st : Region) → region (at log p).regions e.region ≡ st → command e.body q ≡ kept_of (after_by st e.body) q
      by Unborn is = born_is e.body refl is (of_unborn p (at log p).regions e fine is) q acts
      by (Live d) is = live_is d is e.body refl (of_live p (at log p).regions e fine d is) q acts
      by (Prepared d target) is = absurd (no_entry p (at log p).regions e fine (Prepared d target) is refl refl)
      by (Gone last) is = absurd (no_entry p (at log p).regions e fine (Gone last) is refl refl)

  -- and the table goes on by it
  pub done_at : (q : ℕ) → is_acted e.region e.body q ≡ true → command e.body q ≡ kept_of (at log (suc p)) q
  done_at q acts = done q acts ∙ ap (λ (S : Store). kept_of S q) (sym (at_next log p e here))
