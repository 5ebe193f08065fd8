-- What a table tells of an entry that can't be applied is what its set tells; and an entry has no such fault exactly where it is ready.
use Rattle.std.proofs.Common.{◌≡◌, ◌⊎◌, inl, inr, ◌∙◌, refl, sym, ap, ℕ, suc, ◌-◌, ◌<◌, ◌≤◌, Bool, true, false, true≢false, cond, not, ◌&&◌, ◌||◌, Option, Some, None, nat_lt, arith, slice_get, length, unwrap_or, find, is_none, List}
use Rattle.std.specs.Prelude.{◌==◌}
use Rattle.std.specs.List.{list_all, list_any}
use Rattle.std.specs.Option.{option_or}
use Rattle.std.proofs.lemmas.Option.{slice_get_within}
use Rattle.log_codec.specs.declared.entry.Body.{Body}
use Rattle.log_codec.specs.declared.entry.Body.TheVariants as body
use Rattle.log_codec.specs.declared.entry.Entry.{Entry}
use Rattle.committed_log.specs.declared.region.Descriptor.{Descriptor}
use Rattle.committed_log.specs.declared.region.Region.{Region}
use Rattle.committed_log.specs.declared.region.Region.TheVariants.{Unborn, Live, Prepared, Gone}
use Rattle.committed_log.specs.Admission.{other_fault, is_prepared_for}
use Rattle.committed_log.specs.Applied.{applied, first_numbers, IsClosed, is_ready}
use Rattle.committed_log.specs.Lawful.{IsLawful}
use Rattle.committed_log.specs.Laws.{is_after, is_prepared, is_source_prepared, waits_no_more, region_at}
use Rattle.committed_log.specs.Log.{Log, at, end}
use Rattle.committed_log.specs.Store.{Store}
use Rattle.committed_log.proofs.Pushed.{at_end}
use Rattle.committed_log.proofs.Closed.{same_is, entry_at}
use Rattle.committed_log.specs.Regions.{region, index_of, acts_on, also_acted, makes_region}
use Rattle.committed_log.proofs.Entries.{head_next, regions_next}
use Rattle.committed_log.proofs.Faults.{IsFine, or_first, or_second}
use Rattle.committed_log.proofs.Growth.{gone_stays}
use Rattle.committed_log.proofs.Owners.{tested}
use Rattle.committed_log.proofs.Positions.{find_least, Finds, all_first, each_first}
use Rattle.committed_log.proofs.Waiting.{prepared_then_gone, ready_by_regions}
use Rattle.region_table.specs.Applying.{fault_by, apply_fault, source_behind, behind, prepare_index}
use Rattle.region_table.specs.Counting.{applied_in}
use Rattle.region_table.specs.Faults.{prepare_at_end}
use Rattle.region_table.specs.Table.{Kept, AreRegionsAt, IsCounted, state_in, first_out}
use Rattle.region_table.specs.declared.fault.ApplyError.{ApplyError}
use Rattle.region_table.specs.declared.fault.ApplyError.TheVariants as fault
use Rattle.committed_log.proofs.Ready.{ready_parts}
use Rattle.region_table.specs.declared.table.Counted.{Counted}
use Rattle.region_table.proofs.Sets.{states_are, tells}

-- ---- the prepare of a commit's source

-- at the log's end too the source has its prepare's index
prepare_is : (log : Log) → IsLawful log → (p : ℕ) (e : Entry) → slice_get log.entries p ≡ Some e → prepare_at_end log e.body ≡ prepare_index log p e.body
prepare_is log lawful p e here = by e.body refl
  where
    fine : IsFine p (at log p).regions e
    fine = head_next log p e here lawful

    prepared : (s : Region) → is_prepared_for e.region s ≡ true → (d : Descriptor) × (target : ℕ) × (s ≡ Prepared d target)
    prepared Unborn f = absurd (true≢false (sym f))
    prepared (Live d) f = absurd (true≢false (sym f))
    prepared (Gone last) f = absurd (true≢false (sym f))
    prepared (Prepared d target) f = (d, target, refl)

    by : (b : Body) → e.body ≡ b → prepare_at_end log b ≡ prepare_index log p b
    by (body.Commit source) is = ap (λ s. unwrap_or (index_of s) 0) left ∙ sym (ap (λ s. unwrap_or (index_of s) 0) before.1.1)
      where
        before : (d : Descriptor) × ((target : ℕ) × (region (at log p).regions source ≡ Prepared d target))
        before = let b = prepared (region (at log p).regions source) (tested (at log p).regions source (is_prepared_for e.region) (sym (ap (other_fault (at log p).regions e.region) is) ∙ fine.other)) in (b.0, (b.1, b.2))

        acts : acts_on source e ≡ true
        acts = or_second (e.region == source) (list_any (λ acted. acted == source) (also_acted e.body)) (ap (λ b. list_any (λ acted. acted == source) (also_acted b)) is ∙ or_first (source == source) false (same_is source))

        after : region_at log source (suc p) ≡ Gone before.0.index
        after = ap (λ regions. region regions source) (regions_next log p e here) ∙ prepared_then_gone p (at log p).regions e fine source before.1.0 before.0 before.1.1 acts

        left : region (end log).regions source ≡ Gone before.0.index
        left = ap (λ (s : Store). region s.regions source) (sym (at_end log)) ∙ gone_stays log lawful source (suc p) (length log.entries) before.0.index (let w = slice_get_within log.entries p e here in omega (arith, w)) after
    by (body.Open conf_ver version low high) is = refl
    by (body.Install conf_ver version low high ops) is = refl
    by (body.Split at child) is = refl
    by (body.Prepare target) is = refl
    by body.Remove is = refl
    by (body.Write ops) is = refl
    by body.Empty is = refl

pub found : (log : Log) → IsLawful log → (A : ℕ → Bool) (regions : List (ℕ × Kept)) → AreRegionsAt log A regions → (p : ℕ) (e : Entry) → slice_get log.entries p ≡ Some e → (c : Counted) → IsCounted log A c →
    fault_by log (state_in regions) (applied_in log regions p) c.first (prepare_at_end log e.body) p e ≡ apply_fault log A p e
found log lawful A regions is p e here c counted = λ i. fault_by log (states_are log A regions is i) (sym (tells log lawful A regions is p) i) (counted.first i) (prepare_is log lawful p e here i) p e

-- ---- exactly where

-- where no entry below p is out, the first that is out isn't below p
module _ (log : Log) (A : ℕ → Bool) (p : ℕ) (inside : p < length log.entries) where
  abbrev first_found : Option ℕ → ℕ
  first_found o = unwrap_or o (length log.entries)

  not_out : (b : Bool) → not b ≡ false → b ≡ true
  not_out true e = refl
  not_out false e = absurd (true≢false e)

  not_in : (b : Bool) → not b ≡ true → b ≡ false
  not_in true e = absurd (true≢false (sym e))
  not_in false e = refl

  below : (a b : ℕ) → a < b → nat_lt a b ≡ true
  below a b less = grind arith

  not_below : (a b : ℕ) → b ≤ a → nat_lt a b ≡ false
  not_below a b le = grind arith

  order : (a b : ℕ) → (a < b) ⊎ (b ≤ a)
  order a b = grind arith

  pub first_tells : nat_lt (first_out log A) p ≡ not (list_all A (first_numbers p))
  first_tells = by (find (λ q. not (A q)) (first_numbers (length log.entries))) (find_least (λ q. not (A q)) (length log.entries))
    where
      by : (o : Option ℕ) → Finds (λ q. not (A q)) (length log.entries) o → nat_lt (first_found o) p ≡ not (list_all A (first_numbers p))
      by None none = not_below (length log.entries) p (omega (arith, inside)) ∙ sym (ap not (all_first A p (λ q less. not_out (A q) (none q (omega (arith, less, inside))))))
      by (Some x) least = elim (order x p) [
        | inl less ↦ below x p less ∙ sym (ap not (some_out less (list_all A (first_numbers p)) refl))
        | inr le ↦ not_below x p le ∙ sym (ap not (all_first A p (λ q less. not_out (A q) (least.first q (omega (arith, less, le))))))
      ]
        where
          some_out : x < p → (b : Bool) → list_all A (first_numbers p) ≡ b → list_all A (first_numbers p) ≡ false
          some_out less false is = is
          some_out less true is = absurd (true≢false (sym (each_first A p is x less) ∙ not_in (A x) least.passes))

  pub first_within : nat_lt (first_out log A) p ≡ true → first_out log A < length log.entries
  first_within less = let under = lower (first_out log A) p less in omega (arith, under, inside)
    where
      lower : (a b : ℕ) → nat_lt a b ≡ true → a < b
      lower a b e = grind arith

-- ---- an entry without a fault

none_or : (a b : Option ApplyError) → is_none (option_or a b) ≡ (is_none a && is_none b)
none_or None b = refl
none_or (Some x) b = refl

none_if : (b : Bool) (x : ApplyError) → is_none (cond b None (Some x)) ≡ b
none_if true x = refl
none_if false x = refl

module _ (log : Log) (lawful : IsLawful log) (A : ℕ → Bool) (closed : IsClosed log A) (p : ℕ) (e : Entry) (here : slice_get log.entries p ≡ Some e) where
  within : p < length log.entries
  within = slice_get_within log.entries p e here

  source_none : (b : Body) → is_none (source_behind (applied log A) (prepare_index log p e.body) b) ≡ is_source_prepared log A b
  source_none (body.Commit source) = none_if (is_prepared (applied log A source)) _
  source_none (body.Open conf_ver version low high) = refl
  source_none (body.Install conf_ver version low high ops) = refl
  source_none (body.Split at child) = refl
  source_none (body.Prepare target) = refl
  source_none body.Remove = refl
  source_none (body.Write ops) = refl
  source_none body.Empty = refl

  -- the fault that the first entry that is out gives
  abbrev first_fault : Option Entry → Option ApplyError
  first_fault o = elim o [ None ↦ None | Some f ↦ behind (applied log A) f.region f.index ]

  waited : (b : Bool) → nat_lt (first_out log A) p ≡ b → is_none (cond b (first_fault (slice_get log.entries (first_out log A))) None) ≡ not b
  waited false is = refl
  waited true is = let f = entry_at log (first_out log A) (first_within log A p within is) in ap (λ o. is_none (first_fault o)) f.1

  not_not : (b : Bool) → not (not b) ≡ b
  not_not true = refl
  not_not false = refl

  swap : (a b : Bool) → (a && b) ≡ (b && a)
  swap true true = refl
  swap true false = refl
  swap false true = refl
  swap false false = refl

  and_true : (a : Bool) → (a && true) ≡ a
  and_true true = refl
  and_true false = refl

  -- without what is behind it waits for no more
  abbrev after : Bool
  after = is_after (index_of (applied log A e.region)) e.index

  abbrev source_ready : Bool
  source_ready = is_source_prepared log A e.body

  abbrev all_fault : Bool → Option ApplyError
  all_fault makes = cond (makes && nat_lt (first_out log A) p) (first_fault (slice_get log.entries (first_out log A))) None

  abbrev own_fault : Bool → Option ApplyError
  own_fault makes = cond (makes || after) None (behind (applied log A) e.region (e.index - 1))

  by_makes : (makes : Bool) → (is_none (own_fault makes) && (source_ready && is_none (all_fault makes))) ≡ (cond makes (list_all A (first_numbers p)) after && source_ready)
  by_makes true = ap (λ b. source_ready && b) (waited (nat_lt (first_out log A) p) refl ∙ ap not (first_tells log A p within) ∙ not_not (list_all A (first_numbers p))) ∙ swap source_ready (list_all A (first_numbers p))
  by_makes false = ap (λ b. b && (source_ready && true)) (none_if after _) ∙ ap (λ b. after && b) (and_true source_ready)

  pub none_is : A p ≡ false → is_none (apply_fault log A p e) ≡ waits_no_more log A p e
  none_is free = ap (λ b. is_none (cond b (Some (fault.Done e.region (unwrap_or (index_of (applied log A e.region)) 0))) (option_or (own_fault (makes_region e.body)) (option_or (source_behind (applied log A) (prepare_index log p e.body) e.body) (all_fault (makes_region e.body)))))) free
      ∙ none_or (own_fault (makes_region e.body)) (option_or (source_behind (applied log A) (prepare_index log p e.body) e.body) (all_fault (makes_region e.body)))
      ∙ ap (λ b. is_none (own_fault (makes_region e.body)) && b) (none_or (source_behind (applied log A) (prepare_index log p e.body) e.body) (all_fault (makes_region e.body)) ∙ ap (λ b. b && is_none (all_fault (makes_region e.body))) (source_none e.body))
      ∙ by_makes (makes_region e.body)

  is_done : A p ≡ true → apply_fault log A p e ≡ Some (fault.Done e.region (unwrap_or (index_of (applied log A e.region)) 0))
  is_done in_set = ap (λ b. cond b (Some (fault.Done e.region (unwrap_or (index_of (applied log A e.region)) 0))) (option_or (own_fault (makes_region e.body)) (option_or (source_behind (applied log A) (prepare_index log p e.body) e.body) (all_fault (makes_region e.body))))) in_set

  none_of : (o : Option ApplyError) → is_none o ≡ true → o ≡ None
  none_of None e = refl
  none_of (Some x) e = absurd (true≢false (sym e))

  pub ready_without : apply_fault log A p e ≡ None → is_ready log A p ≡ true
  ready_without none = by (A p) refl
    where
      by : (b : Bool) → A p ≡ b → is_ready log A p ≡ true
      by true is = cc (sym none ∙ is_done is)
      by false is = ready_by_regions log lawful A closed p e here is ∙ sym (none_is is) ∙ ap is_none none

  pub without_ready : is_ready log A p ≡ true → apply_fault log A p e ≡ None
  without_ready ready = let free = (ready_parts log A p ready).free in none_of (apply_fault log A p e) (none_is free ∙ sym (ready_by_regions log lawful A closed p e here free) ∙ ready)
