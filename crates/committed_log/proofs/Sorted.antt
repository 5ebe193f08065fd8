-- The maps of the store have their keys in order at every position, so that each look-up is the only one.
use Rattle.std.proofs.Common.{ℕ, ℤ, Bool, true, false, cond, List, [], ◌∷◌, ◌++◌, Option, Some, None, Result, Ok, Err}
use Rattle.std.proofs.lemmas.Cmp.{then_total, on_total}
use Rattle.std.specs.Cmp.{IsTotalOrder, nat_cmp_total, int_cmp_total}
use Rattle.std.specs.List.Sorted.{IsStrictlySortedBy}
use Rattle.std.specs.Ordering.{nat_cmp, int_cmp}
use Rattle.flash_types.specs.declared.range.HandleRange.{HandleRange}
use Rattle.log_codec.specs.declared.entry.Body.{Body}
use Rattle.log_codec.specs.declared.entry.Body.TheVariants as body
use Rattle.log_codec.specs.declared.entry.Entry.{Entry}
use Rattle.log_codec.specs.declared.entry.Op.{Op}
use Rattle.committed_log.specs.Changes.{change_of}
use Rattle.committed_log.specs.declared.op.FamilyOp.{FamilyOp}
use Rattle.committed_log.specs.declared.op.FamilyOp.TheVariants as change
use Rattle.committed_log.specs.declared.op.OpFault.{OpFault}
use Rattle.committed_log.specs.declared.region.Descriptor.{Descriptor}
use Rattle.committed_log.specs.Laws.{IsSorted}
use Rattle.committed_log.specs.Log.{Log, at}
use Rattle.committed_log.specs.Regions.{with_region, Region, Unborn, Live, Prepared, Gone, region, range_of, regions_after, regions_step, live_after, born_after, after_merge}
use Rattle.committed_log.specs.Store.{Store, Commit, value, committed_value, empty, value_cmp, after_change, after_op, after_ops, after_entry, families_after, cleared, is_repeated, last_commit}
use Rattle.committed_log.proofs.Entries.{by_entries}
use Rattle.committed_log.proofs.Maps.{Rise, Rise-insert_entry, Rise-remove_entry, Rise-filter}

pub value_cmp_total : IsTotalOrder value_cmp
value_cmp_total = then_total {R = λ a b. int_cmp a.0 b.0} {S = λ a b. nat_cmp a.1 b.1} (on_total (λ a. a.0) int_cmp_total) (on_total (λ a. a.1) nat_cmp_total)

either : (b : Bool) (s : Store) (more : List Commit) → IsSorted s → IsSorted (cond b s (record s { commits = more }))
either true s more h = h
either false s more h = record { regions = h.regions; values = h.values; locks = h.locks }

pub sorted_change : (p : ℕ) (s : Store) (c : FamilyOp) → IsSorted s → IsSorted (after_change p s c)
sorted_change p s (change.Value h start bytes) h' = record { regions = h'.regions; values = Rise-insert_entry value_cmp_total s.values (h, start) bytes h'.values; locks = h'.locks }
sorted_change p s (change.DropValue h start) h' = record { regions = h'.regions; values = Rise-remove_entry value_cmp _ s.values h'.values; locks = h'.locks }
sorted_change p s (change.Lock h kind start) h' = record { regions = h'.regions; values = h'.values; locks = Rise-insert_entry int_cmp_total s.locks h _ h'.locks }
sorted_change p s (change.Unlock h) h' = record { regions = h'.regions; values = h'.values; locks = Rise-remove_entry int_cmp _ s.locks h'.locks }
sorted_change p s (change.Write h ts start gone short) h' = either (is_repeated (last_commit s.commits h) ts start gone) s (s.commits ++ record { handle = h; ts = ts; start = start; value = committed_value gone short (value s.values h start); position = p } ∷ []) h'

sorted_op : (p : ℕ) (s : Store) (c : Result (Option FamilyOp) OpFault) → IsSorted s → IsSorted (elim c [ Err fault ↦ s | Ok found ↦ elim found [ None ↦ s | Some c ↦ after_change p s c ] ])
sorted_op p s (Err fault) h = h
sorted_op p s (Ok None) h = h
sorted_op p s (Ok (Some c)) h = sorted_change p s c h

pub sorted_ops : (table : ℤ) (range : HandleRange) (p : ℕ) (s : Store) (ops : List Op) → IsSorted s → IsSorted (after_ops table range p s ops)
sorted_ops table range p s [] h = h
sorted_ops table range p s (op ∷ ops) h = sorted_ops table range p (after_op table range p s op) ops (sorted_op p s (change_of table range op) h)

sorted_cleared : (range : HandleRange) (s : Store) → IsSorted s → IsSorted (cleared range s)
sorted_cleared range s h = record { regions = h.regions; values = Rise-filter value_cmp _ s.values h.values; locks = Rise-filter int_cmp _ s.locks h.locks }

pub sorted_families : (table : ℤ) (p : ℕ) (there : Option HandleRange) (b : Body) (s : Store) → IsSorted s → IsSorted (families_after table p there b s)
sorted_families table p (Some range) (body.Write ops) s h = sorted_ops table range p s ops h
sorted_families table p (Some range) body.Remove s h = sorted_cleared range s h
sorted_families table p (Some range) (body.Install conf_ver version low high ops) s h = sorted_ops table _ p _ ops (sorted_cleared _ s h)
sorted_families table p None (body.Install conf_ver version low high ops) s h = sorted_ops table _ p _ ops (sorted_cleared _ s h)
sorted_families table p (Some range) (body.Open conf_ver version low high) s h = h
sorted_families table p (Some range) (body.Split at child) s h = h
sorted_families table p (Some range) (body.Prepare target) s h = h
sorted_families table p (Some range) (body.Commit source) s h = h
sorted_families table p (Some range) body.Empty s h = h
sorted_families table p None (body.Open conf_ver version low high) s h = h
sorted_families table p None (body.Write ops) s h = h
sorted_families table p None (body.Split at child) s h = h
sorted_families table p None (body.Prepare target) s h = h
sorted_families table p None (body.Commit source) s h = h
sorted_families table p None body.Remove s h = h
sorted_families table p None body.Empty s h = h

-- ---- the regions

module _ (regions : List (ℕ × Region)) (rise : Rise nat_cmp regions) where
  abbrev put : (r : ℕ) (state : Region) (more : List (ℕ × Region)) → Rise nat_cmp more → Rise nat_cmp (with_region r state more)
  put r state more h = Rise-insert_entry nat_cmp_total more r state h

  merge_rises : (r : ℕ) (d : Descriptor) (index source : ℕ) (state : Region) → Rise nat_cmp (after_merge r d index source state regions)
  merge_rises r d index source Unborn = rise
  merge_rises r d index source (Live c) = rise
  merge_rises r d index source (Gone last) = rise
  merge_rises r d index source (Prepared c target) = put source _ _ (put r _ regions rise)

  live_rises : (r : ℕ) (d : Descriptor) (index : ℕ) (b : Body) → Rise nat_cmp (live_after r d index b regions)
  live_rises r d index (body.Split at child) = put r _ _ (put child _ regions rise)
  live_rises r d index (body.Prepare target) = put r _ regions rise
  live_rises r d index (body.Commit source) = merge_rises r d index source (region regions source)
  live_rises r d index body.Remove = put r _ regions rise
  live_rises r d index (body.Open conf_ver version low high) = put r _ regions rise
  live_rises r d index (body.Install conf_ver version low high ops) = put r _ regions rise
  live_rises r d index (body.Write ops) = put r _ regions rise
  live_rises r d index body.Empty = put r _ regions rise

  born_rises : (r index : ℕ) (b : Body) → Rise nat_cmp (born_after r index b regions)
  born_rises r index (body.Open conf_ver version low high) = put r _ regions rise
  born_rises r index (body.Install conf_ver version low high ops) = put r _ regions rise
  born_rises r index (body.Split at child) = rise
  born_rises r index (body.Prepare target) = rise
  born_rises r index (body.Commit source) = rise
  born_rises r index body.Remove = rise
  born_rises r index (body.Write ops) = rise
  born_rises r index body.Empty = rise

  pub regions_rise : (e : Entry) → Rise nat_cmp (regions_after regions e)
  regions_rise e = elim (region regions e.region) as (λ state. Rise nat_cmp (regions_step state e regions)) [
    | Unborn ↦ born_rises e.region e.index e.body
    | Live d ↦ live_rises e.region d e.index e.body
    | Prepared d target ↦ rise
    | Gone last ↦ rise
  ]

pub sorted_entry : (table : ℤ) (p : ℕ) (s : Store) (e : Entry) → IsSorted s → IsSorted (after_entry table p s e)
sorted_entry table p s e h =
    let families = sorted_families table p (range_of (region s.regions e.region)) e.body s h in
    record { regions = regions_rise s.regions h.regions e; values = families.values; locks = families.locks }

sorted_empty : IsSorted empty
unfolding IsStrictlySortedBy
sorted_empty = record { regions = tt; values = tt; locks = tt }

pub sorted_at : (log : Log) (p : ℕ) → IsSorted (at log p)
sorted_at log p = by_entries log (λ p s. IsSorted s) sorted_empty (λ p e is h. sorted_entry log.table p (at log p) e h) (λ p s h. h) p
