-- Why an entry can't be applied to a table, and which entry comes next.
use Rattle.std.specs.Prelude.{◌≡◌, ◌⊎◌, ℕ, ◌<◌, ◌-◌, Bool, true, ◌&&◌, ◌||◌, Option, Some, None, find, nat_lt, ◌%◌, ◌==◌, if◌then◌else◌, slice_get, unwrap_or, length}
use Rattle.std.specs.Option.{option_or}
use Rattle.log_codec.specs.declared.entry.Entry.{Entry}
use Rattle.log_codec.specs.declared.entry.Body.{Body}
use Rattle.log_codec.specs.declared.entry.Body.TheVariants as body
use Rattle.committed_log.specs.Applied.{applied, entry_is, is_ready, positions}
use Rattle.committed_log.specs.Laws.{is_after, is_prepared}
use Rattle.committed_log.specs.Log.{Log, at}
use Rattle.committed_log.specs.Regions.{region, index_of, makes_region}
use Rattle.committed_log.specs.declared.region.Region.{Region}
use Rattle.region_table.specs.Table.{Table, IsReady, AtItsSet, first_out}
use Rattle.region_table.specs.declared.fault.ApplyError.{ApplyError}
use Rattle.region_table.specs.declared.fault.ApplyError.TheVariants as fault

-- ---- what is behind, where the regions have these states

-- a region is to have this index first
abbrev pub behind : (ℕ → Region) → ℕ → ℕ → Option ApplyError
behind states r wants = Some (fault.Early r (index_of (states r)) wants)

-- the entry's own region: it is to have the index before the entry's, but for an entry that makes its region
abbrev pub own_behind : (ℕ → Region) → Entry → Option ApplyError
own_behind states e = if makes_region e.body || is_after (index_of (states e.region)) e.index then None else behind states e.region (e.index - 1)

-- the source of a commit: it is to be prepared, and its prepare has the index that is given here
abbrev pub source_behind : (ℕ → Region) → ℕ → Body → Option ApplyError
source_behind states prepare (body.Commit source) = if is_prepared (states source) then None else behind states source prepare
source_behind states prepare _ = None

-- the region of the first entry that isn't applied, where the entry at position p makes its region and so waits for all
abbrev pub all_behind : Log → (ℕ → Region) → ℕ → ℕ → Entry → Option ApplyError
all_behind log states first p e = if makes_region e.body && nat_lt first p then (elim (slice_get log.entries first) [ None ↦ None | Some f ↦ behind states f.region f.index ]) else None

-- by the states of the regions, whether the entry at position p is applied, the first that isn't, and the index of the prepare of the source of its commit
abbrev pub fault_by : Log → (ℕ → Region) → Bool → ℕ → ℕ → ℕ → Entry → Option ApplyError
fault_by log states is_applied first prepare p e =
    if is_applied then Some (fault.Done e.region (unwrap_or (index_of (states e.region)) 0))
    else option_or (own_behind states e) (option_or (source_behind states prepare e.body) (all_behind log states first p e))

-- ---- at a set

-- the index of the prepare of the source of a commit: before the commit it is the source's last
abbrev pub prepare_index : Log → ℕ → Body → ℕ
prepare_index log p (body.Commit source) = unwrap_or (index_of (region (at log p).regions source)) 0
prepare_index log p _ = 0

-- Why the entry at position p can't be applied where the entries of a set are: it is applied already, or something is behind.
abbrev pub apply_fault : Log → (ℕ → Bool) → ℕ → Entry → Option ApplyError
apply_fault log A p e = fault_by log (applied log A) (A p) (first_out log A) (prepare_index log p e.body) p e

-- it is why the entry at position p can't be applied, if it can't, where the entries of the set are
abbrev pub IsFaultAt : Log → (ℕ → Bool) → ℕ → Option ApplyError → Type 0
IsFaultAt log A p found = (e : Entry) → slice_get log.entries p ≡ Some e → found ≡ apply_fault log A p e

-- a region with this last index hasn't come to the index that is wanted
abbrev pub IsBehind : Option ℕ → ℕ → Type 0
IsBehind None wants = Unit {0}
IsBehind (Some last) wants = last < wants

-- the entry at position p has this fault where the table is the log's
abbrev pub HasFault : Log → Table → ℕ → ApplyError → Type 0
HasFault log t p why = AtItsSet log t (λ A. (e : Entry) → slice_get log.entries p ≡ Some e → apply_fault log A p e ≡ Some why)

-- why it isn't applied: it has this fault, or memory ran out where it has none
abbrev pub IsCause : Log → Table → ℕ → ApplyError → Type 0
IsCause log t p (fault.Done r last) = HasFault log t p (fault.Done r last)
IsCause log t p (fault.Early r last wants) = HasFault log t p (fault.Early r last wants)
IsCause log t p fault.Memory = IsReady log t p

-- ---- what comes next

-- the least ready position below a number of which the entry passes a test
abbrev pub least_ready : Log → (ℕ → Bool) → (Entry → Bool) → ℕ → Option ℕ
least_ready log A test below = find (λ p. nat_lt p below && (is_ready log A p && entry_is log test p)) (positions log)

-- The appliers part the regions among them by number. Each is given the least ready entry of its part, or else the least of all.
abbrev pub next_ready : Log → (ℕ → Bool) → ℕ → ℕ → ℕ → Option ℕ
next_ready log A part parts below = option_or (least_ready log A (λ e. e.region % parts == part) below) (least_ready log A (λ e. true) below)

-- whether an entry is of a part of the regions
abbrev pub is_in_part : ℕ → ℕ → Entry → Bool
is_in_part part parts e = e.region % parts == part

-- It is ready, stands below the bound, and is of the part or else no entry of the part below the bound is ready.
pub record IsNextReady (log : Log) (A : ℕ → Bool) (part parts below p : ℕ) : Type 0 where
  pub ready : is_ready log A p ≡ true
  pub low : p < below
  pub fits : (entry_is log (is_in_part part parts) p ≡ true) ⊎ (least_ready log A (is_in_part part parts) below ≡ None)

-- every entry below a number is applied
abbrev pub AreApplied : Log → (ℕ → Bool) → ℕ → Type 0
AreApplied log A below = (p : ℕ) → p < below → p < length log.entries → A p ≡ true
