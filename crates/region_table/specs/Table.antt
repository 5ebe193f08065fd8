-- The region table of a replica, and when it is that of a log at a set of applied entries.
use Rattle.std.specs.Prelude.{◌≡◌, ℕ, suc, ℤ, Bool, true, false, not, Option, Some, None, is_some, List, [], length, filter, find, unwrap_or}
use Rattle.std.specs.BTreeMap.{is_at}
use Rattle.std.specs.Map.{lookup}
use Rattle.std.specs.Ordering.{nat_cmp}
use Rattle.committed_log.specs.declared.region.Descriptor.{Descriptor}
use Rattle.committed_log.specs.Applied.{IsClosed, applied, place, positions, next, is_ready, with_position}
use Rattle.committed_log.specs.Log.{Log, at}
use Rattle.committed_log.specs.declared.region.Region.{Region}
use Rattle.committed_log.specs.declared.region.Region.TheVariants.{Unborn, Live, Prepared, Gone}
use Rattle.committed_log.specs.Replies.{locks_at}
use Rattle.region_file.specs.declared.entry.Entry.{Entry}
use Rattle.region_file.specs.declared.entry.Entry.TheVariants as kept
use Rattle.region_state.specs.State.{State, values_in, locks_in}
use Rattle.region_table.specs.declared.table.Counted.{Counted}

-- what is kept of a region that is born
abbrev pub Kept : Type 0
Kept = Entry

-- The regions that are born, by number; how many entries are applied and which is the first that isn't; and the positions of the entries that come next for the regions that are there.
pub record Table : Type 0 where
  pub regions : List (ℕ × Kept)
  pub counted : Counted
  pub nexts : List (ℕ × Unit {0})

abbrev pub kept_in : List (ℕ × Kept) → ℕ → Option Kept
kept_in regions r = lookup (is_at (nat_cmp r)) regions

-- ---- the state that a table has a region in

abbrev pub state_there : State → Region
state_there s = elim s.target [ None ↦ Live s.descriptor | Some target ↦ Prepared s.descriptor target ]

abbrev pub state_kept : Option Kept → Region
state_kept None = Unborn
state_kept (Some (kept.Gone index)) = Gone index
state_kept (Some (kept.There region)) = state_there region

abbrev pub state_in : List (ℕ × Kept) → ℕ → Region
state_in regions r = state_kept (kept_in regions r)

-- ---- the table of a log

-- what the default family has where a region gets an index
abbrev pub values_at : Log → ℕ → ℕ → List ((ℤ × ℕ) × List ℕ)
values_at log r i = elim (place log r i) [ None ↦ [] | Some p ↦ (at log (suc p)).values ]

-- a region that is there: the values and the locks of its handles are those at its index
abbrev pub there_at : Log → ℕ → Descriptor → Option ℕ → Kept
there_at log r d target = kept.There (record { descriptor = d; target = target; values = values_in d.range (values_at log r d.index); locks = locks_in d.range (locks_at log r d.index) })

abbrev pub kept_at : Log → ℕ → Region → Option Kept
kept_at log r Unborn = None
kept_at log r (Live d) = Some (there_at log r d None)
kept_at log r (Prepared d target) = Some (there_at log r d (Some target))
kept_at log r (Gone index) = Some (kept.Gone index)

-- how many entries are applied
abbrev pub size_of : Log → (ℕ → Bool) → ℕ
size_of log A = length (filter A (positions log))

-- the first entry that isn't applied, or the end of the log
abbrev pub first_out : Log → (ℕ → Bool) → ℕ
first_out log A = unwrap_or (find (λ p. not (A p)) (positions log)) (length log.entries)

pub record IsCounted (log : Log) (A : ℕ → Bool) (c : Counted) : Type 0 where
  pub count : c.count ≡ size_of log A
  pub first : c.first ≡ first_out log A

-- ---- the next entries

abbrev pub is_there : Region → Bool
is_there Unborn = false
is_there (Live d) = true
is_there (Prepared d target) = true
is_there (Gone index) = false

abbrev pub next_in : List (ℕ × Unit {0}) → ℕ → Option (Unit {0})
next_in nexts q = lookup (is_at (nat_cmp q)) nexts

-- The positions are those of the next entries of the regions that are there: no gone region has one.
pub record AreNexts (log : Log) (A : ℕ → Bool) (nexts : List (ℕ × Unit {0})) : Type 0 where
  pub each : (q : ℕ) → is_some (next_in nexts q) ≡ true → (r : ℕ) × (is_there (applied log A r) ≡ true) × (next log A r ≡ Some q)
  pub all : (q r : ℕ) → is_there (applied log A r) ≡ true → next log A r ≡ Some q → is_some (next_in nexts q) ≡ true

-- ---- the table of a log at a set

-- The applied entries are a closed set, and each region is as they leave it.
pub record AreRegionsAt (log : Log) (A : ℕ → Bool) (entries : List (ℕ × Kept)) : Type 0 where
  pub closed : IsClosed log A
  pub regions : (r : ℕ) → kept_in entries r ≡ kept_at log r (applied log A r)

-- Besides, what was counted is right, and the next entries are these.
pub record IsTableAt (log : Log) (A : ℕ → Bool) (t : Table) : Type 0 where
  pub closed : IsClosed log A
  pub regions : (r : ℕ) → kept_in t.regions r ≡ kept_at log r (applied log A r)
  pub counted : IsCounted log A t.counted
  pub nexts : AreNexts log A t.nexts

-- the table is that of the log at some set
abbrev pub Agrees : Log → Table → Type 0
Agrees log t = (A : ℕ → Bool) × IsTableAt log A t

-- what holds at the set that the table is the log's at
abbrev pub AtItsSet : Log → Table → ((ℕ → Bool) → Type 0) → Type 0
AtItsSet log t P = (A : ℕ → Bool) → IsTableAt log A t → P A

-- the entry at position p is ready there
abbrev pub IsReady : Log → Table → ℕ → Type 0
IsReady log t p = AtItsSet log t (λ A. is_ready log A p ≡ true)

abbrev pub IsUnready : Log → Table → ℕ → Type 0
IsUnready log t p = AtItsSet log t (λ A. is_ready log A p ≡ false)

-- the table `new` is that of the log where the entry at position p is applied besides
abbrev pub HasApplied : Log → ℕ → Table → Table → Type 0
HasApplied log p old new = AtItsSet log old (λ A. IsTableAt log (with_position A p) new)

-- no region is born, and no entry is applied
abbrev pub empty_table : Table
empty_table = record { regions = []; counted = record { count = 0; first = 0 }; nexts = [] }
