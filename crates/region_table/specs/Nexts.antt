-- Which entry comes next, by what a table keeps. It is what the row store says at the table's set, as a law tells.
use Rattle.std.specs.Prelude.{◌≡◌, ℕ, Bool, ◌&&◌, Option, Some, None, List, [], ◌∷◌, nat_lt, if◌then◌else◌, filter, is_none, cond}
use Rattle.std.specs.BTreeMap.{is_at}
use Rattle.std.specs.Option.{option_or}
use Rattle.std.specs.Ordering.{nat_cmp}
use Rattle.log_codec.specs.declared.entry.Entry.{Entry}
use Rattle.committed_log.specs.Applied.{entry_is, next_of}
use Rattle.committed_log.specs.Log.{Log}
use Rattle.raft_apply.specs.declared.command.Command.{Command}
use Rattle.raft_apply.specs.declared.command.Command.TheVariants as command
use Rattle.raft_apply.specs.declared.command.Parsed.{Parsed}
use Rattle.region_table.specs.Applying.{fault_by, is_in_part}
use Rattle.region_table.specs.Counting.{applied_in}
use Rattle.region_table.specs.Faults.{prepare_at_end}
use Rattle.region_table.specs.Table.{Kept, state_in, next_in}
use Rattle.region_table.specs.declared.positions.Added.{Added}
use Rattle.region_table.specs.declared.ready.Wanted.{Wanted}

-- whether the entry at a position is ready, where `first` is the first that isn't applied
abbrev pub ready_in : Log → List (ℕ × Kept) → ℕ → ℕ → Bool
ready_in log regions first p = entry_is log (λ e. is_none (fault_by log (state_in regions) (applied_in log regions p) first (prepare_at_end log e.body) p e)) p

-- and stands below a number, and passes a test
abbrev pub passes_in : Log → List (ℕ × Kept) → ℕ → (Entry → Bool) → ℕ → ℕ → Bool
passes_in log regions first test below p = nat_lt p below && (ready_in log regions first p && entry_is log test p)

-- is of the wanted part, and stands below the wanted bound
abbrev pub is_wanted : Log → List (ℕ × Kept) → ℕ → Wanted → ℕ → Bool
is_wanted log regions first w = passes_in log regions first (is_in_part w.part w.parts) w.below

-- ---- the first of the next entries that passes

abbrev pub if_passes : (ℕ → Bool) → ℕ → Option ℕ
if_passes passes p = if passes p then Some p else None

abbrev pub first_passing : (ℕ → Bool) → List (ℕ × Unit {0}) → Option ℕ
first_passing passes [] = None
first_passing passes (e ∷ es) = option_or (if_passes passes e.0) (first_passing passes es)

abbrev pub first_below : (ℕ → Bool) → ℕ → List (ℕ × Unit {0}) → Option ℕ
first_below passes below nexts = first_passing passes (filter (λ (e : ℕ × Unit {0}). nat_lt e.0 below) nexts)

-- the first that is wanted
abbrev pub first_wanted : Log → List (ℕ × Kept) → ℕ → Wanted → List (ℕ × Unit {0}) → Option ℕ
first_wanted log regions first w = first_below (is_wanted log regions first w) w.below

-- ---- as an entry is applied

-- the next entry of the region of an entry, where this leaves it there
abbrev pub own_next : Log → ℕ → ℕ → Command → Option ℕ
own_next log r index (command.Open epoch range) = next_of log r index
own_next log r index (command.Write ops) = next_of log r index
own_next log r index (command.Split at child) = next_of log r index
own_next log r index (command.Prepare target) = next_of log r index
own_next log r index (command.Commit source) = next_of log r index
own_next log r index command.Remove = None
own_next log r index (command.Install epoch range ops) = next_of log r index
own_next log r index command.Empty = next_of log r index

-- and of the child of a split, whose first index is 5
abbrev pub child_next : Log → Command → Option ℕ
child_next log (command.Split at child) = next_of log child 5
child_next log _ = None

-- which positions are there
abbrev pub Places : Type 0
Places = ℕ → Option (Unit {0})

abbrev pub plus : Option ℕ → Places → Places
plus None f q = f q
plus (Some p) f q = cond (is_at (nat_cmp p) q) (Some (tt {0})) (f q)

abbrev pub minus : Option ℕ → Places → Places
minus None f q = f q
minus (Some p) f q = cond (is_at (nat_cmp p) q) None (f q)

-- without those that were added for a region and for a child
abbrev pub minus_both : Added → Places → Places
minus_both new f = minus new.own (minus new.child f)

-- the next positions after an entry of region r with this index, at position p
abbrev pub nexts_after : Log → ℕ → ℕ → ℕ → Command → Places → Places
nexts_after log p r index c f q = minus (Some p) (plus (child_next log c) (plus (own_next log r index c) f)) q

-- the next positions are these
abbrev pub NextsAre : List (ℕ × Unit {0}) → Places → Type 0
NextsAre nexts f = (q : ℕ) → next_in nexts q ≡ f q

-- and these are the next positions
abbrev pub AreTheNexts : Places → List (ℕ × Unit {0}) → Type 0
AreTheNexts f nexts = (q : ℕ) → f q ≡ next_in nexts q

-- the next positions become those after the entry
abbrev pub NextsAfter : Log → Parsed → List (ℕ × Unit {0}) → List (ℕ × Unit {0}) → Type 0
NextsAfter log x old new = NextsAre new (nexts_after log x.position x.region x.index x.command (next_in old))
