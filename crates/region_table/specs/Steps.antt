-- What an entry does to the regions of a table.
use Rattle.committed_log.specs.declared.op.FamilyOp.{FamilyOp}
use Rattle.std.specs.Prelude.{List, ◌≡◌, ◌≢◌, ℕ, ℤ, ◌<◌, ◌^◌, true, false, IsTrue, Option, Some, None, [], int_lt, cond}
use Rattle.std.specs.BTreeMap.{is_at}
use Rattle.std.specs.List.{list_all}
use Rattle.std.specs.Ordering.{nat_cmp}
use Rattle.flash_types.specs.Ranges.{holds, is_below, touch}
use Rattle.flash_types.specs.declared.Epoch.{Epoch}
use Rattle.flash_types.specs.declared.range.HandleRange.{HandleRange}
use Rattle.raft_apply.specs.declared.command.Command.{Command}
use Rattle.raft_apply.specs.declared.command.Command.TheVariants as command
use Rattle.raft_apply.specs.declared.command.Parsed.{Parsed}
use Rattle.region_file.specs.declared.entry.Entry.TheVariants as kept
use Rattle.region_state.specs.Folding.{folded, lies_in}
use Rattle.region_state.specs.State.{State, born, prepared, lower_of, upper_of, absorbed}
use Rattle.region_table.specs.Table.{Kept, kept_in}

-- what is kept of each region
abbrev pub Keeps : Type 0
Keeps = ℕ → Option Kept

abbrev pub changed : Keeps → ℕ → Kept → Keeps
changed f r k q = cond (is_at (nat_cmp r) q) (Some k) (f q)

-- where a region is there
abbrev pub if_there : Option Kept → (State → Keeps) → Keeps → Keeps
if_there None g f = f
if_there (Some (kept.Gone index)) g f = f
if_there (Some (kept.There s)) g f = g s

-- a region that is there, after these changes
abbrev pub written : Kept → ℕ → List FamilyOp → Kept
written (kept.Gone last) index ops = kept.Gone last
written (kept.There s) index ops = kept.There (folded s index ops)

-- ---- what a step does to what is kept

-- a region that is there is kept as this makes it, and nothing changes where it isn't
abbrev pub where_there : ℕ → (State → Keeps → Keeps) → Keeps → Keeps
where_there r g f = if_there (f r) (λ s. g s f) f

-- region r is kept in this way
abbrev pub putting : ℕ → Kept → Keeps → Keeps
putting r k f = changed f r k

-- region r is there as this, or is gone with this last index
abbrev pub bearing : ℕ → State → Keeps → Keeps
bearing r s = putting r (kept.There s)

abbrev pub ending : ℕ → ℕ → Keeps → Keeps
ending r index = putting r (kept.Gone index)

abbrev pub installing : ℕ → ℕ → Epoch → HandleRange → List FamilyOp → Keeps → Keeps
installing r index epoch range ops = bearing r (folded (born range epoch index) index ops)

abbrev pub writing : ℕ → ℕ → List FamilyOp → Keeps → Keeps
writing r index ops = where_there r (λ s. bearing r (folded s index ops))

abbrev pub splitting : ℕ → ℕ → ℤ → ℕ → Keeps → Keeps
splitting r index at child =
    where_there r (λ s f. bearing r (lower_of s at index) (bearing child (upper_of s at) f))

abbrev pub preparing : ℕ → ℕ → ℕ → Keeps → Keeps
preparing r index target = where_there r (λ s. bearing r (prepared s target index))

abbrev pub merging : ℕ → ℕ → State → Keeps → Keeps
merging r index other = where_there r (λ s. bearing r (absorbed s other index))

-- the source is gone, and keeps its last index
abbrev pub committing : ℕ → ℕ → ℕ → Keeps → Keeps
committing r index source =
    where_there r (λ s. where_there source (λ other f. ending source other.descriptor.index (bearing r (absorbed s other index) f)))

-- what is kept after an entry of region r with this index
abbrev pub kept_after : Keeps → ℕ → ℕ → Command → Keeps
kept_after f r index (command.Open epoch range) = bearing r (born range epoch index) f
kept_after f r index (command.Write ops) = writing r index ops f
kept_after f r index (command.Split at child) = splitting r index at child f
kept_after f r index (command.Prepare target) = preparing r index target f
kept_after f r index (command.Commit source) = committing r index source f
kept_after f r index command.Remove = ending r index f
kept_after f r index (command.Install epoch range ops) = installing r index epoch range ops f
kept_after f r index command.Empty = writing r index [] f

abbrev pub stepping : ℕ → ℕ → Command → Keeps → Keeps
stepping r index c f = kept_after f r index c

-- the regions of a table become what the step makes of them
abbrev pub Become : List (ℕ × Kept) → List (ℕ × Kept) → (Keeps → Keeps) → Type 0
Become old new step = (q : ℕ) → kept_in new q ≡ step (kept_in old) q

-- or each is kept as it was
abbrev pub AreKept : List (ℕ × Kept) → List (ℕ × Kept) → Type 0
AreKept old new = (q : ℕ) → kept_in new q ≡ kept_in old q

-- the regions become those after the entry
abbrev pub BecomeAfter : Parsed → List (ℕ × Kept) → List (ℕ × Kept) → Type 0
BecomeAfter x old new = Become old new (stepping x.region x.index x.command)

-- ---- when an entry can be done: a lawful log has no other

abbrev pub IfThere : Option Kept → (State → Type 0) → Type 0
IfThere None P = Unit {0}
IfThere (Some (kept.Gone index)) P = Unit {0}
IfThere (Some (kept.There s)) P = P s

abbrev pub IsThere : Option Kept → Type 0
IsThere None = IsTrue false
IsThere (Some (kept.Gone index)) = IsTrue false
IsThere (Some (kept.There s)) = IsTrue true

-- an epoch whose numbers can rise
pub record CanRise (e : Epoch) : Type 0 where
  pub conf_ver : e.conf_ver < 2 ^ 63
  pub version : e.version < 2 ^ 63

pub record CanSplit (s : State) (at : ℤ) : Type 0 where
  pub above : int_lt s.descriptor.range.low at ≡ true
  pub inside : holds s.descriptor.range at ≡ true
  pub rises : CanRise s.descriptor.epoch

pub record CanMerge (s other : State) : Type 0 where
  pub touch : touch s.descriptor.range other.descriptor.range ≡ true
  pub filled : is_below s.descriptor.range.low s.descriptor.range.high ≡ true
  pub other_filled : is_below other.descriptor.range.low other.descriptor.range.high ≡ true
  pub rises : CanRise s.descriptor.epoch
  pub other_rises : CanRise other.descriptor.epoch

-- the changes lie in the region
abbrev pub CanWrite : Option Kept → List FamilyOp → Type 0
CanWrite k ops = IfThere k (λ s. list_all (lies_in s.descriptor.range) ops ≡ true)

-- the region can take the other, where both are there
abbrev pub CanTake : Option Kept → Option Kept → Type 0
CanTake k other = IfThere k (λ s. IfThere other (λ o. CanMerge s o))

abbrev pub CanBeDone : Keeps → ℕ → Command → Type 0
CanBeDone f r (command.Open epoch range) = Unit {0}
CanBeDone f r (command.Write ops) = CanWrite (f r) ops
CanBeDone f r (command.Split at child) = (child ≢ r) × (f child ≡ None) × IfThere (f r) (λ s. CanSplit s at)
CanBeDone f r (command.Prepare target) = IfThere (f r) (λ s. CanRise s.descriptor.epoch)
CanBeDone f r (command.Commit source) = (source ≢ r) × CanTake (f r) (f source)
CanBeDone f r command.Remove = Unit {0}
CanBeDone f r (command.Install epoch range ops) = list_all (lies_in range) ops ≡ true
CanBeDone f r command.Empty = Unit {0}

-- the entry can be done to these regions
abbrev pub CanDo : Parsed → List (ℕ × Kept) → Type 0
CanDo x regions = CanBeDone (kept_in regions) x.region x.command
