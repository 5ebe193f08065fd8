-- To be believed.
-- The row store: the regions, and TiKV's column families default, lock and write, folded over the entries of a log.
use Rattle.std.specs.Prelude.{ℕ, suc, ℤ, Bool, true, false, not, ◌&&◌, Option, Some, None, Ok, Err, List, [], ◌∷◌, ◌++◌, nat_lt, ◌==◌, if◌then◌else◌, option_map, filter, fold, map, is_none}
use Rattle.std.specs.Option.{option_or}
use Rattle.std.specs.Ordering.{nat_cmp, int_cmp, int_eq, ordering_then}
use Rattle.std.specs.declared.cmp.Ordering.{Ordering}
use Rattle.std.specs.BTreeMap.{insert_entry, is_at}
use Rattle.std.specs.Map.{lookup, remove_entry}
use Rattle.flash_types.specs.Ranges.{holds}
use Rattle.flash_types.specs.declared.range.HandleRange.{HandleRange}
use Rattle.log_codec.specs.declared.entry.Entry.{Entry}
use Rattle.log_codec.specs.declared.entry.Body.{Body}
use Rattle.log_codec.specs.declared.entry.Body.TheVariants as body
use Rattle.log_codec.specs.declared.entry.Op.{Op}
pub use Rattle.committed_log.specs.declared.store.Commit.{Commit}
pub use Rattle.committed_log.specs.declared.store.Lock.{Lock}
use Rattle.committed_log.specs.declared.op.LastCommit.{LastCommit}
use Rattle.committed_log.specs.declared.op.FamilyOp.{FamilyOp}
use Rattle.committed_log.specs.declared.op.FamilyOp.TheVariants as change
use Rattle.committed_log.specs.Changes.{change_of}
use Rattle.committed_log.specs.Regions.{Region, region, range_of, regions_after}

-- The regions by number, the values by handle and start, and the locks by handle, each list in the order of its keys; the commits, the oldest first.
pub record Store : Type 0 where
  pub regions : List (ℕ × Region)
  pub values : List ((ℤ × ℕ) × List ℕ)
  pub locks : List (ℤ × Lock)
  pub commits : List Commit

abbrev pub empty : Store
empty = record { regions = []; values = []; locks = []; commits = [] }

-- ---- look-ups

abbrev pub value_cmp : ℤ × ℕ → ℤ × ℕ → Ordering
value_cmp a b = ordering_then (int_cmp a.0 b.0) (nat_cmp a.1 b.1)

abbrev pub value : List ((ℤ × ℕ) × List ℕ) → ℤ → ℕ → Option (List ℕ)
value values h start = lookup (is_at (value_cmp (h, start))) values

abbrev pub lock : List (ℤ × Lock) → ℤ → Option Lock
lock locks h = lookup (is_at (int_cmp h)) locks

abbrev pub newer : Option Commit → Option Commit → Option Commit
newer None d = d
newer (Some c) None = Some c
newer (Some c) (Some d) = if nat_lt c.ts d.ts then Some d else Some c

abbrev pub candidate : (Commit → Bool) → ℤ → Commit → Option Commit
candidate test h c = if int_eq c.handle h && test c then Some c else None

-- of the commits on a handle that pass a test the one with the greatest timestamp
abbrev pub newest : (Commit → Bool) → ℤ → List Commit → Option Commit
newest test h commits = fold newer None (map (candidate test h) commits)

abbrev pub is_delete : Commit → Bool
is_delete c = is_none c.value

abbrev pub last_commit : List Commit → ℤ → Option LastCommit
last_commit commits h = option_map (λ (c : Commit). record { ts = c.ts; start = c.start; gone = is_delete c }) (newest (λ c. true) h commits)

-- ---- changes

-- a record that says again what the handle's last commit says, as where an entry is proposed twice
abbrev pub is_repeated : Option LastCommit → ℕ → ℕ → Bool → Bool
is_repeated None ts start gone = false
is_repeated (Some c) ts start gone = c.ts == ts && c.start == start && (if c.gone then gone else not gone)

-- what a commit puts: its short value, or else what the default family has for its handle and start
abbrev pub committed_value : Bool → Option (List ℕ) → Option (List ℕ) → Option (List ℕ)
committed_value gone short long = if gone then None else option_or short long

-- the store after one change, by the entry at position p
abbrev pub after_change : ℕ → Store → FamilyOp → Store
after_change p s (change.Value h start bytes) = record s { values = insert_entry value_cmp s.values (h, start) bytes }
after_change p s (change.DropValue h start) = record s { values = remove_entry (is_at (value_cmp (h, start))) s.values }
after_change p s (change.Lock h kind start) = record s { locks = insert_entry int_cmp s.locks h (record { kind = kind; start = start }) }
after_change p s (change.Unlock h) = record s { locks = remove_entry (is_at (int_cmp h)) s.locks }
after_change p s (change.Write h ts start gone short) =
    if is_repeated (last_commit s.commits h) ts start gone then s
    else record s { commits = s.commits ++ record { handle = h; ts = ts; start = start; value = committed_value gone short (value s.values h start); position = p } ∷ [] }

-- an op of a lawful log has no fault
abbrev pub after_op : ℤ → HandleRange → ℕ → Store → Op → Store
after_op table range p s op = elim (change_of table range op) [ Err fault ↦ s | Ok found ↦ elim found [ None ↦ s | Some c ↦ after_change p s c ] ]

abbrev pub after_ops : ℤ → HandleRange → ℕ → Store → List Op → Store
after_ops table range p s ops = fold (after_op table range p) s ops

-- nothing is left of the handles in a range
abbrev pub cleared : HandleRange → Store → Store
cleared range s = record s {
  values = filter (λ (e : (ℤ × ℕ) × List ℕ). not (holds range e.0.0)) s.values;
  locks = filter (λ (e : ℤ × Lock). not (holds range e.0)) s.locks;
  commits = filter (λ (c : Commit). not (holds range c.handle)) s.commits;
}

-- ---- entries

-- whether there are handles, and this is one of them
abbrev pub holds_some : Option HandleRange → ℤ → Bool
holds_some there h = elim there [ None ↦ false | Some range ↦ holds range h ]

-- the handles whose families an entry takes away, where its region has these: the region's for a Remove, its own range's for an Install
abbrev pub clearing_of : Option HandleRange → Body → Option HandleRange
clearing_of there body.Remove = there
clearing_of there (body.Install conf_ver version low high ops) = Some (record { low = low; high = high })
clearing_of there _ = None

-- the families after an entry of a region, which has these handles where it is there: a split and a merge leave them, since they are kept by handle
abbrev pub families_after : ℤ → ℕ → Option HandleRange → Body → Store → Store
families_after table p (Some range) (body.Write ops) s = after_ops table range p s ops
families_after table p (Some range) body.Remove s = cleared range s
families_after table p there (body.Install conf_ver version low high ops) s =
    let range : HandleRange = record { low = low; high = high } in after_ops table range p (cleared range s) ops
families_after table p there _ s = s

-- the store after the entry at position p
abbrev pub after_entry : ℤ → ℕ → Store → Entry → Store
after_entry table p s e = record (families_after table p (range_of (region s.regions e.region)) e.body s) { regions = regions_after s.regions e }

-- the store after these entries, of which the first stands at position p
abbrev pub after_from : ℤ → ℕ → Store → List Entry → Store
after_from table p s [] = s
after_from table p s (e ∷ es) = after_from table (suc p) (after_entry table p s e) es

abbrev pub store_of : ℤ → List Entry → Store
store_of table entries = after_from table 0 empty entries
