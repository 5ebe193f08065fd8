-- To be believed.
-- What the laws of the row store speak of.
use Rattle.std.specs.Prelude.{◌≡◌, ℕ, suc, ◌<◌, ◌≤◌, ℤ, Bool, true, false, ◌&&◌, Option, Some, None, List, ◌∷◌, ◌++◌, ◌==◌, ◌||◌, if◌then◌else◌, filter, map, length}
use Rattle.std.specs.Ordering.{nat_cmp, int_cmp}
use Rattle.std.specs.List.{All, AllPairs, Contains, list_all, list_any}
use Rattle.std.specs.List.Sorted.{IsStrictlySortedBy}
use Rattle.std.specs.Map.{keys_of}
use Rattle.column_block.specs.declared.cell.Row.{Row}
use Rattle.flash_types.specs.Ranges.{holds}
use Rattle.flash_types.specs.declared.range.HandleRange.{HandleRange}
use Rattle.flash_types.specs.declared.Epoch.{Epoch}
use Rattle.log_codec.specs.declared.entry.Body.{Body}
use Rattle.log_codec.specs.declared.entry.Body.TheVariants as body
use Rattle.log_codec.specs.declared.entry.Entry.{Entry}
use Rattle.committed_log.specs.Regions.{Region, Unborn, Live, Prepared, Gone, region, range_of, index_of, makes_region, also_acted}
use Rattle.committed_log.specs.Store.{Store, Lock, Commit, value_cmp, holds_some}
use Rattle.committed_log.specs.Log.{Log, at}
use Rattle.committed_log.specs.Applied.{acts_at, left_at, applied, is_settled, first_numbers, entry_is}
use Rattle.committed_log.specs.Applied as Applied

-- each map of a store has its keys in order
pub record IsSorted (s : Store) : Type 0 where
  pub regions : IsStrictlySortedBy nat_cmp (keys_of s.regions)
  pub values : IsStrictlySortedBy value_cmp (keys_of s.values)
  pub locks : IsStrictlySortedBy int_cmp (keys_of s.locks)

-- a log with these entries more
abbrev pub longer : Log → List Entry → Log
longer log more = record log { entries = log.entries ++ more }

-- the state of a region after the first p entries
abbrev pub region_at : Log → ℕ → ℕ → Region
region_at log r p = region (at log p).regions r

-- ---- whose a handle is

-- whether a region has the handle
abbrev pub owned : Region → ℤ → Bool
owned state h = holds_some (range_of state) h

abbrev pub owns : List (ℕ × Region) → ℕ → ℤ → Bool
owns regions r h = owned (region regions r) h

-- no handle lies in two live or prepared regions
pub record AreDisjoint (regions : List (ℕ × Region)) : Type 0 where
  pub one : (q r : ℕ) (h : ℤ) → owns regions q h ≡ true → owns regions r h ≡ true → q ≡ r

-- ---- the families of a range

-- two stores have the same values, locks and commits on the handles that pass a test
pub record AreSameOn (test : ℤ → Bool) (s t : Store) : Type 0 where
  pub values : filter (λ (e : (ℤ × ℕ) × List ℕ). test e.0.0) s.values ≡ filter (λ (e : (ℤ × ℕ) × List ℕ). test e.0.0) t.values
  pub locks : filter (λ (e : ℤ × Lock). test e.0) s.locks ≡ filter (λ (e : ℤ × Lock). test e.0) t.locks
  pub commits : filter (λ (c : Commit). test c.handle) s.commits ≡ filter (λ (c : Commit). test c.handle) t.commits

abbrev pub AreSameWithin : HandleRange → Store → Store → Type 0
AreSameWithin range s t = AreSameOn (holds range) s t

-- an entry touches a handle where a region that it acts on has the handle before the entry or after it
abbrev pub touches : Log → ℤ → ℕ → Bool
touches log h p = entry_is log (λ e. list_any (λ r. owns (at log p).regions r h || owns (at log (suc p)).regions r h) (e.region ∷ also_acted e.body)) p

-- ---- numbers

-- the numbers of an epoch are below a bound
pub record IsEpochBelow (bound : ℕ) (e : Epoch) : Type 0 where
  pub conf_ver : e.conf_ver < bound
  pub version : e.version < bound

-- an index is below the first bound, and an epoch's numbers are below the second
abbrev pub AreBelow : ℕ → ℕ → Region → Type 0
AreBelow indexes epochs Unborn = Unit {0}
AreBelow indexes epochs (Live d) = (d.index < indexes) × IsEpochBelow epochs d.epoch
AreBelow indexes epochs (Prepared d target) = (d.index < indexes) × IsEpochBelow epochs d.epoch
AreBelow indexes epochs (Gone index) = index < indexes

-- ---- positions and sets

-- the entry that gave a region its index is the last below p that acts on it, and left it as it is at p
pub record IsLastActing (log : Log) (r p index : ℕ) : Type 0 where
  pub place : ℕ
  pub is : Applied.place log r index ≡ Some place
  pub below : place < p
  pub acts : acts_at log r place ≡ true
  pub later : (q : ℕ) → place < q → q < p → acts_at log r q ≡ false
  pub left : left_at log r place ≡ region_at log r p
  pub state : Applied.state log r index ≡ region_at log r p

-- the least position that isn't in a set
pub record IsFirstOut (log : Log) (A : ℕ → Bool) (p : ℕ) : Type 0 where
  pub within : p < length log.entries
  pub out : A p ≡ false
  pub first : (q : ℕ) → q < p → A q ≡ true

abbrev pub IsInside : (ℕ → Bool) → (ℕ → Bool) → Type 0
IsInside B A = (p : ℕ) → B p ≡ true → A p ≡ true

-- what stays of a region as the set B grows to A
pub record HasGrown (log : Log) (B A : ℕ → Bool) (r : ℕ) : Type 0 where
  pub index : (i : ℕ) → index_of (applied log B r) ≡ Some i → (j : ℕ) × (index_of (applied log A r) ≡ Some j) × (i ≤ j)
  pub gone : (index : ℕ) → applied log B r ≡ Gone index → applied log A r ≡ Gone index
  pub next : (q : ℕ) → Applied.next log A r ≡ Some q → (p : ℕ) × (Applied.next log B r ≡ Some p) × (p ≤ q)
  pub settled : (mark : ℕ) → is_settled log B mark r ≡ true → is_settled log A mark r ≡ true

-- ---- commits

-- Of two commits on one handle the later in the list has the greater timestamp: no more than those since the handle was last taken away are in it.
abbrev pub CommitsRise : List Commit → Type 0
CommitsRise commits = AllPairs (λ (c d : Commit). c.handle ≡ d.handle → c.ts < d.ts) commits

-- ---- rows

-- the rows rise by handle, each is what the rule gives of its handle, and none that it gives is missing
pub record AreRowsBy (rule : ℤ → Option Row) (rows : List Row) : Type 0 where
  pub rise : IsStrictlySortedBy int_cmp (map (λ (row : Row). row.handle) rows)
  pub each : All (λ (row : Row). rule row.handle ≡ Some row) rows
  pub all : (h : ℤ) (row : Row) → rule h ≡ Some row → Contains rows row

-- ---- what an entry waits for, told by the regions

abbrev pub is_after : Option ℕ → ℕ → Bool
is_after None index = false
is_after (Some last) index = suc last == index

abbrev pub is_prepared : Region → Bool
is_prepared (Prepared d target) = true
is_prepared _ = false

abbrev pub is_source_prepared : Log → (ℕ → Bool) → Body → Bool
is_source_prepared log A (body.Commit source) = is_prepared (applied log A source)
is_source_prepared log A _ = true

-- Its region has the index before its own, or where it makes its region all earlier entries are applied; and the source of its commit is prepared.
abbrev pub waits_no_more : Log → (ℕ → Bool) → ℕ → Entry → Bool
waits_no_more log A p e =
    (if makes_region e.body then list_all A (first_numbers p) else is_after (index_of (applied log A e.region)) e.index) && is_source_prepared log A e.body
