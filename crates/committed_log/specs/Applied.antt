-- To be believed.
-- Which entries a replica has applied, and where that leaves the regions. Regions advance by themselves, as Raft groups do, so that entries needn't be applied in the order of the log. A set of positions is a test of them.
use Rattle.std.specs.Prelude.{◌≡◌, ℕ, zero, suc, ◌<◌, Bool, true, false, not, ◌&&◌, ◌||◌, Option, Some, None, List, [], ◌∷◌, ◌++◌, IsTrue, nat_lt, ◌==◌, length, slice_get, filter, find, fold}
use Rattle.std.specs.List.{list_all}
use Rattle.log_codec.specs.declared.entry.Entry.{Entry}
use Rattle.log_codec.specs.declared.entry.Body.{Body}
use Rattle.log_codec.specs.declared.entry.Body.TheVariants as body
use Rattle.committed_log.specs.Regions.{Region, Unborn, region, index_of, acts_on}
use Rattle.committed_log.specs.Log.{Log, at}

-- 0, 1, .. up to and without n
abbrev pub first_numbers : ℕ → List ℕ
first_numbers zero = []
first_numbers (suc n) = first_numbers n ++ n ∷ []

abbrev pub positions : Log → List ℕ
positions log = first_numbers (length log.entries)

-- a test of the entry at a position
abbrev pub entry_is : Log → (Entry → Bool) → ℕ → Bool
entry_is log test p = elim (slice_get log.entries p) [ None ↦ false | Some e ↦ test e ]

abbrev pub acts_at : Log → ℕ → ℕ → Bool
acts_at log r p = entry_is log (acts_on r) p

-- what the entry at a position leaves of a region
abbrev pub left_at : Log → ℕ → ℕ → Region
left_at log r p = region (at log (suc p)).regions r

-- ---- the index of a region, its applied index in TiKV's words

abbrev pub has_index : ℕ → Region → Bool
has_index i state = elim (index_of state) [ None ↦ false | Some index ↦ index == i ]

-- the position of an index: the first that gives it to the region
abbrev pub place : Log → ℕ → ℕ → Option ℕ
place log r i = find (λ p. has_index i (left_at log r p)) (positions log)

-- the state of a region at an index
abbrev pub state : Log → ℕ → ℕ → Region
state log r i = elim (place log r i) [ None ↦ Unborn | Some p ↦ left_at log r p ]

-- the position of the next entry that acts on a region, after the one that gives it an index
abbrev pub next_of : Log → ℕ → ℕ → Option ℕ
next_of log r i = elim (place log r i) [ None ↦ None | Some p ↦ find (λ q. nat_lt p q && acts_at log r q) (positions log) ]

-- ---- closed sets

-- An entry waits for each earlier one that acts on its region, or on the source of its commit. One that makes its region waits for all, since others may have had its handles.
abbrev pub body_waits_for : Body → Entry → Bool
body_waits_for (body.Open conf_ver version low high) e = true
body_waits_for (body.Install conf_ver version low high ops) e = true
body_waits_for (body.Commit source) e = acts_on source e
body_waits_for _ e = false

abbrev pub waits_for : Entry → Entry → Bool
waits_for later e = body_waits_for later.body e || acts_on later.region e

-- with each entry those that it waits for are applied
pub record IsClosed (log : Log) (A : ℕ → Bool) : Type 0 where
  pub within : (p : ℕ) → IsTrue (A p) → p < length log.entries
  pub earlier : (p q : ℕ) (later e : Entry) → IsTrue (A p) → q < p → slice_get log.entries p ≡ Some later → slice_get log.entries q ≡ Some e → IsTrue (waits_for later e) → IsTrue (A q)

-- an entry can be applied where it isn't, and each that it waits for is
abbrev pub is_ready : Log → (ℕ → Bool) → ℕ → Bool
is_ready log A p = not (A p) && entry_is log (λ later. list_all (λ q. not (entry_is log (waits_for later) q) || A q) (first_numbers p)) p

abbrev pub with_position : (ℕ → Bool) → ℕ → ℕ → Bool
with_position A p q = q == p || A q

-- ---- the regions at a set

abbrev pub last : List ℕ → Option ℕ
last ps = fold (λ before p. Some p) None ps

-- what the applied entries leave of a region: what the last of them that acts on it leaves
abbrev pub applied : Log → (ℕ → Bool) → ℕ → Region
applied log A r = elim (last (filter (λ p. A p && acts_at log r p) (positions log))) [ None ↦ Unborn | Some p ↦ left_at log r p ]

-- the position of the next entry that acts on a region: its own, or the commit that takes it into another
abbrev pub next : Log → (ℕ → Bool) → ℕ → Option ℕ
next log A r = find (λ p. not (A p) && acts_at log r p) (positions log)

-- A region is settled for a mark where nothing below the mark is left to apply to it. Below the mark of an opened store rows may already be in its files.
abbrev pub unsettled : Option ℕ → ℕ → Bool
unsettled None mark = false
unsettled (Some p) mark = nat_lt p mark

abbrev pub is_settled : Log → (ℕ → Bool) → ℕ → ℕ → Bool
is_settled log A mark r = not (unsettled (next log A r) mark)
