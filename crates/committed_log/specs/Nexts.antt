-- Admission's machinery.
-- The positions of regions' next entries, as admission keeps them by region, and what one entry more does to them.
use Rattle.std.specs.Prelude.{◌≡◌, ◌⊎◌, ℕ, ◌+◌, ◌-◌, Bool, false, ◌&&◌, ◌==◌, nat_le, Option, None, Some, List, [], ◌∷◌, ◌++◌, length, take, slice_get, option_map, if◌then◌else◌}
use Rattle.std.specs.Option.{option_and_then}
use Rattle.log_codec.specs.declared.entry.Entry.{Entry}
use Rattle.committed_log.specs.Regions.{Region, Unborn, Live, Prepared, Gone, region, acts_on}

-- the index of a region that is live or prepared: no entry comes after the last index of one that is gone
abbrev pub index_there : Region → Option ℕ
index_there Unborn = None
index_there (Live d) = Some d.index
index_there (Prepared d target) = Some d.index
index_there (Gone index) = None

abbrev pub is_there_at : ℕ → Region → Bool
is_there_at i state = elim (index_there state) [ None ↦ false | Some index ↦ index == i ]

-- whether an entry that comes after these regions is the next one of a region after an index
abbrev pub goes_on : List (ℕ × Region) → Entry → ℕ → ℕ → Bool
goes_on regions e r i = acts_on r e && is_there_at i (region regions r)

-- ---- the list of a region

-- the position of a region's next entry after its index `first`, after the one that follows it, and so on
pub record Successors : Type 0 where
  pub first : ℕ
  pub positions : List ℕ

abbrev pub next_in : Successors → ℕ → Option ℕ
next_in c i = if nat_le c.first i then slice_get c.positions (i - c.first) else None

-- of a region that may have no list yet
abbrev pub next_at : Option Successors → ℕ → Option ℕ
next_at o i = option_and_then (λ c. next_in c i) o

-- with one position more: the list begins at the index i where there is none yet
abbrev pub longer_by : ℕ → ℕ → Option Successors → Successors
longer_by i p None = record { first = i; positions = p ∷ [] }
longer_by i p (Some c) = record { first = c.first; positions = c.positions ++ p ∷ [] }

abbrev pub shorter : Successors → Successors
shorter c = record { first = c.first; positions = take (length c.positions - 1) c.positions }

-- what an entry at position p, which acts on a region in this state, makes of the region's list; and without it again
abbrev pub put_next : Region → ℕ → Option Successors → Option Successors
put_next state p o = elim (index_there state) [ None ↦ o | Some i ↦ Some (longer_by i p o) ]

abbrev pub drop_next : Region → Option Successors → Option Successors
drop_next state o = elim (index_there state) [ None ↦ o | Some i ↦ option_map shorter o ]

-- ---- how far a list reaches

-- the list of a region that is there reaches to its index, and one that isn't born has none
abbrev pub Reaches : Region → Option Successors → Type 0
Reaches Unborn o = o ≡ None
Reaches (Live d) o = elim o [ None ↦ Unit {0} | Some c ↦ c.first + length c.positions ≡ d.index ]
Reaches (Prepared d target) o = elim o [ None ↦ Unit {0} | Some c ↦ c.first + length c.positions ≡ d.index ]
Reaches (Gone index) o = Unit {0}

-- what is there after an entry's position was put, and taken out again where it was put
abbrev pub IsBack : Region → ℕ → Option Successors → Option Successors → Type 0
IsBack state p before after = (after ≡ before) ⊎ (after ≡ drop_next state (put_next state p before))
