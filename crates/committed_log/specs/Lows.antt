-- Admission's machinery.
-- The low ends of the regions that are there, by which admission finds whose a handle is, and what an entry does to them.
use Rattle.std.specs.Prelude.{◌≡◌, ℕ, ℤ, Bool, true, false, ◌==◌, int_le, int_lt, IsSome, Option, Some, None, List, if◌then◌else◌, option_map}
use Rattle.std.specs.List.Sorted.{IsStrictlySortedBy}
use Rattle.std.specs.Map.{keys_of}
use Rattle.std.specs.Ordering.{nat_cmp, int_eq}
use Rattle.flash_types.specs.declared.range.HandleRange.{HandleRange}
use Rattle.log_codec.specs.declared.entry.Body.{Body}
use Rattle.log_codec.specs.declared.entry.Body.TheVariants as body
use Rattle.log_codec.specs.declared.entry.Entry.{Entry}
use Rattle.committed_log.specs.Laws.{AreDisjoint}
use Rattle.committed_log.specs.Owned.{AreFilled}
use Rattle.committed_log.specs.Regions.{Region, region, range_of, ends_at, joined}

-- each region that is there has handles, none has another's, and the list is in order
pub record AreParted (regions : List (ℕ × Region)) : Type 0 where
  pub ordered : IsStrictlySortedBy nat_cmp (keys_of regions)
  pub filled : AreFilled regions
  pub disjoint : AreDisjoint regions

-- whether a region is there and begins at a handle
abbrev pub begins_at : ℤ → Region → Bool
begins_at h state = elim (range_of state) [ None ↦ false | Some range ↦ int_eq range.low h ]

abbrev pub names : Option ℕ → ℕ → Bool
names o r = elim o [ None ↦ false | Some q ↦ q == r ]

-- of each handle a map names the region that begins there, and no other
abbrev pub AreLows : (ℤ → Option ℕ) → List (ℕ × Region) → Type 0
AreLows low regions = (h : ℤ) (r : ℕ) → names (low h) r ≡ begins_at h (region regions r)

-- a region that begins at the handle h, the last such that isn't above a handle
pub record IsLastBelow (low : ℤ → Option ℕ) (handle h : ℤ) (r : ℕ) : Type 0 where
  pub below : int_le h handle ≡ true
  pub there : low h ≡ Some r
  pub last : (g : ℤ) → int_le g handle ≡ true → IsSome (low g) → int_le g h ≡ true

-- a region begins at the handle h, the first such above a handle
pub record IsFirstAbove (low : ℤ → Option ℕ) (handle h : ℤ) : Type 0 where
  pub above : int_lt handle h ≡ true
  pub there : IsSome (low h)
  pub first : (g : ℤ) → int_lt handle g ≡ true → IsSome (low g) → int_le h g ≡ true

-- ---- what an entry does to them

-- the two ranges of a merge, of the region and its source
abbrev pub merging : List (ℕ × Region) → ℕ → ℕ → Option (HandleRange × HandleRange)
merging regions r source = elim (range_of (region regions r)) [
  | None ↦ None
  | Some a ↦ elim (range_of (region regions source)) [ None ↦ None | Some b ↦ Some (a, b) ]
]

-- the low end at which it puts a region, and the region
abbrev pub put_low_of : List (ℕ × Region) → ℕ → Body → Option ℤ
put_low_of regions r (body.Open conf_ver version low high) = Some low
put_low_of regions r (body.Install conf_ver version low high ops) = Some low
put_low_of regions r (body.Split at child) = Some at
put_low_of regions r (body.Commit source) = option_map (λ (x : HandleRange × HandleRange). (joined x.0 x.1).low) (merging regions r source)
put_low_of regions r _ = None

abbrev pub put_region_of : ℕ → Body → ℕ
put_region_of r (body.Split at child) = child
put_region_of r _ = r

-- the low end at which no region begins any more
abbrev pub ended_low_of : List (ℕ × Region) → ℕ → Body → Option ℤ
ended_low_of regions r (body.Commit source) = option_map (λ (x : HandleRange × HandleRange). if ends_at x.0 x.1.low then x.1.low else x.0.low) (merging regions r source)
ended_low_of regions r body.Remove = option_map (λ (x : HandleRange). x.low) (range_of (region regions r))
ended_low_of regions r _ = None

-- with something else at a place, where there is a place
abbrev pub with_at : Option ℤ → Option ℕ → (ℤ → Option ℕ) → ℤ → Option ℕ
with_at place what low h = elim place [ None ↦ low h | Some x ↦ if int_eq x h then what else low h ]

abbrev pub lows_after : List (ℕ × Region) → Entry → (ℤ → Option ℕ) → ℤ → Option ℕ
lows_after regions e low = with_at (ended_low_of regions e.region e.body) None (with_at (put_low_of regions e.region e.body) (Some (put_region_of e.region e.body)) low)

-- what stands at a place, where there is a place
abbrev pub StoodAt : Option ℤ → (ℤ → Option ℕ) → Option ℕ → Type 0
StoodAt place low before = elim place [ None ↦ Unit {0} | Some x ↦ before ≡ low x ]

abbrev pub IsPut : Option ℤ → (ℤ → Option ℕ) → Type 0
IsPut place low = elim place [ None ↦ Unit {0} | Some x ↦ IsSome (low x) ]
