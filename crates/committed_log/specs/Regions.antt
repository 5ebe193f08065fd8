-- To be believed.
-- Regions, as TiKV splits a table into them: each is a range of handles with a Raft log of its own. The epoch's version rises where the range changes, so that a reader sees that its idea of the range is old.
use Rattle.std.specs.Prelude.{ℕ, ◌+◌, max, ℤ, Bool, true, false, Option, Some, None, List, [], ◌∷◌, ◌==◌, if◌then◌else◌, unwrap_or}
use Rattle.std.specs.Ordering.{nat_cmp}
use Rattle.std.specs.BTreeMap.{insert_entry, is_at}
use Rattle.std.specs.Map.{lookup}
use Rattle.std.specs.List.{list_any}
use Rattle.flash_types.specs.declared.range.HandleRange.{HandleRange}
pub use Rattle.flash_types.specs.Ranges.{ends_at, joined}
use Rattle.flash_types.specs.declared.Epoch.{Epoch}
use Rattle.log_codec.specs.declared.entry.Entry.{Entry}
use Rattle.log_codec.specs.declared.entry.Body.{Body}
use Rattle.log_codec.specs.declared.entry.Body.TheVariants as body
use Rattle.committed_log.specs.declared.region.Descriptor.{Descriptor}
pub use Rattle.committed_log.specs.declared.region.Region.{Region}
pub use Rattle.committed_log.specs.declared.region.Region.TheVariants.{Unborn, Live, Prepared, Gone}

-- the state of a region, where each that is born stands in a list, in order
abbrev pub region : List (ℕ × Region) → ℕ → Region
region regions r = unwrap_or (lookup (is_at (nat_cmp r)) regions) Unborn

abbrev pub with_region : ℕ → Region → List (ℕ × Region) → List (ℕ × Region)
with_region r state regions = insert_entry nat_cmp regions r state

-- the handles that a region has
abbrev pub range_of : Region → Option HandleRange
range_of Unborn = None
range_of (Live d) = Some d.range
range_of (Prepared d target) = Some d.range
range_of (Gone index) = None

-- the last index of a region that is born
abbrev pub index_of : Region → Option ℕ
index_of Unborn = None
index_of (Live d) = Some d.index
index_of (Prepared d target) = Some d.index
index_of (Gone index) = Some index

-- ---- which regions an entry makes, changes or ends

abbrev pub also_acted : Body → List ℕ
also_acted (body.Split at child) = child ∷ []
also_acted (body.Commit source) = source ∷ []
also_acted _ = []

abbrev pub acts_on : ℕ → Entry → Bool
acts_on r e = list_any (λ acted. acted == r) (e.region ∷ also_acted e.body)

abbrev pub makes_region : Body → Bool
makes_region (body.Open conf_ver version low high) = true
makes_region (body.Install conf_ver version low high ops) = true
makes_region _ = false

-- ---- splits and merges

abbrev pub raised : Epoch → ℕ → ℕ → Epoch
raised e conf_ver version = record { conf_ver = e.conf_ver + conf_ver; version = e.version + version }

-- the two regions of a split: the child has index 5, as TiKV's first index is
abbrev pub lower_part : Descriptor → ℤ → ℕ → Descriptor
lower_part d at index = record { range = record { low = d.range.low; high = Some at }; epoch = raised d.epoch 0 1; index = index }

abbrev pub upper_part : Descriptor → ℤ → Descriptor
upper_part d at = record { range = record { low = at; high = d.range.high }; epoch = raised d.epoch 0 1; index = 5 }

-- a region into which the source s was merged
abbrev pub merged : Descriptor → Descriptor → ℕ → Descriptor
merged d s index = record { range = joined d.range s.range; epoch = record { conf_ver = d.epoch.conf_ver; version = max d.epoch.version s.epoch.version + 1 }; index = index }

abbrev pub after_merge : ℕ → Descriptor → ℕ → ℕ → Region → List (ℕ × Region) → List (ℕ × Region)
after_merge r d index source (Prepared s target) regions = with_region source (Gone s.index) (with_region r (Live (merged d s index)) regions)
after_merge r d index source _ regions = regions

-- ---- the regions after an entry

-- an entry of a live region; a region that is prepared has no later entries of its own
abbrev pub live_after : ℕ → Descriptor → ℕ → Body → List (ℕ × Region) → List (ℕ × Region)
live_after r d index (body.Split at child) regions = with_region r (Live (lower_part d at index)) (with_region child (Live (upper_part d at)) regions)
live_after r d index (body.Prepare target) regions = with_region r (Prepared (record { range = d.range; epoch = raised d.epoch 1 1; index = index }) target) regions
live_after r d index (body.Commit source) regions = after_merge r d index source (region regions source) regions
live_after r d index body.Remove regions = with_region r (Gone index) regions
live_after r d index _ regions = with_region r (Live (record d { index = index })) regions

abbrev pub born : ℕ → ℕ → ℤ → Option ℤ → ℕ → Region
born conf_ver version low high index = Live (record { range = record { low = low; high = high }; epoch = record { conf_ver = conf_ver; version = version }; index = index })

-- an entry that makes its region
abbrev pub born_after : ℕ → ℕ → Body → List (ℕ × Region) → List (ℕ × Region)
born_after r index (body.Open conf_ver version low high) regions = with_region r (born conf_ver version low high index) regions
born_after r index (body.Install conf_ver version low high ops) regions = with_region r (born conf_ver version low high index) regions
born_after r index _ regions = regions

-- no other region than an unborn or a live one has an entry
abbrev pub regions_step : Region → Entry → List (ℕ × Region) → List (ℕ × Region)
regions_step Unborn e regions = born_after e.region e.index e.body regions
regions_step (Live d) e regions = live_after e.region d e.index e.body regions
regions_step (Prepared d target) e regions = regions
regions_step (Gone last) e regions = regions

abbrev pub regions_after : List (ℕ × Region) → Entry → List (ℕ × Region)
regions_after regions e = regions_step (region regions e.region) e regions
