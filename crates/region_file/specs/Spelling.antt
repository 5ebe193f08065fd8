-- The one spelling of a region file.
use Rattle.std.specs.Prelude.{◌≡◌, ℕ, ℤ, ◌^◌, ◌<◌, false, List, [], ◌∷◌, ◌++◌, length, Option, Some, None, FitsSigned}
use Rattle.std.specs.Int.{w32, w64, to_be_bytes, cast_unsigned}
use Rattle.std.specs.List.{All, AllPairs, flat_map}
use Rattle.std.specs.List.Sorted.{IsStrictlySortedBy}
use Rattle.std.specs.Map.{keys_of}
use Rattle.std.specs.Ordering.{int_cmp, nat_cmp}
use Rattle.flash_types.specs.declared.range.HandleRange.{HandleRange}
use Rattle.kv_codec.specs.Spelling.{lock_kind_byte}
use Rattle.committed_log.specs.Store.{value_cmp}
use Rattle.committed_log.specs.declared.region.Descriptor.{Descriptor}
use Rattle.committed_log.specs.declared.store.Lock.{Lock}
use Rattle.region_state.specs.State.{State, IsWithin}
use Rattle.region_file.specs.declared.entry.Entry.{Entry}
use Rattle.region_file.specs.declared.entry.Entry.TheVariants.{Gone, There}
use Rattle.region_file.specs.Regions.{meet, ranges_of}

abbrev pub handle : ℤ → List ℕ
handle z = to_be_bytes w64 (cast_unsigned w64 z)

abbrev pub high : Option ℤ → List ℕ
high None = 0 ∷ []
high (Some z) = 1 ∷ handle z

abbrev pub range : HandleRange → List ℕ
range r = handle r.low ++ high r.high

abbrev pub target : Option ℕ → List ℕ
target None = []
target (Some id) = to_be_bytes w32 id

unfoldable pub value : (ℤ × ℕ) × List ℕ → List ℕ
value e = handle e.0.0 ++ (to_be_bytes w64 e.0.1 ++ (to_be_bytes w64 (length e.1) ++ e.1))

unfoldable pub lock : ℤ × Lock → List ℕ
lock e = handle e.0 ++ (lock_kind_byte e.1.kind ∷ to_be_bytes w64 e.1.start)

abbrev pub values : List ((ℤ × ℕ) × List ℕ) → List ℕ
values es = to_be_bytes w64 (length es) ++ flat_map value es

abbrev pub locks : List (ℤ × Lock) → List ℕ
locks es = to_be_bytes w64 (length es) ++ flat_map lock es

-- 1 live, 2 prepared
abbrev pub state : Option ℕ → ℕ
state None = 1
state (Some id) = 2

-- what a region that is there has behind its state
unfoldable pub region : State → List ℕ
region s = to_be_bytes w64 s.descriptor.index ++ (to_be_bytes w64 s.descriptor.epoch.conf_ver ++ (to_be_bytes w64 s.descriptor.epoch.version ++ (range s.descriptor.range ++ (target s.target ++ (values s.values ++ locks s.locks)))))

abbrev pub body : Entry → List ℕ
body (Gone index) = 3 ∷ to_be_bytes w64 index
body (There s) = state s.target ∷ region s

unfoldable pub entry : ℕ × Entry → List ℕ
entry e = to_be_bytes w32 e.0 ++ body e.1

-- `FLRG`, and the regions behind their count
abbrev pub file : List (ℕ × Entry) → List ℕ
file entries = 70 ∷ 76 ∷ 82 ∷ 71 ∷ (to_be_bytes w64 (length entries) ++ flat_map entry entries)

-- ---- every number is one of its type, as it is in the program

abbrev pub EndFits : Option ℤ → Type 0
EndFits None = Unit {0}
EndFits (Some z) = FitsSigned w64 z

abbrev pub TargetFits : Option ℕ → Type 0
TargetFits None = Unit {0}
TargetFits (Some id) = id < 2 ^ 32

pub record DescriptorFits (d : Descriptor) : Type 0 where
  pub low : FitsSigned w64 d.range.low
  pub high : EndFits d.range.high
  pub conf_ver : d.epoch.conf_ver < 2 ^ 64
  pub version : d.epoch.version < 2 ^ 64
  pub index : d.index < 2 ^ 64

pub record ValueFits (e : (ℤ × ℕ) × List ℕ) : Type 0 where
  pub handle : FitsSigned w64 e.0.0
  pub start : e.0.1 < 2 ^ 64
  pub size : length e.1 < 2 ^ 64

pub record LockFits (e : ℤ × Lock) : Type 0 where
  pub handle : FitsSigned w64 e.0
  pub start : e.1.start < 2 ^ 64

-- the families lie in the range, in order
pub record RegionFits (s : State) : Type 0 where
  pub descriptor : DescriptorFits s.descriptor
  pub target : TargetFits s.target
  pub few_values : length s.values < 2 ^ 64
  pub few_locks : length s.locks < 2 ^ 64
  pub values : All ValueFits s.values
  pub locks : All LockFits s.locks
  pub values_rise : IsStrictlySortedBy value_cmp (keys_of s.values)
  pub locks_rise : IsStrictlySortedBy int_cmp (keys_of s.locks)
  pub within : IsWithin s.descriptor.range s.values s.locks

abbrev pub BodyFits : Entry → Type 0
BodyFits (Gone index) = index < 2 ^ 64
BodyFits (There s) = RegionFits s

abbrev pub EntryFits : ℕ × Entry → Type 0
EntryFits e = (e.0 < 2 ^ 32) × BodyFits e.1

-- each region can be written, and their ids rise
pub record CanBeWritten (entries : List (ℕ × Entry)) : Type 0 where
  pub few : length entries < 2 ^ 64
  pub ids : IsStrictlySortedBy nat_cmp (keys_of entries)
  pub each : All EntryFits entries

-- no handle lies in the ranges of two of them
abbrev pub AreApart : List (ℕ × Entry) → Type 0
AreApart entries = AllPairs (λ (a b : HandleRange). meet b a ≡ false) (ranges_of entries)
