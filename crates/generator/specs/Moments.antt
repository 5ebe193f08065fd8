-- What the store of the generated log is before each transaction.
use Rattle.std.specs.Prelude.{◌≡◌, ℕ, ◌+◌, ◌-◌, ◌*◌, ◌^◌, ◌≤◌, ◌<◌, ℤ, pos, negsuc, Some, None, ◌==◌, if◌then◌else◌, IfSome}
use Rattle.flash_types.specs.declared.range.HandleRange.{HandleRange}
use Rattle.committed_log.specs.declared.region.Descriptor.{Descriptor}
use Rattle.committed_log.specs.Regions.{region}
use Rattle.committed_log.specs.declared.region.Region.TheVariants.{Live}
use Rattle.committed_log.specs.Store.{Store, last_commit}
use Rattle.generator.specs.Generated.{last_index}

-- the handles of a region: a thousand, but for the first and the last region
abbrev pub part : ℕ → HandleRange
part r = record { low = if r == 1 then negsuc (2 ^ 63 - 1) else pos (1000 * (r - 1)); high = if r == 8 then None else Some (pos (1000 * r)) }

-- a region was born by a split, and split once, but for the first one that was opened and the last one
abbrev pub version : ℕ → ℕ
version r = if r == 8 then 8 else r + 1

abbrev pub descriptor : ℕ → ℕ → Descriptor
descriptor r index = record { range = part r; epoch = record { conf_ver = 1; version = version r }; index = index }

-- the eight regions are live, and each commit is earlier than the start of the transaction n
pub record IsMoment (n : ℕ) (s : Store) : Type 0 where
  pub regions : (r : ℕ) → 1 ≤ r → r ≤ 8 → region s.regions r ≡ Live (descriptor r (last_index r n))
  pub earlier : (h : ℤ) → IfSome (last_commit s.commits h) (λ c. c.ts < 10 * n + 10)
