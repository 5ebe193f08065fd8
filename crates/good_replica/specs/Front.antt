-- How far a handle is applied.
use Rattle.std.specs.Prelude.{ℕ, zero, suc, ◌≤◌, ◌<◌, ℤ, Bool, false, ◌≡◌, ◌&&◌, length, if◌then◌else◌}
use Rattle.committed_log.specs.Laws.{touches}
use Rattle.committed_log.specs.Log.{Log}

-- one past the last of the first n positions that is applied and touches the handle, or 0
abbrev pub front_below : Log → (ℕ → Bool) → ℤ → ℕ → ℕ
front_below log A h zero = 0
front_below log A h (suc n) = if A n && touches log h n then suc n else front_below log A h n

-- The front of a handle: up to it the log's entries are applied, as far as they concern the handle. Regions advance by themselves, so each handle has a front of its own.
abbrev pub front : Log → (ℕ → Bool) → ℤ → ℕ
front log A h = front_below log A h (length log.entries)

-- no entry from f up to and without m takes the handle's versions away, where `clears` tells which do
abbrev pub IsUncleared : (ℕ → Bool) → ℕ → ℕ → Type 0
IsUncleared clears f m = (p : ℕ) → f ≤ p → p < m → clears p ≡ false
