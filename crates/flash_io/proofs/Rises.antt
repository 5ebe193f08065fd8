-- How counts of faults rise over several calls.
use Rattle.std.proofs.Common.{◌≡◌, ℕ, ◌+◌, ◌-◌, ◌^◌, ◌≤◌, min, arith}
use Rattle.flash_io.specs.Faults.{RoseBy}

-- one rise and then another
pub rose_by_then : (m n before mid now : ℕ) → RoseBy m before mid → RoseBy n mid now → RoseBy (m + n) before now
rose_by_then m n before mid now first second = omega arith

-- a count that rose doesn't fall later
pub rose_by_goes_on : (n before mid now : ℕ) → RoseBy n before mid → mid ≤ now → RoseBy n before now
rose_by_goes_on n before mid now first later = omega arith

-- a count that rose from a later value on
pub rose_by_since : (n before mid now : ℕ) → before ≤ mid → RoseBy n mid now → RoseBy n before now
rose_by_since n before mid now later second = omega arith

-- a count that rose by more
pub rose_by_less : (m n before now : ℕ) → m ≤ n → RoseBy n before now → RoseBy m before now
rose_by_less m n before now less rose = omega arith

-- a reader's count that rose from 0 on is in the sum when the reader is taken back
pub rose_by_retired : (n own before now : ℕ) → RoseBy n 0 own → now ≡ min (2 ^ 64 - 1) (before + own) → RoseBy n before now
rose_by_retired n own before now rose sum = omega arith

-- worked: from 5 on by 2, and at the counter's end
from_five : RoseBy 2 5 7
from_five = omega arith

at_the_end : RoseBy 3 (2 ^ 64 - 1) (2 ^ 64 - 1)
at_the_end = omega arith
