-- The tests by which the newest commit is found.
use Rattle.std.specs.Prelude.{ℕ, Bool, true, Option, Some, None, List, nat_le, nat_lt}
use Rattle.committed_log.specs.Store.{Store}
use Rattle.committed_log.specs.declared.region.Region.{Region}
use Rattle.committed_log.specs.declared.store.Commit.{Commit}

-- not after the timestamp, where one is given
abbrev pub is_up_to : Option ℕ → Commit → Bool
is_up_to None c = true
is_up_to (Some ts) c = nat_le c.ts ts

-- later than the best so far
abbrev pub is_newer : Option Commit → Commit → Bool
is_newer None c = true
is_newer (Some best) c = nat_lt best.ts c.ts

-- a store with these regions
abbrev pub with_regions : List (ℕ × Region) → Store → Store
with_regions regions s = record s { regions = regions }
