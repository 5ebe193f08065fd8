-- A small log of a merge, and why its entries can't be applied at some sets.
use Rattle.std.specs.Prelude.{◌≡◌, ℕ, ◌^◌, ◌-◌, pos, negsuc, Bool, Some, None, [], ◌∷◌, nat_lt}
use Rattle.log_codec.specs.declared.entry.Body.{Body}
use Rattle.log_codec.specs.declared.entry.Body.TheVariants as body
use Rattle.log_codec.specs.declared.entry.Entry.{Entry}
use Rattle.committed_log.specs.Lawful.{AllAdmitted}
use Rattle.committed_log.specs.Log.{Log}
use Rattle.committed_log.specs.Store.{empty}
use Rattle.region_table.specs.Applying.{apply_fault}
use Rattle.region_table.specs.declared.fault.ApplyError.TheVariants as fault

abbrev pub entry : ℕ → ℕ → Body → Entry
entry r index b = record { region = r; index = index; body = b }

-- region 1 below 100 and region 2 from there up, and the first is merged into the second
abbrev pub open_low : Entry
open_low = entry 1 5 (body.Open 1 1 (negsuc (2 ^ 63 - 1)) (Some (pos 100)))

abbrev pub open_high : Entry
open_high = entry 2 5 (body.Open 1 1 (pos 100) None)

abbrev pub prepare : Entry
prepare = entry 1 6 (body.Prepare 2)

abbrev pub commit : Entry
commit = entry 2 6 (body.Commit 1)

abbrev pub merge : Log
merge = record { table = pos 1; schema = []; entries = open_low ∷ open_high ∷ prepare ∷ commit ∷ [] }

-- the first n positions
abbrev pub first : ℕ → ℕ → Bool
first n p = nat_lt p n

-- An entry is done where it is applied, also after its region is gone; it is early where its region isn't at the index before its own, where the source of its commit isn't prepared, or, if it makes its region, where an entry before it isn't applied.
pub record FaultsAreTold : Type 0 where
  pub admitted : AllAdmitted merge.table merge.schema 0 empty merge.entries
  pub done : apply_fault merge (first 2) 0 open_low ≡ Some (fault.Done 1 5)
  pub gone : apply_fault merge (first 4) 2 prepare ≡ Some (fault.Done 1 6)
  pub unborn : apply_fault merge (first 0) 2 prepare ≡ Some (fault.Early 1 None 5)
  pub unprepared : apply_fault merge (first 2) 3 commit ≡ Some (fault.Early 1 (Some 5) 6)
  pub second : apply_fault merge (first 0) 1 open_high ≡ Some (fault.Early 1 None 5)
  pub ready : apply_fault merge (first 3) 3 commit ≡ None
