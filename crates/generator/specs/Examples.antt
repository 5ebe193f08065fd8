-- The generated log with one transaction, computed.
use Rattle.std.specs.Prelude.{◌≡◌, ℕ, pos, List, [], ◌∷◌, Some, None}
use Rattle.committed_log.specs.Log.{at}
use Rattle.committed_log.specs.Regions.{region}
use Rattle.committed_log.specs.declared.region.Region.TheVariants.{Live, Gone}
use Rattle.generator.specs.Generated.{random, row_of, region_of, value, change, last_index, generated}
use Rattle.generator.specs.Transactions.{PutLong}

-- the row with 2774, 0 and no bytes
abbrev pub row_2774 : List ℕ
row_2774 = 128 ∷ 0 ∷ 3 ∷ 0 ∷ 0 ∷ 0 ∷ 1 ∷ 2 ∷ 3 ∷ 2 ∷ 0 ∷ 3 ∷ 0 ∷ 3 ∷ 0 ∷ 0xD6 ∷ 10 ∷ 0 ∷ []

-- The first transaction puts this row in region 3 through the default family. (Refused: that it is in region 2, and that region 8 stands at index 6 before it.)
pub record FirstTransaction : Type 0 where
  pub random : random 1 ≡ 7806831264735756412
  pub row : row_of 7806831264735756412 ≡ 2774
  pub region : region_of 7806831264735756412 ≡ 3
  pub value : value 2774 0 ≡ row_2774
  pub change : change 7806831264735756412 0 ≡ PutLong row_2774
  pub last : last_index 3 1 ≡ 8
  pub other : last_index 2 1 ≡ 6
  pub eighth : last_index 8 1 ≡ 5

-- after the merge region 7 has the handles of region 8, with the version above both
pub record Merges : Type 0 where
  pub third : region (at (generated 1) 12).regions 3 ≡ Live (record { range = record { low = pos 2000; high = Some (pos 3000) }; epoch = record { conf_ver = 1; version = 4 }; index = 8 })
  pub seventh : region (at (generated 1) 12).regions 7 ≡ Live (record { range = record { low = pos 6000; high = None }; epoch = record { conf_ver = 1; version = 10 }; index = 7 })
  pub eighth : region (at (generated 1) 12).regions 8 ≡ Gone 6
