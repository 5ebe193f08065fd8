-- Lists that have a value for each row.
use Rattle.std.specs.Prelude.{◌≡◌, ℕ, List, length}
use Rattle.std.specs.List.{AllByRecursion}
use Rattle.column_codec.specs.declared.list.ColumnList.{ColumnList}
use Rattle.column_codec.specs.Laws.{count_of}
use Rattle.pack_codec.specs.declared.heads.Heads.{Heads}

-- a value for each of so many rows
abbrev pub HasRows : ℕ → ColumnList → Type 0
HasRows count l = count_of l ≡ count

abbrev pub AllHaveRows : ℕ → List ColumnList → Type 0
AllHaveRows count lists = AllByRecursion (HasRows count) lists

pub record HeadsHaveRows (count : ℕ) (heads : Heads) : Type 0 where
  pub handles : length heads.handles ≡ count
  pub stamps : length heads.stamps ≡ count
  pub marks : length heads.marks ≡ count
