-- Writing and reading agree.
use Rattle.std.specs.Prelude.{◌≡◌, ℕ, ◌<◌, ◌^◌, List, length, slice_index, IfSome, Ok}
use Rattle.std.specs.List.{AllByRecursion}
use Rattle.column_codec.specs.declared.list.ListKind.{ListKind}
use Rattle.column_codec.specs.declared.list.ListKind.TheVariants as kind
use Rattle.column_codec.specs.declared.list.ColumnList.{ColumnList}
use Rattle.column_codec.specs.declared.list.ColumnList.TheVariants as list
use Rattle.column_codec.specs.Numbers.{AllFit}
use Rattle.column_codec.specs.Lists.{list_at}
use Rattle.column_codec.specs.Spelling.{spelled}

abbrev pub kind_of : ColumnList → ListKind
kind_of (list.Int values) = kind.Int
kind_of (list.Uint values) = kind.Uint
kind_of (list.Bytes values) = kind.Bytes

abbrev pub count_of : ColumnList → ℕ
count_of (list.Int values) = length values
count_of (list.Uint values) = length values
count_of (list.Bytes values) = length values

-- numbers of 64 bits, and texts whose length is one
abbrev pub Fits : ColumnList → Type 0
Fits (list.Int values) = AllFit values
Fits (list.Uint values) = AllByRecursion (λ value. IfSome value (λ n. n < 2 ^ 64)) values
Fits (list.Bytes values) = AllByRecursion (λ value. IfSome value (λ text. length text < 2 ^ 64)) values

-- Each is a byte.
abbrev pub AreBytes : List ℕ → Type 0
AreBytes bytes = (i : ℕ) → slice_index bytes i < 256

-- A list that is written is read again as the same list.
abbrev pub ListsAreReadAgain : Type 0
ListsAreReadAgain = (l : ColumnList) → Fits l → list_at (kind_of l) (count_of l) (spelled l) ≡ Ok l

-- The bytes are the spelling of a list of this kind and number of values.
pub record IsList (wanted : ListKind) (count : ℕ) (bytes : List ℕ) (l : ColumnList) : Type 0 where
  pub is_kind : kind_of l ≡ wanted
  pub is_count : count_of l ≡ count
  pub bytes_are : bytes ≡ spelled l

-- Bytes that are read as a list are its spelling, so no other bytes are read as that list.
abbrev pub ListsHaveOneSpelling : Type 0
ListsHaveOneSpelling = (wanted : ListKind) (count : ℕ) (bytes : List ℕ) (l : ColumnList) → AreBytes bytes → list_at wanted count bytes ≡ Ok l → IsList wanted count bytes l
