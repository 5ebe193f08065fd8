-- Column lists and their bytes.
use Rattle.std.specs.Prelude.{◌≡◌, pos, [], ◌∷◌, Some, None, Ok, Err}
use Rattle.column_codec.specs.declared.list.ListKind.TheVariants as kind
use Rattle.column_codec.specs.declared.list.ColumnList.TheVariants as list
use Rattle.column_codec.specs.declared.fault.CodecError.TheVariants.{BadByte, Long}
use Rattle.column_codec.specs.Lists.{list_at}
use Rattle.column_codec.specs.Spelling.{spelled}

-- as they are written
pub record ListsInBytes : Type 0 where
  pub several : spelled (list.Int (Some (pos 5) ∷ Some (pos 5) ∷ Some (pos 4) ∷ None ∷ [])) ≡ 0 ∷ 1 ∷ 8 ∷ 0x0A ∷ 0 ∷ 1 ∷ []
  pub equal : spelled (list.Int (Some (pos 7) ∷ Some (pos 7) ∷ [])) ≡ 1 ∷ 0 ∷ 0x0E ∷ []
  pub one : spelled (list.Int (Some (pos 7) ∷ [])) ≡ 0 ∷ 0 ∷ 0x0E ∷ []
  pub texts : spelled (list.Bytes (Some (0x61 ∷ 0x62 ∷ []) ∷ Some [] ∷ [])) ≡ 0 ∷ 0 ∷ 2 ∷ 0x61 ∷ 0x62 ∷ 0 ∷ []
  pub no_ints : spelled (list.Int []) ≡ 0 ∷ 0 ∷ []
  pub no_uints : spelled (list.Uint []) ≡ 0 ∷ 0 ∷ []
  pub no_texts : spelled (list.Bytes []) ≡ 0 ∷ 0 ∷ []

-- as they are read, and two that are refused
pub record BytesAsLists : Type 0 where
  pub several : list_at kind.Int 4 (0 ∷ 1 ∷ 8 ∷ 0x0A ∷ 0 ∷ 1 ∷ []) ≡ Ok (list.Int (Some (pos 5) ∷ Some (pos 5) ∷ Some (pos 4) ∷ None ∷ []))
  pub equal : list_at kind.Int 2 (1 ∷ 0 ∷ 0x0E ∷ []) ≡ Ok (list.Int (Some (pos 7) ∷ Some (pos 7) ∷ []))
  pub texts : list_at kind.Bytes 2 (0 ∷ 0 ∷ 2 ∷ 0x61 ∷ 0x62 ∷ 0 ∷ []) ≡ Ok (list.Bytes (Some (0x61 ∷ 0x62 ∷ []) ∷ Some [] ∷ []))
  pub other_mode : list_at kind.Int 2 (0 ∷ 0 ∷ 0x0E ∷ 0 ∷ []) ≡ Err (BadByte 0)
  pub too_long : list_at kind.Int 1 (0 ∷ 0 ∷ 0x0E ∷ 0 ∷ []) ≡ Err (Long 3)
