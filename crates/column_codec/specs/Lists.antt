-- Lists of optional values: a mode, the nulls and the values that aren't null.
use Rattle.std.specs.Prelude.{ℕ, ◌-◌, ℤ, Bool, true, false, ◌==◌, nat_eq, List, [], ◌∷◌, length, map, Option, Some, None, if◌then◌else◌, Result, Ok, Err}
use Rattle.std.specs.Int.{w64, cast_unsigned}
use Rattle.std.specs.Ordering.{int_eq}
use Rattle.std.specs.Cmp.Lexicographic.{pointwise}
use Rattle.std.specs.List.{list_all}
use Rattle.flash_list.specs.Steps.{◌>>=◌}
use Rattle.column_codec.specs.declared.fault.CodecError.{CodecError}
use Rattle.column_codec.specs.declared.fault.CodecError.TheVariants.{BadByte, Long}
use Rattle.column_codec.specs.declared.list.ListKind.{ListKind}
use Rattle.column_codec.specs.declared.list.ListKind.TheVariants as kind
use Rattle.column_codec.specs.declared.list.ColumnList.{ColumnList}
use Rattle.column_codec.specs.declared.list.ColumnList.TheVariants as list
use Rattle.column_codec.specs.Numbers.{int_at, uint_at, text_at}
use Rattle.column_codec.specs.Nulls.{nulls_from, flag_at, bitmap_at}

-- Mode 0: each value that isn't null, one behind the other. What was read tells the state in which the next one is read.
unfoldable pub values_at : {S X E : Type 0} → (S → List ℕ → Result (X × List ℕ) E) → (X → S) → List Bool → S → List ℕ → Result (List (Option X) × List ℕ) E
values_at read next [] state bytes = Ok ([], bytes)
values_at read next (true ∷ nulls) state bytes = values_at read next nulls state bytes >>= λ others. Ok (None ∷ others.0, others.1)
values_at read next (false ∷ nulls) state bytes = do
  first ← read state bytes
  others ← values_at read next nulls (next first.0) first.1
  Ok (Some first.0 ∷ others.0, others.1)

-- the same value wherever none is null
abbrev pub repeated : {X : Type 0} → X → List Bool → List (Option X)
repeated x nulls = map (λ null. if null then None else Some x) nulls

-- Mode 1: one value for all that aren't null, and nothing where there is none.
unfoldable pub value_at : {S X E : Type 0} → (S → List ℕ → Result (X × List ℕ) E) → List Bool → S → List ℕ → Result (List (Option X) × List ℕ) E
value_at read nulls state bytes = if list_all (λ null. null) nulls then Ok (map (λ _. None) nulls, bytes) else (read state bytes >>= λ x. Ok (repeated x.0 nulls, x.1))

-- the values that aren't null
abbrev pub given : {X : Type 0} → List (Option X) → List X
given [] = []
given (None ∷ others) = given others
given (Some x ∷ others) = x ∷ given others

-- The mode is 1 exactly where there are two or more values and all are equal.
abbrev pub mode_of : {X : Type 0} → (X → X → Bool) → List X → ℕ
mode_of same [] = 0
mode_of same (x ∷ []) = 0
mode_of same (x ∷ y ∷ others) = if list_all (same x) (y ∷ others) then 1 else 0

-- nothing may follow, and then the other mode may not have been due
unfoldable pub ended : ℕ → ℕ → ℕ → List ℕ → Result (Unit {0}) CodecError
ended end mode due (b ∷ rest) = Err (Long (end - length (b ∷ rest)))
ended end mode due [] = if mode == due then Ok (tt {0}) else Err (BadByte 0)

-- the values of a mode
unfoldable pub of_mode : {S X E : Type 0} → (S → List ℕ → Result (X × List ℕ) E) → (X → S) → S → ℕ → List Bool → List ℕ → Result (List (Option X) × List ℕ) E
of_mode read next start mode nulls bytes = if mode == 0 then values_at read next nulls start bytes else value_at read nulls start bytes

-- so many values, all of the bytes, of which the first one is read in this state
unfoldable pub list_of : {S X : Type 0} → (ℕ → S → List ℕ → Result (X × List ℕ) CodecError) → (X → S) → S → (X → X → Bool) → ℕ → List ℕ → Result (List (Option X)) CodecError
list_of read next start same count bytes =
    let end = length bytes in do
      mode ← flag_at end bytes
      bitmap ← bitmap_at end count mode.1
      values ← of_mode (read end) next start mode.0 (nulls_from bitmap.0 0 count) bitmap.1
      done ← ended end mode.0 (mode_of same (given values.0)) values.1
      Ok values.0

unfoldable pub ints_of : ℕ → List ℕ → Result (List (Option ℤ)) CodecError
ints_of count bytes = list_of int_at (cast_unsigned w64) 0 int_eq count bytes

unfoldable pub uints_of : ℕ → List ℕ → Result (List (Option ℕ)) CodecError
uints_of count bytes = list_of uint_at (λ n. n) 0 nat_eq count bytes

unfoldable pub texts_of : ℕ → List ℕ → Result (List (Option (List ℕ))) CodecError
texts_of count bytes = list_of text_at (λ _. tt {0}) (tt {0}) (pointwise nat_eq) count bytes

-- The list of so many values of a kind that the bytes are, all of them, or the first fault.
unfoldable pub list_at : ListKind → ℕ → List ℕ → Result ColumnList CodecError
list_at kind.Int count bytes = ints_of count bytes >>= λ values. Ok (list.Int values)
list_at kind.Uint count bytes = uints_of count bytes >>= λ values. Ok (list.Uint values)
list_at kind.Bytes count bytes = texts_of count bytes >>= λ values. Ok (list.Bytes values)
