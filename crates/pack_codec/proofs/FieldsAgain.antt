-- Fields and lists that are written are read again, whatever follows.
use Rattle.std.proofs.Common.{◌≡◌, ℕ, ◌^◌, ◌<◌, false, ltb, List, ◌++◌, length, take, drop, Option, Some, Ok, refl, sym, ap, ◌∙◌, append_assoc, arith, length-append}
use Rattle.std.specs.Int.{Width, w16, w32, w64, byte_len, to_be_bytes, from_be_bytes}
use Rattle.std.proofs.lemmas.Bool.{le-ltb}
use Rattle.std.proofs.lemmas.Nat.{from_be_bytes-to_be_bytes_2, from_be_bytes-to_be_bytes_4, from_be_bytes-to_be_bytes_8}
use Rattle.std.proofs.lemmas.List.{take_at}
use Rattle.std.proofs.Math.Seq.{drop-append_seam}
use Rattle.flash_list.specs.Fields.{number_at}
use Rattle.column_codec.specs.declared.list.ListKind.{ListKind}
use Rattle.column_codec.specs.declared.list.ColumnList.{ColumnList}
use Rattle.column_codec.specs.Lists.{list_at}
use Rattle.column_codec.specs.Laws.{kind_of, count_of}
use Rattle.column_codec.specs.Spelling.{spelled}
use Rattle.column_codec.proofs.Agree.{lists_again}
use Rattle.pack_codec.specs.declared.fault.FormError.TheVariants.{Damaged}
use Rattle.pack_codec.specs.Reading.{any_behind, list_behind}
use Rattle.pack_codec.specs.Spelling.{ListFits, sized}

sized_again : {E : Type 0} (width : Width) (fault : E) (field rest : List ℕ) (n : ℕ) → length field ≡ byte_len width → from_be_bytes width field ≡ n → number_at width fault (field ++ rest) ≡ Ok (n, rest)
unfolding number_at
sized_again width fault field rest n size is =
    let long : ltb (length (field ++ rest)) (byte_len width) ≡ false = le-ltb _ _ (omega (arith, length-append field rest)) in
    let front : take (byte_len width) (field ++ rest) ≡ field = take_at field rest (byte_len width) size in
    let behind : drop (byte_len width) (field ++ rest) ≡ rest = ap (λ k. drop k (field ++ rest)) (sym size) ∙ drop-append_seam field rest in
    rw (long, front, behind, is) refl

pub u16_again : {E : Type 0} (fault : E) (n : ℕ) (rest : List ℕ) → n < 2 ^ 16 → number_at w16 fault (to_be_bytes w16 n ++ rest) ≡ Ok (n, rest)
u16_again fault n rest lt = sized_again w16 fault (to_be_bytes w16 n) rest n refl (from_be_bytes-to_be_bytes_2 n lt)

pub u32_again : {E : Type 0} (fault : E) (n : ℕ) (rest : List ℕ) → n < 2 ^ 32 → number_at w32 fault (to_be_bytes w32 n ++ rest) ≡ Ok (n, rest)
u32_again fault n rest lt = sized_again w32 fault (to_be_bytes w32 n) rest n refl (from_be_bytes-to_be_bytes_4 n lt)

pub u64_again : {E : Type 0} (fault : E) (n : ℕ) (rest : List ℕ) → n < 2 ^ 64 → number_at w64 fault (to_be_bytes w64 n ++ rest) ≡ Ok (n, rest)
u64_again fault n rest lt = sized_again w64 fault (to_be_bytes w64 n) rest n refl (from_be_bytes-to_be_bytes_8 n lt)

list_of_bytes : (kind : ListKind) (count : ℕ) (l : ColumnList) → ListFits l → kind_of l ≡ kind → count_of l ≡ count → list_at kind count (spelled l) ≡ Ok l
list_of_bytes kind count l fits is_kind is_count =
    let again : list_at (kind_of l) (count_of l) (spelled l) ≡ Ok l = lists_again l fits.values in
    ap (λ n. list_at kind n (spelled l)) (sym is_count) ∙ ap (λ (k : ListKind). list_at k (count_of l) (spelled l)) (sym is_kind) ∙ again

any_again : (kind : ListKind) (count end : ℕ) (l : ColumnList) (rest : List ℕ) → ListFits l → kind_of l ≡ kind → count_of l ≡ count → any_behind kind count end (sized l ++ rest) ≡ Ok (Some l, spelled l ++ rest, rest)
unfolding any_behind sized
any_again kind count end l rest fits is_kind is_count =
    let bytes = spelled l in
    let parts : (to_be_bytes w64 (length bytes) ++ bytes) ++ rest ≡ to_be_bytes w64 (length bytes) ++ (bytes ++ rest) = append_assoc (to_be_bytes w64 (length bytes)) bytes rest in
    let long : ltb (length (bytes ++ rest)) (length bytes) ≡ false = le-ltb _ _ (omega (arith, length-append bytes rest)) in
    let read = list_of_bytes kind count l fits is_kind is_count in
    rw (parts, u64_again (Damaged end) (length bytes) (bytes ++ rest) fits.bytes, long, take_at bytes rest (length bytes) refl, drop-append_seam bytes rest, read) refl

pub list_again : {X : Type 0} (kind : ListKind) (may : Option ColumnList → Option X) (count end : ℕ) (l : ColumnList) (x : X) (rest : List ℕ) → ListFits l → kind_of l ≡ kind → count_of l ≡ count → may (Some l) ≡ Some x
    → list_behind kind may count end (sized l ++ rest) ≡ Ok (x, rest)
unfolding list_behind
list_again kind may count end l x rest fits is_kind is_count allowed = rw (any_again kind count end l rest fits is_kind is_count, allowed) refl
