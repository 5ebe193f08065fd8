-- A pack of versions that rise has a byte for each of them.
use Rattle.std.proofs.Common.{◌≡◌, ℕ, ℤ, suc, ◌+◌, ◌/◌, ◌%◌, ◌^◌, ◌≤◌, ◌<◌, ◌⊎◌, inl, inr, Bool, true, false, cond, List, [], ◌∷◌, ◌++◌, length, map, Option, refl, ap, ◌∙◌, append_assoc, arith, length-append}
use Rattle.std.specs.Prelude.{◌||◌, ◌&&◌, nat_eq, nat_lt, nat_le, int_lt}
use Rattle.std.specs.Int.{w16, w64, to_be_bytes, cast_unsigned}
use Rattle.std.specs.Ordering.{int_eq}
use Rattle.std.specs.List.{flat_map}
use Rattle.std.proofs.lemmas.Int.{ints}
use Rattle.column_block.specs.declared.column.Column.{Column}
use Rattle.column_block.specs.declared.cell.Version.{Version}
use Rattle.column_block.specs.Order.{is_before, rise_after, rise}
use Rattle.column_codec.specs.declared.list.ListKind.TheVariants as kind
use Rattle.column_codec.specs.declared.list.ColumnList.{ColumnList}
use Rattle.column_codec.specs.Lists.{given, mode_of}
use Rattle.column_codec.specs.Spelling as spelling
use Rattle.column_codec.specs.Spelling.{higher, number, null_part, are_null, each, shown, values, spelled}
use Rattle.pack_codec.specs.declared.field.Field.TheVariants as field
use Rattle.pack_codec.specs.Spelling.{int_of, uint_of, list_of, columns_of, sized, counts, heads, pack, PackFits}
use Rattle.pack_codec.proofs.FieldsAgain.{u64_again}
use Rattle.stable_file.specs.Packs.{number_or_none, count_told, has_room}

-- ---- a list of numbers that aren't all equal has a byte for each

number_long : (n : ℕ) → 1 ≤ length (number n)
unfolding number
number_long n = by (nat_lt n 128)
  where
    by : (b : Bool) → 1 ≤ length (cond b (n ∷ []) ((128 + n % 128) ∷ higher 8 (n / 128)))
    by true = omega arith
    by false = omega arith

uint_long : (before n : ℕ) → 1 ≤ length (spelling.uint before n)
unfolding spelling.uint
uint_long before n = number_long _

int_long : (before : ℕ) (n : ℤ) → 1 ≤ length (spelling.int before n)
unfolding spelling.int
int_long before n = uint_long before (cast_unsigned w64 n)

module _ {S X : Type 0} (write : S → X → List ℕ) (next : X → S) (long : (s : S) (x : X) → 1 ≤ length (write s x)) where
  each_long : (s : S) (xs : List X) → length xs ≤ length (each write next s xs)
  each_long s [] = omega arith
  each_long s (x ∷ xs) =
      let a = long s x in
      let b = each_long (next x) xs in
      omega (arith, a, b, length-append (write s x) (each write next (next x) xs))

  values_long : (start : S) (same : X → X → Bool) (list : List (Option X)) → mode_of same (given list) ≡ 0 → length (given list) ≤ length (values write next start same list)
  values_long start same list e =
      let all = each_long start (given list) in
      let body : length (each write next start (shown (mode_of same (given list)) (given list))) ≡ length (each write next start (given list)) = ap (λ m. length (each write next start (shown m (given list)))) e in
      omega (arith, all, body, length-append (null_part (are_null list)) (each write next start (shown (mode_of same (given list)) (given list))))

mode_two : {X : Type 0} (same : X → X → Bool) (x y : X) (others : List X) → same x y ≡ false → mode_of same (x ∷ y ∷ others) ≡ 0
mode_two same x y others e = rw e refl

-- ---- handles and timestamps

handles : List Version → List (Option ℤ)
handles versions = map (int_of field.Handle) versions

stamps : List Version → List (Option ℕ)
stamps versions = map (uint_of field.Stamp) versions

handles_given : (versions : List Version) → length (given (handles versions)) ≡ length versions
unfolding handles
handles_given [] = refl
handles_given (v ∷ versions) = ap suc (handles_given versions)

stamps_given : (versions : List Version) → length (given (stamps versions)) ≡ length versions
unfolding stamps
stamps_given [] = refl
stamps_given (v ∷ versions) = ap suc (stamps_given versions)

handles_long : (versions : List Version) → mode_of int_eq (given (handles versions)) ≡ 0 → length versions ≤ length (spelled (list_of kind.Int field.Handle versions))
unfolding spelled spelling.ints handles
handles_long versions e =
    let long = values_long spelling.int (cast_unsigned w64) int_long 0 int_eq (handles versions) e in
    omega (arith, long, handles_given versions)

stamps_long : (versions : List Version) → mode_of nat_eq (given (stamps versions)) ≡ 0 → length versions ≤ length (spelled (list_of kind.Uint field.Stamp versions))
unfolding spelled spelling.uints stamps
stamps_long versions e =
    let long = values_long spelling.uint (λ n. n) uint_long 0 nat_eq (stamps versions) e in
    omega (arith, long, stamps_given versions)

other_stamp : (a b : ℤ) (s t : ℕ) → (int_lt a b || (int_eq a b && nat_lt s t)) ≡ true → int_eq a b ≡ true → nat_eq s t ≡ false
other_stamp a b s t before same = grind (arith, ints)

-- ---- the pack

sized_long : (l : ColumnList) → length (spelled l) ≤ length (sized l)
unfolding sized
sized_long l = omega (arith, length-append (to_be_bytes w64 (length (spelled l))) (spelled l))

heads_long : (n : ℕ) (columns : List Column) (versions : List Version) → (n ≤ length (spelled (list_of kind.Int field.Handle versions))) ⊎ (n ≤ length (spelled (list_of kind.Uint field.Stamp versions))) → n ≤ length (pack columns versions)
unfolding pack heads
heads_long n columns versions one = by one
  where
    h : List ℕ
    h = sized (list_of kind.Int field.Handle versions)

    s : List ℕ
    s = sized (list_of kind.Uint field.Stamp versions)

    m : List ℕ
    m = sized (list_of kind.Uint field.Mark versions)

    lists : List ℕ
    lists = flat_map sized (columns_of columns 0 versions)

    whole : length h + length s ≤ length (counts (length versions) (length columns) ++ ((h ++ (s ++ m)) ++ lists))
    whole = omega (arith, length-append (counts (length versions) (length columns)) ((h ++ (s ++ m)) ++ lists), length-append (h ++ (s ++ m)) lists, length-append h (s ++ m), length-append s m)

    by : (n ≤ length (spelled (list_of kind.Int field.Handle versions))) ⊎ (n ≤ length (spelled (list_of kind.Uint field.Stamp versions))) → n ≤ length (counts (length versions) (length columns) ++ ((h ++ (s ++ m)) ++ lists))
    by (inl le) = omega (arith, le, whole, sized_long (list_of kind.Int field.Handle versions))
    by (inr le) = omega (arith, le, whole, sized_long (list_of kind.Uint field.Stamp versions))

both : (a b : Bool) → (a && b) ≡ true → a ≡ true
both true b h = refl
both false b h = absurd (cc h)

one_long : (columns : List Column) (versions : List Version) → 1 ≤ length (pack columns versions)
unfolding pack counts
one_long columns versions =
    let front = to_be_bytes w64 (length versions) in
    let width = to_be_bytes w16 (length columns) in
    let size : length front ≡ 8 = refl in
    omega (arith, size, length-append front width, length-append (front ++ width) (heads versions ++ flat_map sized (columns_of columns 0 versions)))

pack_long : (columns : List Column) (versions : List Version) → rise versions ≡ true → length versions ≤ length (pack columns versions)
unfolding handles stamps
pack_long columns [] rises = absurd (cc rises)
pack_long columns (v ∷ []) rises = one_long columns (v ∷ [])
pack_long columns (v ∷ w ∷ others) rises = heads_long (length (v ∷ w ∷ others)) columns (v ∷ w ∷ others) (by (int_eq v.handle w.handle) refl)
  where
    before : is_before v w ≡ true
    before = both (is_before v w) (rise_after w others) rises

    by : (b : Bool) → int_eq v.handle w.handle ≡ b → (length (v ∷ w ∷ others) ≤ length (spelled (list_of kind.Int field.Handle (v ∷ w ∷ others)))) ⊎ (length (v ∷ w ∷ others) ≤ length (spelled (list_of kind.Uint field.Stamp (v ∷ w ∷ others))))
    by false e = inl (handles_long (v ∷ w ∷ others) (mode_two int_eq v.handle w.handle (given (handles others)) e))
    by true e = inr (stamps_long (v ∷ w ∷ others) (mode_two nat_eq v.ts w.ts (given (stamps others)) (other_stamp v.handle w.handle v.ts w.ts before e)))

count_again : (columns : List Column) (versions : List Version) → length versions < 2 ^ 64 → count_told (pack columns versions) ≡ length versions
unfolding pack counts
count_again columns versions lt =
    let rest = heads versions ++ flat_map sized (columns_of columns 0 versions) in
    ap count_told (append_assoc (to_be_bytes w64 (length versions)) (to_be_bytes w16 (length columns)) rest)
    ∙ ap number_or_none (u64_again (tt {0}) (length versions) (to_be_bytes w16 (length columns) ++ rest) lt)

le_is : (m n : ℕ) → m ≤ n → nat_le m n ≡ true
le_is m n le = grind arith

pub room_again : (columns : List Column) (versions : List Version) → rise versions ≡ true → PackFits columns versions → has_room (pack columns versions) ≡ true
room_again columns versions rises fits =
    ap (λ n. nat_le n (length (pack columns versions))) (count_again columns versions fits.count) ∙ le_is (length versions) (length (pack columns versions)) (pack_long columns versions rises)
