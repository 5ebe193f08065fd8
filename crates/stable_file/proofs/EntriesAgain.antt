-- The entries of a footer that is written are read again.
use Rattle.std.proofs.Common.{◌≡◌, ℕ, ℤ, suc, ◌+◌, ◌-◌, ◌^◌, ◌<◌, ◌≤◌, Bool, true, false, eqb, leb, ltb, List, [], ◌∷◌, ◌++◌, length, map, Option, Some, None, Ok, refl, sym, ap, ◌∙◌, append_assoc, arith, length-append}
use Rattle.std.specs.Prelude.{FitsSigned, int_lt, if◌then◌else◌}
use Rattle.std.specs.Int.{w32, w64, to_be_bytes}
use Rattle.std.specs.List.{AllByRecursion, flat_map}
use Rattle.std.proofs.lemmas.Bool.{eq-eqb, le-leb, lt-ltb}
use Rattle.std.proofs.lemmas.List.{append-nil}
use Rattle.column_block.specs.declared.column.Column.{Column}
use Rattle.column_block.specs.declared.cell.Version.{Version}
use Rattle.column_codec.specs.Numbers.{AllFit}
use Rattle.pack_codec.specs.declared.field.Field.TheVariants as field
use Rattle.pack_codec.specs.declared.fault.FormError.TheVariants.{Damaged}
use Rattle.pack_codec.specs.Spelling.{pack, PackFits, ListFits, int_of, columns_of}
use Rattle.column_block.specs.Suiting.{Suits}
use Rattle.pack_codec.proofs.FieldsAgain.{u32_again, u64_again}
use Rattle.stable_file.specs.declared.pack.Pack.{Pack}
use Rattle.stable_file.specs.declared.pack.Before.{Before}
use Rattle.stable_file.specs.Footer.{u64_at, u32_at, may_have_len, may_have_count, may_begin, sizes_at, handles_at, head_at, pack_entry_at, rows_behind, behind}
use Rattle.stable_file.specs.Ranges.{handle_at}
use Rattle.stable_file.specs.Steps.{so_many}
use Rattle.stable_file.specs.Building.{sizes, handle, handles, ranges, entry, entry_of, entries}
use Rattle.stable_file.specs.Laws.{told, AreFull, packs_told}
use Rattle.stable_file.proofs.NumbersAgain.{handle_again}
use Rattle.stable_file.proofs.RangesAgain.{ranges_again}
use Rattle.stable_file.proofs.OrderAgain.{Begins, InOrder, handle_fits}

-- ---- place, length and count

u64_at_again : (end : ℕ) (may : ℕ → Bool) (n : ℕ) (rest : List ℕ) → n < 2 ^ 64 → may n ≡ true → u64_at end may (to_be_bytes w64 n ++ rest) ≡ Ok (n, rest)
unfolding u64_at
u64_at_again end may n rest lt allowed = rw (u64_again (Damaged end) n rest lt, allowed) refl

u32_at_again : (end : ℕ) (may : ℕ → Bool) (n : ℕ) (rest : List ℕ) → n < 2 ^ 32 → may n ≡ true → u32_at end may (to_be_bytes w32 n ++ rest) ≡ Ok (n, rest)
unfolding u32_at
u32_at_again end may n rest lt allowed = rw (u32_again (Damaged end) n rest lt, allowed) refl

-- what the entry's numbers are to be
record SizesMay (stop : ℕ) (before : Before) (len count : ℕ) : Type 0 where
  pub place_fits : before.place < 2 ^ 64
  pub len_fits : len < 2 ^ 64
  pub count_fits : count < 2 ^ 32
  pub may_len : may_have_len stop before len ≡ true
  pub may_count : may_have_count before count ≡ true

sizes_again : (end stop : ℕ) (before : Before) (len count : ℕ) (rest : List ℕ) → SizesMay stop before len count → sizes_at end stop before (sizes before.place len count ++ rest) ≡ Ok ((before.place, len, count), rest)
unfolding sizes_at sizes
sizes_again end stop before len count rest may =
    let p = to_be_bytes w64 before.place in
    let l = to_be_bytes w64 len in
    let c = to_be_bytes w32 count in
    let parts : (p ++ (l ++ c)) ++ rest ≡ p ++ (l ++ (c ++ rest)) = append_assoc p (l ++ c) rest ∙ ap (λ bs. p ++ bs) (append_assoc l c rest) in
    let here : eqb before.place before.place ≡ true = eq-eqb before.place before.place refl in
    rw (parts, u64_at_again end (λ n. eqb n before.place) before.place (l ++ (c ++ rest)) may.place_fits here, u64_at_again end (may_have_len stop before) len (c ++ rest) may.len_fits may.may_len, u32_at_again end (may_have_count before) count rest may.count_fits may.may_count) refl

-- ---- handles

record HandlesMay (before : Before) (low high : ℤ) : Type 0 where
  pub low_fits : FitsSigned w64 low
  pub high_fits : FitsSigned w64 high
  pub begins : may_begin before low ≡ true
  pub order : int_lt high low ≡ false

two_again : (end : ℕ) (before : Before) (low high : ℤ) (rest : List ℕ) → HandlesMay before low high → handles_at end before (handle low ++ (handle high ++ rest)) ≡ Ok ((low, high), rest)
unfolding handles_at
two_again end before low high rest may =
    let last : (if int_lt high low then false else true) ≡ true = rw may.order refl in
    rw (handle_again end (may_begin before) low (handle high ++ rest) may.low_fits may.begins, handle_again end (λ z. if int_lt z low then false else true) high rest may.high_fits last) refl

handles_again : (end : ℕ) (before : Before) (versions : List Version) (rest : List ℕ) → HandlesMay before (handle_at versions 0) (handle_at versions (length versions - 1))
    → handles_at end before (handles versions ++ rest) ≡ Ok ((handle_at versions 0, handle_at versions (length versions - 1)), rest)
unfolding handles
handles_again end before versions rest may =
    let low = handle_at versions 0 in
    let high = handle_at versions (length versions - 1) in
    ap (handles_at end before) (append_assoc (handle low) (handle high) rest) ∙ two_again end before low high rest may

-- ---- an entry

record EntryMay (stop : ℕ) (columns : List Column) (before : Before) (len : ℕ) (versions : List Version) : Type 0 where
  pub sizes : SizesMay stop before len (length versions)
  pub handles : HandlesMay before (handle_at versions 0) (handle_at versions (length versions - 1))
  pub suits : AllByRecursion (Suits columns) versions
  pub lists : AllByRecursion ListFits (columns_of columns 0 versions)

entry_again : (end stop : ℕ) (columns : List Column) (before : Before) (versions : List Version) (rest : List ℕ) → EntryMay stop columns before (length (pack columns versions)) versions
    → pack_entry_at end stop columns before (entry columns before.place versions ++ rest) ≡ Ok (told columns before.place versions, rest)
unfolding pack_entry_at head_at entry_of
entry_again end stop columns before versions rest may =
    let len = length (pack columns versions) in
    let s = sizes before.place len (length versions) in
    let h = handles versions in
    let r = ranges columns 0 versions in
    let parts : (s ++ (h ++ r)) ++ rest ≡ s ++ (h ++ (r ++ rest)) = append_assoc s (h ++ r) rest ∙ ap (λ bs. s ++ bs) (append_assoc h r rest) in
    rw (parts, sizes_again end stop before len (length versions) (h ++ (r ++ rest)) may.sizes, handles_again end before versions (r ++ rest) may.handles, ranges_again columns 0 end versions rest may.suits may.lists) refl

-- ---- what may stand in an entry

-- the number of versions in each pack but the last, as far as it is known
abbrev pub Known : ℕ → Option ℕ → Type 0
Known rows None = Unit {0}
Known rows (Some n) = n ≡ rows

known_next : (before : Before) (entry : Pack) (rows : ℕ) (known : Option ℕ) → before.rows ≡ known → Known rows known → entry.count ≡ rows → Known rows (rows_behind before entry)
known_next before entry rows None is h count = rw is count
known_next before entry rows (Some n) is h count = rw is h

last_len : (stop : ℕ) (before : Before) (len : ℕ) → before.left ≡ 1 → stop ≡ before.place + len → may_have_len stop before len ≡ true
last_len stop before len left sum =
    let one : eqb before.left 1 ≡ true = eq-eqb before.left 1 left in
    let same : eqb len (stop - before.place) ≡ true = eq-eqb len (stop - before.place) (omega (arith, sum)) in
    rw (one, same) refl

more_len : (stop : ℕ) (before : Before) (len left : ℕ) → before.left ≡ suc (suc left) → before.place + len ≤ stop → may_have_len stop before len ≡ true
more_len stop before len left is le =
    let more : eqb before.left 1 ≡ false = grind (arith, is) in
    let fits : leb len (stop - before.place) ≡ true = le-leb len (stop - before.place) (omega (arith, le)) in
    rw (more, fits) refl

last_count : (before : Before) (rows count : ℕ) (known : Option ℕ) → before.rows ≡ known → Known rows known → before.left ≡ 1 → 0 < count → count ≤ rows → may_have_count before count ≡ true
last_count before rows count None is h left some most =
    let any : ltb 0 count ≡ true = lt-ltb 0 count some in
    rw (is, any) refl
last_count before rows count (Some n) is h left some most =
    let one : eqb before.left 1 ≡ true = eq-eqb before.left 1 left in
    let any : ltb 0 count ≡ true = lt-ltb 0 count some in
    let fits : leb count n ≡ true = le-leb count n (omega (arith, h, most)) in
    rw (is, one, any, fits) refl

more_count : (before : Before) (rows count left : ℕ) (known : Option ℕ) → before.rows ≡ known → Known rows known → before.left ≡ suc (suc left) → 0 < rows → count ≡ rows → may_have_count before count ≡ true
more_count before rows count left None is h more some full =
    let any : ltb 0 count ≡ true = lt-ltb 0 count (omega (arith, some, full)) in
    rw (is, any) refl
more_count before rows count left (Some n) is h more some full =
    let two : eqb before.left 1 ≡ false = grind (arith, more) in
    let same : eqb count n ≡ true = eq-eqb count n (full ∙ sym h) in
    rw (is, two, same) refl

begins_again : (before : Before) (low : ℤ) (high : Option ℤ) → before.high ≡ high → Begins high low → may_begin before low ≡ true
begins_again before low None is h = rw is refl
begins_again before low (Some z) is h = rw (is, h) refl

-- ---- all entries

-- the first pack of some stands before the footer
sum_of : (columns : List Column) (cut : List Version) (others : List (List Version)) → length (flat_map (pack columns) (cut ∷ others)) ≡ length (pack columns cut) + length (flat_map (pack columns) others)
sum_of columns cut others = length-append (pack columns cut) (flat_map (pack columns) others)

module _ (columns : List Column) (rows end stop : ℕ) (some : 0 < rows) (small : rows < 2 ^ 32) (below : stop < 2 ^ 64) where
  handles_may : (before : Before) (cut : List Version) (high : Option ℤ) → PackFits columns cut → 0 < length cut → before.high ≡ high → Begins high (handle_at cut 0) → int_lt (handle_at cut (length cut - 1)) (handle_at cut 0) ≡ false
      → HandlesMay before (handle_at cut 0) (handle_at cut (length cut - 1))
  handles_may before cut high fits any is begins order =
      let values : AllFit (map (int_of field.Handle) cut) = fits.heads.handles.values in
      record { low_fits = handle_fits cut 0 values any; high_fits = handle_fits cut (length cut - 1) values (omega (arith, any)); begins = begins_again before (handle_at cut 0) high is begins; order = order }

  pub entries_again : (parts : List (List Version)) (before : Before) (known : Option ℕ) (high : Option ℤ) (rest : List ℕ) → before.left ≡ length parts → before.rows ≡ known → Known rows known → before.high ≡ high
      → stop ≡ before.place + length (flat_map (pack columns) parts) → AreFull rows parts → InOrder high parts → AllByRecursion (PackFits columns) parts → AllByRecursion (AllByRecursion (Suits columns)) parts
      → so_many (pack_entry_at end stop columns) behind (length parts) before (entries columns before.place parts ++ rest) ≡ Ok (packs_told columns before.place parts, rest)
  unfolding so_many
  entries_again [] before known high rest left is_known knows is_high sum full order fits suits = absurd full
  entries_again (cut ∷ []) before known high rest left is_known knows is_high sum full order fits suits =
      let len = length (pack columns cut) in
      let sums : stop ≡ before.place + len = omega (arith, sum, sum_of columns cut []) in
      let may : EntryMay stop columns before len cut = record {
        sizes = record { place_fits = omega (arith, sums, below); len_fits = omega (arith, sums, below); count_fits = omega (arith, full.1, small); may_len = last_len stop before len left sums; may_count = last_count before rows (length cut) known is_known knows left full.0 full.1 };
        handles = handles_may before cut high fits.0 full.0 is_high order.0 order.1;
        suits = suits.0;
        lists = fits.0.columns;
      } in
      let parts : (entry columns before.place cut ++ []) ++ rest ≡ entry columns before.place cut ++ rest = ap (λ bs. bs ++ rest) (append-nil (entry columns before.place cut)) in
      rw (parts, entry_again end stop columns before cut rest may) refl
  entries_again (cut ∷ next ∷ others) before known high rest left is_known knows is_high sum full order fits suits =
      let len = length (pack columns cut) in
      let parts = next ∷ others in
      let sums : stop ≡ before.place + len + length (flat_map (pack columns) parts) = omega (arith, sum, sum_of columns cut parts) in
      let any : 0 < length cut = omega (arith, some, full.0) in
      let may : EntryMay stop columns before len cut = record {
        sizes = record { place_fits = omega (arith, sums, below); len_fits = omega (arith, sums, below); count_fits = omega (arith, full.0, small); may_len = more_len stop before len (length others) left (omega (arith, sums)); may_count = more_count before rows (length cut) (length others) known is_known knows left some full.0 };
        handles = handles_may before cut high fits.0 any is_high order.0 order.1;
        suits = suits.0;
        lists = fits.0.columns;
      } in
      let is = told columns before.place cut in
      let now = behind before is in
      let fewer : now.left ≡ length parts = omega (arith, left) in
      let bytes : (entry columns before.place cut ++ entries columns now.place parts) ++ rest ≡ entry columns before.place cut ++ (entries columns now.place parts ++ rest) = append_assoc (entry columns before.place cut) (entries columns now.place parts) rest in
      let first = entry_again end stop columns before cut (entries columns now.place parts ++ rest) may in
      let all = entries_again (next ∷ others) now now.rows (Some is.high) rest fewer refl (known_next before is rows known is_known knows full.0) refl sums full.1 order.2 fits.1 suits.1 in
      rw (bytes, first, all) refl
