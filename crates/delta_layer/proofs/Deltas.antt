-- What an index over the files of a delta tells of the delta.
use Rattle.std.proofs.Common.{◌≡◌, ◌∙◌, refl, sym, ap, subst, ℕ, zero, suc, ℤ, ◌+◌, ◌<◌, Bool, true, false, true≢false, not, cond, ◌||◌, List, [], ◌∷◌, ◌++◌, length, map, filter, fold, slice_get, Option, Some, None, arith, append_assoc, length-append}
use Rattle.std.proofs.lemmas.List.{map-append, append-nil}
use Rattle.std.proofs.lemmas.List.Elements.{filter_map-append}
use Rattle.std.proofs.lemmas.List.Folds.{list_any-append}
use Rattle.std.proofs.lemmas.List.Sums.{fold-append}
use Rattle.std.proofs.lemmas.Map.Entries.{lookup-filter-keys}
use Rattle.std.proofs.lemmas.Int.{ints}
use Rattle.std.specs.BTreeMap.{is_at}
use Rattle.std.specs.List.{AllByRecursion, enumerate_from, cons_option}
use Rattle.std.specs.List.Sorted.{IsStrictlySortedBy}
use Rattle.std.specs.Map.{lookup}
use Rattle.std.specs.Option.{option_or, option_and_then}
use Rattle.std.specs.Ordering.{is_eq, int_cmp, nat_cmp, ordering_then, ordering_reverse, match_ordering}
use Rattle.std.specs.declared.cmp.Ordering.{Ordering}
use Rattle.std.specs.declared.cmp.Ordering.TheVariants.{Less, Equal, Greater}
use Rattle.column_block.specs.declared.cell.Version.{Version}
use Rattle.column_file.specs.declared.file.ColumnFile.{ColumnFile}
use Rattle.column_file.specs.declared.file.ColumnFile.TheVariants.{Mem, Tiny, DeleteRange}
use Rattle.flash_types.specs.Ranges.{holds}
use Rattle.flash_types.specs.declared.range.HandleRange.{HandleRange}
use Rattle.delta_index.specs.Indexes.{Entry, put, entry_of, entries_of, extended, cleared, AreRising}
use Rattle.column_block.specs.Order.{key_cmp}
use Rattle.delta_index.proofs.Puts.{rising_put, rising_none}
use Rattle.column_block.proofs.Ordered.{key_cmp_total}
use Rattle.delta_index.proofs.Files.{rising_left, rising_by}
use Rattle.good_replica.specs.Changed.{had}
use Rattle.good_replica.specs.Trail.{Cleared, Puts, steps_on, step_on, wrote_unless_empty, versions_on, after_versions, after_step, after_steps}
use Rattle.good_replica.proofs.Steps.{versions_over}
use Rattle.delta_layer.specs.Files.{file_of, files_of, indexed, with_file, index_of}
use Rattle.delta_layer.specs.Overlay.{block_in, at_place, clear_in, clears_in, any_holds}
use Rattle.delta_layer.proofs.Indexes.{get_left, get_last}
use Rattle.delta_layer.proofs.Order.{is_at_key, here, here_is, had_cons}

-- ---- places

-- the version that an entry names stands where the entry says, and has its key
pub record IsPlaced (files : List ColumnFile) (entry : Entry) : Type 0 where
  pub version : Version
  pub there : at_place files entry.1 ≡ Some version
  pub handle : version.handle ≡ entry.0.0
  pub ts : version.ts ≡ entry.0.1

abbrev pub ArePlaced : List ColumnFile → List Entry → Type 0
ArePlaced files entries = AllByRecursion (IsPlaced files) entries

get_within : {X : Type 0} (xs : List X) (i : ℕ) (x : X) → slice_get xs i ≡ Some x → i < length xs
get_within [] i x e = cc e
get_within (y ∷ xs) zero x e = omega arith
get_within (y ∷ xs) (suc i) x e = omega (arith, get_within xs i x e)

-- a place in the first files is the same in all
at_place_more : (files : List ColumnFile) (f : ColumnFile) (place : ℕ × ℕ) (v : Version) → at_place files place ≡ Some v → at_place (files ++ f ∷ []) place ≡ Some v
at_place_more files f place v e = by (slice_get files place.0) refl e
  where
    by : (o : Option ColumnFile) → slice_get files place.0 ≡ o → option_and_then (λ (f : ColumnFile). slice_get (block_in f) place.1) o ≡ Some v → at_place (files ++ f ∷ []) place ≡ Some v
    by None is e = cc e
    by (Some g) is e = ap (option_and_then (λ (f : ColumnFile). slice_get (block_in f) place.1)) (get_left files (f ∷ []) place.0 (get_within files place.0 g is) ∙ is) ∙ e

placed_more : (files : List ColumnFile) (f : ColumnFile) (entries : List Entry) → ArePlaced files entries → ArePlaced (files ++ f ∷ []) entries
placed_more files f [] all = tt
placed_more files f (entry ∷ entries) all = (record { version = all.0.version; there = at_place_more files f entry.1 all.0.version all.0.there; handle = all.0.handle; ts = all.0.ts }, placed_more files f entries all.1)

pub placed_filter : (files : List ColumnFile) (p : Entry → Bool) (entries : List Entry) → ArePlaced files entries → ArePlaced files (filter p entries)
placed_filter files p [] all = tt
placed_filter files p (entry ∷ entries) all = elim (p entry) as (λ b. ArePlaced files (cond b (entry ∷ filter p entries) (filter p entries))) [ true ↦ (all.0, placed_filter files p entries all.1) | false ↦ placed_filter files p entries all.1 ]

pub exact : (a b : ℤ × ℕ) → key_cmp a b ≡ Equal → (a.0 ≡ b.0) × (a.1 ≡ b.1)
exact a b e = by (int_cmp a.0 b.0) refl e
  where
    same : (x y : ℤ) → int_cmp x y ≡ Equal → x ≡ y
    same x y e = grind (arith, ints)

    numbers : (x y : ℕ) → nat_cmp x y ≡ Equal → x ≡ y
    numbers x y e = grind arith

    by : (o : Ordering) → int_cmp a.0 b.0 ≡ o → ordering_then o (nat_cmp a.1 b.1) ≡ Equal → (a.0 ≡ b.0) × (a.1 ≡ b.1)
    by Less is e = cc e
    by Equal is e = (same a.0 b.0 is, numbers a.1 b.1 e)
    by Greater is e = cc e

placed_put : (files : List ColumnFile) (entries : List Entry) (more : Entry) → ArePlaced files entries → IsPlaced files more → ArePlaced files (put entries more)
placed_put files [] more all one = (one, tt)
placed_put files (entry ∷ entries) more all one = by (key_cmp more.0 entry.0) refl (placed_put files entries more all.1 one)
  where
    by : (o : Ordering) → key_cmp more.0 entry.0 ≡ o → ArePlaced files (put entries more) → ArePlaced files (match_ordering o (more ∷ entry ∷ entries) ((entry.0, more.1) ∷ entries) (entry ∷ put entries more))
    by Less is rest = (one, all)
    by Equal is rest =
        let same = exact more.0 entry.0 is in
        (record { version = one.version; there = one.there; handle = one.handle ∙ same.0; ts = one.ts ∙ same.1 }, all.1)
    by Greater is rest = (all.0, rest)

-- ---- what an index has of a handle at a timestamp

abbrev pub place_of : ℤ → ℕ → List Entry → Option (ℕ × ℕ)
place_of h ts entries = lookup (is_at (key_cmp (h, ts))) entries

abbrev pub found : List ColumnFile → List Entry → ℤ → ℕ → Option Version
found files entries h ts = option_and_then (at_place files) (place_of h ts entries)

lookup_put : (h : ℤ) (ts : ℕ) (entries : List Entry) (more : Entry) → AreRising entries → place_of h ts (put entries more) ≡ cond (is_eq (key_cmp (h, ts) more.0)) (Some more.1) (place_of h ts entries)
unfolding IsStrictlySortedBy
lookup_put h ts [] more up = refl
lookup_put h ts (entry ∷ entries) more up = by (key_cmp more.0 entry.0) (key_cmp (h, ts) more.0) (key_cmp (h, ts) entry.0) refl refl refl (lookup_put h ts entries more up.1)
  where
    by : (o p q : Ordering) → key_cmp more.0 entry.0 ≡ o → key_cmp (h, ts) more.0 ≡ p → key_cmp (h, ts) entry.0 ≡ q
        → place_of h ts (put entries more) ≡ cond (is_eq (key_cmp (h, ts) more.0)) (Some more.1) (place_of h ts entries)
        → place_of h ts (match_ordering o (more ∷ entry ∷ entries) ((entry.0, more.1) ∷ entries) (entry ∷ put entries more)) ≡ cond (is_eq (key_cmp (h, ts) more.0)) (Some more.1) (cond (is_eq (key_cmp (h, ts) entry.0)) (Some entry.1) (place_of h ts entries))
    by Less p q is here there rest = refl
    by Equal p q is here there rest =
        let same : key_cmp (h, ts) more.0 ≡ key_cmp (h, ts) entry.0 = key_cmp_total.antisymm (h, ts) more.0 ∙ ap ordering_reverse (key_cmp_total.congr more.0 entry.0 (h, ts) is) ∙ sym (key_cmp_total.antisymm (h, ts) entry.0) in
        let both : (b : Bool) → cond b (Some more.1) (place_of h ts entries) ≡ cond b (Some more.1) (cond b (Some entry.1) (place_of h ts entries)) = elim [ true ↦ refl | false ↦ refl ] in
        ap (λ o. cond (is_eq o) (Some more.1) (place_of h ts entries)) (sym same) ∙ both (is_eq (key_cmp (h, ts) more.0)) ∙ ap (λ o. cond (is_eq (key_cmp (h, ts) more.0)) (Some more.1) (cond (is_eq o) (Some entry.1) (place_of h ts entries))) same
    by Greater p Equal is here there rest =
        let less : key_cmp entry.0 more.0 ≡ Less = key_cmp_total.antisymm entry.0 more.0 ∙ ap ordering_reverse is in
        let apart : key_cmp (h, ts) more.0 ≡ Less = key_cmp_total.congr (h, ts) entry.0 more.0 there ∙ less in
        ap (λ o. cond (is_eq o) (Some entry.1) (place_of h ts (put entries more))) there
        ∙ sym (ap (λ o. cond (is_eq o) (Some more.1) (cond (is_eq (key_cmp (h, ts) entry.0)) (Some entry.1) (place_of h ts entries))) apart ∙ ap (λ o. cond (is_eq o) (Some entry.1) (place_of h ts entries)) there)
    by Greater p Less is here there rest =
        ap (λ o. cond (is_eq o) (Some entry.1) (place_of h ts (put entries more))) there ∙ rest
        ∙ ap (λ o. cond (is_eq (key_cmp (h, ts) more.0)) (Some more.1) (cond (is_eq o) (Some entry.1) (place_of h ts entries))) (sym there)
    by Greater p Greater is here there rest =
        ap (λ o. cond (is_eq o) (Some entry.1) (place_of h ts (put entries more))) there ∙ rest
        ∙ ap (λ o. cond (is_eq (key_cmp (h, ts) more.0)) (Some more.1) (cond (is_eq o) (Some entry.1) (place_of h ts entries))) (sym there)

-- the rows of a block, from a row on
module _ (files : List ColumnFile) (number : ℕ) where
  abbrev AreRows : ℕ → List Version → Type 0
  AreRows row [] = Unit {0}
  AreRows row (v ∷ vs) = (at_place files (number, row) ≡ Some v) × AreRows (row + 1) vs

  rows_found : (h : ℤ) (ts : ℕ) (row : ℕ) (vs : List Version) (entries : List Entry) → AreRising entries → AreRows row vs
      → found files (fold put entries (map (entry_of number) (enumerate_from row vs))) h ts ≡ option_or (had h vs ts) (found files entries h ts)
  rows_found h ts row [] entries up rows = refl
  rows_found h ts row (v ∷ vs) entries up rows =
      rows_found h ts (row + 1) vs (put entries (entry_of number (row, v))) (rising_put entries (entry_of number (row, v)) up) rows.1
      ∙ ap (option_or (had h vs ts)) one
      ∙ sym (or_assoc (had h vs ts) (here h ts v) (found files entries h ts))
      ∙ ap (λ o. option_or o (found files entries h ts)) (sym (had_cons h ts v vs))
    where
      or_assoc : (a b c : Option Version) → option_or (option_or a b) c ≡ option_or a (option_or b c)
      or_assoc None b c = refl
      or_assoc (Some x) b c = refl

      chosen : (b : Bool) → option_and_then (at_place files) (cond b (Some (number, row)) (place_of h ts entries)) ≡ option_or (cond b (Some v) None) (found files entries h ts)
      chosen true = rows.0
      chosen false = refl

      one : found files (put entries (entry_of number (row, v))) h ts ≡ option_or (here h ts v) (found files entries h ts)
      one = ap (option_and_then (at_place files)) (lookup_put h ts entries (entry_of number (row, v)) up) ∙ chosen (is_at_key h ts v) ∙ ap (λ o. option_or o (found files entries h ts)) (sym (here_is h ts v))

  rows_from : (row : ℕ) (vs : List Version) → ((k : ℕ) → at_place files (number, row + k) ≡ slice_get vs k) → AreRows row vs
  rows_from row [] each = tt
  rows_from row (v ∷ vs) each = (
    let first : row ≡ row + 0 = omega arith in ap (λ n. at_place files (number, n)) first ∙ each 0,
    rows_from (row + 1) vs (λ k. let next : row + 1 + k ≡ row + suc k = omega arith in ap (λ n. at_place files (number, n)) next ∙ each (suc k)),
  )

  rows_placed : (row : ℕ) (vs : List Version) (entries : List Entry) → AreRows row vs → ArePlaced files entries → ArePlaced files (fold put entries (map (entry_of number) (enumerate_from row vs)))
  rows_placed row [] entries rows all = all
  rows_placed row (v ∷ vs) entries rows all =
      rows_placed (row + 1) vs (put entries (entry_of number (row, v))) rows.1 (placed_put files entries (entry_of number (row, v)) all (record { version = v; there = rows.0; handle = refl; ts = refl }))

found_more : (files : List ColumnFile) (f : ColumnFile) (h : ℤ) (ts : ℕ) (entries : List Entry) → ArePlaced files entries → found (files ++ f ∷ []) entries h ts ≡ found files entries h ts
found_more files f h ts [] all = refl
found_more files f h ts (entry ∷ entries) all = elim (is_eq (key_cmp (h, ts) entry.0)) as (λ b. option_and_then (at_place (files ++ f ∷ [])) (cond b (Some entry.1) (place_of h ts entries)) ≡ option_and_then (at_place files) (cond b (Some entry.1) (place_of h ts entries))) [
  | true ↦ at_place_more files f entry.1 all.0.version all.0.there ∙ sym all.0.there
  | false ↦ found_more files f h ts entries all.1
]

-- ---- what an index tells of its files

pub record Knows (files : List ColumnFile) (index : List Entry) : Type 0 where
  pub up : AreRising index
  pub placed : ArePlaced files index
  pub shows : (h : ℤ) (ts : ℕ) (o : Option Version) → after_steps ts o (steps_on h (files_of files)) ≡ option_or (found files index h ts) (cond (any_holds (clears_in files) h) None o)

steps_more : (files : List ColumnFile) (f : ColumnFile) (h : ℤ) → steps_on h (files_of (files ++ f ∷ [])) ≡ steps_on h (files_of files) ++ steps_on h (file_of f ∷ [])
steps_more files f h = ap (steps_on h) (map-append file_of files (f ∷ [])) ∙ filter_map-append (step_on h) (files_of files) (file_of f ∷ [])

after_more : (files : List ColumnFile) (f : ColumnFile) (h : ℤ) (ts : ℕ) (o : Option Version) → after_steps ts o (steps_on h (files_of (files ++ f ∷ []))) ≡ after_steps ts (after_steps ts o (steps_on h (files_of files))) (steps_on h (file_of f ∷ []))
after_more files f h ts o = ap (after_steps ts o) (steps_more files f h) ∙ fold-append (after_step ts) o (steps_on h (files_of files)) (steps_on h (file_of f ∷ []))

clears_more : (files : List ColumnFile) (f : ColumnFile) (h : ℤ) → any_holds (clears_in (files ++ f ∷ [])) h ≡ (any_holds (clears_in files) h || any_holds (clears_in (f ∷ [])) h)
clears_more files f h =
    ap (λ ranges. any_holds ranges h) (filter_map-append clear_in files (f ∷ []))
    ∙ list_any-append (λ (range : HandleRange). holds range h) (clears_in files) (clears_in (f ∷ []))

or_false_right : (b : Bool) → (b || false) ≡ b
or_false_right true = refl
or_false_right false = refl

or_true_right : (b : Bool) → (b || true) ≡ true
or_true_right true = refl
or_true_right false = refl

knows_clear : (files : List ColumnFile) (index : List Entry) (range : HandleRange) → Knows files index → Knows (files ++ DeleteRange range ∷ []) (cleared index range)
knows_clear files index range knows = record {
  up = rising_left index (cleared index range) range knows.up refl;
  placed = placed_more files (DeleteRange range) (cleared index range) (placed_filter files (λ (entry : Entry). not (holds range entry.0.0)) index knows.placed);
  shows = λ h ts o.
      after_more files (DeleteRange range) h ts o ∙ by h ts o (holds range h)
      ∙ (λ i. option_or (option_and_then (at_place (files ++ DeleteRange range ∷ [])) (sym (left h ts) i)) (cond (sym (clears_more files (DeleteRange range) h) i) None o));
}
  where
    equal : (o : Ordering) → is_eq o ≡ true → o ≡ Equal
    equal Less e = absurd (true≢false (sym e))
    equal Equal e = refl
    equal Greater e = absurd (true≢false (sym e))

    left : (h : ℤ) (ts : ℕ) → place_of h ts (cleared index range) ≡ cond (not (holds range h)) (place_of h ts index) None
    left h ts = lookup-filter-keys (is_at (key_cmp (h, ts))) (λ k. not (holds range k.0)) (not (holds range h)) (λ k e. ap (λ x. not (holds range x)) (sym (exact (h, ts) k (equal (key_cmp (h, ts) k) e)).0)) index

    by : (h : ℤ) (ts : ℕ) (o : Option Version) (b : Bool) → after_steps ts (after_steps ts o (steps_on h (files_of files))) (cons_option (cond b (Some Cleared) None) []) ≡ option_or (option_and_then (at_place (files ++ DeleteRange range ∷ [])) (cond (not b) (place_of h ts index) None)) (cond (any_holds (clears_in files) h || (b || false)) None o)
    by h ts o true = sym (ap (λ b. cond b None o) (or_true_right (any_holds (clears_in files) h)))
    by h ts o false =
        knows.shows h ts o
        ∙ (λ i. option_or (sym (found_more files (DeleteRange range) h ts index knows.placed) i) (cond (sym (or_false_right (any_holds (clears_in files) h)) i) None o))

wrote : (ts : ℕ) (o : Option Version) (vs : List Version) → after_steps ts o (cons_option (wrote_unless_empty vs) []) ≡ after_versions ts o vs
wrote ts o [] = refl
wrote ts o (v ∷ vs) = refl

knows_puts : (files : List ColumnFile) (index : List Entry) (f : ColumnFile) (block : List Version) → file_of f ≡ Puts block → block_in f ≡ block → clears_in (f ∷ []) ≡ [] → Knows files index → Knows (files ++ f ∷ []) (extended index (length files) block)
knows_puts files index f block puts has none knows = record {
  up = rising_by index (entries_of (length files) block) (extended index (length files) block) knows.up refl;
  placed = rows_placed (files ++ f ∷ []) (length files) 0 block index rows (placed_more files f index knows.placed);
  shows = λ h ts o.
      after_more files f h ts o
      ∙ ap (λ g. after_steps ts (after_steps ts o (steps_on h (files_of files))) (steps_on h (g ∷ []))) puts
      ∙ wrote ts (after_steps ts o (steps_on h (files_of files))) (versions_on h block)
      ∙ versions_over ts (after_steps ts o (steps_on h (files_of files))) (versions_on h block)
      ∙ ap (option_or (had h block ts)) (knows.shows h ts o)
      ∙ sym (or_assoc (had h block ts) (found files index h ts) (cond (any_holds (clears_in files) h) None o))
      ∙ (λ i. option_or (sym (same h ts) i) (cond (sym (clears h) i) None o));
}
  where
    or_assoc : (a b c : Option Version) → option_or (option_or a b) c ≡ option_or a (option_or b c)
    or_assoc None b c = refl
    or_assoc (Some x) b c = refl

    rows : AreRows (files ++ f ∷ []) (length files) 0 block
    rows = rows_from (files ++ f ∷ []) (length files) 0 block (λ k.
        let plain : 0 + k ≡ k = omega arith in
        ap (option_and_then (λ (g : ColumnFile). slice_get (block_in g) (0 + k))) (get_last files f) ∙ (λ i. slice_get (has i) (plain i)))

    same : (h : ℤ) (ts : ℕ) → found (files ++ f ∷ []) (extended index (length files) block) h ts ≡ option_or (had h block ts) (found files index h ts)
    same h ts = rows_found (files ++ f ∷ []) (length files) h ts 0 block index knows.up rows ∙ ap (option_or (had h block ts)) (found_more files f h ts index knows.placed)

    clears : (h : ℤ) → any_holds (clears_in (files ++ f ∷ [])) h ≡ any_holds (clears_in files) h
    clears h = clears_more files f h ∙ ap (λ ranges. any_holds (clears_in files) h || any_holds ranges h) none ∙ or_false_right (any_holds (clears_in files) h)

knows_more : (files : List ColumnFile) (index : List Entry) (f : ColumnFile) → Knows files index → Knows (files ++ f ∷ []) (indexed (length files) index f)
knows_more files index (Mem block) knows = knows_puts files index (Mem block) block refl refl refl knows
knows_more files index (Tiny file block) knows = knows_puts files index (Tiny file block) block refl refl refl knows
knows_more files index (DeleteRange range) knows = knows_clear files index range knows

knows_all : (todo done : List ColumnFile) (index : List Entry) → Knows done index → Knows (done ++ todo) (fold with_file index (enumerate_from (length done) todo))
knows_all [] done index knows = subst (λ files. Knows files index) (sym (append-nil done)) knows
knows_all (f ∷ todo) done index knows =
    let more = knows_all todo (done ++ f ∷ []) (indexed (length done) index f) (knows_more done index f knows) in
    let count = length-append done (f ∷ []) in
    let index' : List Entry = indexed (length done) index f in
    subst (λ files. Knows files (fold with_file index' (enumerate_from (length done + 1) todo))) (append_assoc done (f ∷ []) todo)
    (subst (λ n. Knows ((done ++ f ∷ []) ++ todo) (fold with_file index' (enumerate_from n todo))) count more)

pub knows : (files : List ColumnFile) → Knows files (index_of files)
knows files = knows_all files [] [] (record { up = rising_none; placed = tt; shows = λ h ts o. refl })
