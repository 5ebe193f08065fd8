-- The rows that are listed are the log's.
use Rattle.std.proofs.Common.{◌≡◌, ◌∙◌, refl, sym, ap, subst, ℕ, ℤ, suc, ◌+◌, true, cond, List, [], ◌∷◌, ◌++◌, length, Option, Some, None, option_map, filter_map, append_assoc, Less, arith, ◌≤◌, ◌<◌, ◌^◌}
use Rattle.std.specs.Option.{option_and_then, is_some}
use Rattle.std.specs.List.{flat_map, cons_option, AllByRecursion}
use Rattle.std.specs.List.Sorted.{IsStrictlySortedBy}
use Rattle.std.specs.Ordering.{int_cmp}
use Rattle.std.specs.Cmp.{int_cmp_total}
use Rattle.std.specs.Map.{keys_of}
use Rattle.std.specs.BTreeMap.{BTreeMap, IsOrdered, get}
use Rattle.std.specs.Prelude.{Contains}
use Rattle.std.proofs.lemmas.Map.Lookups.{exact_signed}
use Rattle.std.proofs.lemmas.Map.Views.{btree_map_get_iff}
use Rattle.std.proofs.lemmas.List.Elements.{All-contains}
use Rattle.committed_log.specs.Log.{Log, end}
use Rattle.committed_log.proofs.ReadLaws.{rows_at_end_are}
use Rattle.column_block.specs.declared.cell.Row.{Row}
use Rattle.column_block.specs.declared.column.Column.{Column}
use Rattle.tool_text.specs.Texts.{line}
use Rattle.committed_log.specs.declared.store.Commit.{Commit}
use Rattle.committed_log.specs.Reads.{row_of, shown, rows_at_end}
use Rattle.std.proofs.lemmas.List.{append-nil}
use Rattle.log_rows.specs.Texts.{rows_text, last_line}
use Rattle.log_rows.specs.declared.fold.Known.{Known}
use Rattle.log_rows.specs.declared.fold.Seen.{Seen}
use Rattle.log_rows.specs.Folds.{Holds, seen_of, as_seen, newest_until, row_of_known, lines_of, shown_rows}
use Rattle.log_rows.proofs.Members.{in_kept, kept, handles_of, same_rows}

-- ---- lines

pub lines_more : (o : Option Row) (rows : List Row) → flat_map line (cons_option o rows) ≡ lines_of o ++ flat_map line rows
lines_more None rows = refl
lines_more (Some row) rows = refl

pub count_more : (o : Option Row) (rows : List Row) → length (cons_option o rows) ≡ cond (is_some o) 1 0 + length rows
count_more None rows = omega arith
count_more (Some row) rows = omega arith

-- ---- one handle more

module _ (schema : List Column) (known : ℤ × Known) (rest items : List (ℤ × Known)) (is : items ≡ known ∷ rest) where
  abbrev row : Option Row
  row = row_of_known schema known

  abbrev later : List Row
  later = filter_map (row_of_known schema) rest

  items_rows : filter_map (row_of_known schema) items ≡ cons_option row later
  items_rows = ap (filter_map (row_of_known schema)) is

  pub text_more : (text new : List ℕ) (all : List ℕ) → text ++ flat_map line (filter_map (row_of_known schema) items) ≡ all → new ≡ text ++ lines_of row → new ++ flat_map line later ≡ all
  text_more text new all so_far added =
      ap (λ t. t ++ flat_map line later) added ∙ append_assoc text (lines_of row) (flat_map line later)
      ∙ ap (λ t. text ++ t) (sym (lines_more row later) ∙ sym (ap (flat_map line) items_rows)) ∙ so_far

  pub counted_more : (count all : ℕ) → count + length (filter_map (row_of_known schema) items) ≡ all → is_some row ≡ true → count + 1 + length later ≡ all
  counted_more count all so_far shown =
      let one : length (filter_map (row_of_known schema) items) ≡ 1 + length later = ap length items_rows ∙ count_more row later ∙ ap (λ b. cond b 1 0 + length later) shown in
      omega (arith, so_far, one)

few_kept : (schema : List Column) (es : List (ℤ × Known)) → length (filter_map (row_of_known schema) es) ≤ length es
few_kept schema [] = omega arith
few_kept schema (e ∷ es) =
    let more = count_more (row_of_known schema e) (filter_map (row_of_known schema) es) in
    let few = few_kept schema es in
    at_most (row_of_known schema e) more few
  where
    at_most : (o : Option Row) → length (cons_option o (filter_map (row_of_known schema) es)) ≡ cond (is_some o) 1 0 + length (filter_map (row_of_known schema) es) → length (filter_map (row_of_known schema) es) ≤ length es → length (cons_option o (filter_map (row_of_known schema) es)) ≤ suc (length es)
    at_most None more few = omega (arith, few)
    at_most (Some row) more few = omega (arith, few)

-- the count of rows is a number of the program
pub count_fits : (schema : List Column) (known : ℤ × Known) (rest items all : List (ℤ × Known)) (is : items ≡ known ∷ rest) (count : ℕ) → count + length (filter_map (row_of_known schema) items) ≡ length (filter_map (row_of_known schema) all) → is_some (row_of_known schema known) ≡ true → length all < 2 ^ 63 → count + 1 < 2 ^ 63
count_fits schema known rest items all is count so_far shown fits =
    let more = counted_more schema known rest items is count (length (filter_map (row_of_known schema) all)) so_far shown in
    let few = few_kept schema all in
    omega (arith, more, few, fits)

-- at the end the lines and the count are the text
pub whole_text : (schema : List Column) (items : List (ℤ × Known)) (rows : List Row) → items ≡ [] → (text new : List ℕ) (count : ℕ) → text ++ flat_map line (filter_map (row_of_known schema) items) ≡ flat_map line rows → count + length (filter_map (row_of_known schema) items) ≡ length rows → new ≡ text ++ last_line count → new ≡ rows_text rows
unfolding rows_text
whole_text schema items rows none text new count so_far counted added =
    let all : text ≡ flat_map line rows = sym (append-nil text) ∙ ap (λ (es : List (ℤ × Known)). text ++ flat_map line (filter_map (row_of_known schema) es)) (sym none) ∙ so_far in
    let number : count ≡ length rows = plus_none count ∙ ap (λ (es : List (ℤ × Known)). count + length (filter_map (row_of_known schema) es)) (sym none) ∙ counted in
    added ∙ ap (λ t. t ++ last_line count) all ∙ ap (λ n. flat_map line rows ++ last_line n) number
  where
    plus_none : (n : ℕ) → n ≡ n + 0
    plus_none n = omega arith

-- ---- the rows that are listed are the log's

below_rows : (schema : List Column) (h : ℤ) (es : List (ℤ × Known)) → AllByRecursion (λ q. int_cmp h q ≡ Less) (keys_of es) → AllByRecursion (λ q. int_cmp h q ≡ Less) (handles_of (filter_map (row_of_known schema) es))
below_rows schema h [] all = tt
below_rows schema h (e ∷ es) all = below_one (option_and_then (λ (s : Seen). s.value) e.1.seen) (below_rows schema h es all.1)
  where
    below_one : (o : Option (List ℕ)) → AllByRecursion (λ q. int_cmp h q ≡ Less) (handles_of (filter_map (row_of_known schema) es)) → AllByRecursion (λ q. int_cmp h q ≡ Less) (handles_of (cons_option (option_map (row_of schema e.0) o) (filter_map (row_of_known schema) es)))
    below_one None rest = rest
    below_one (Some value) rest = (all.0, rest)

rows_rise : (schema : List Column) (es : List (ℤ × Known)) → IsStrictlySortedBy int_cmp (keys_of es) → IsStrictlySortedBy int_cmp (handles_of (filter_map (row_of_known schema) es))
unfolding IsStrictlySortedBy
rows_rise schema [] rise = tt
rows_rise schema (e ∷ es) rise = one (option_and_then (λ (s : Seen). s.value) e.1.seen) (rows_rise schema es rise.1)
  where
    one : (o : Option (List ℕ)) → IsStrictlySortedBy int_cmp (handles_of (filter_map (row_of_known schema) es)) → IsStrictlySortedBy int_cmp (handles_of (cons_option (option_map (row_of schema e.0) o) (filter_map (row_of_known schema) es)))
    one None rest = rest
    one (Some value) rest = (below_rows schema e.0 es rise.0, rest)

seen_value : (o : Option Commit) → option_and_then (λ (s : Seen). s.value) (option_map as_seen o) ≡ option_and_then (λ (c : Commit). c.value) o
seen_value None = refl
seen_value (Some c) = refl

module _ (log : Log) (ts : ℕ) (waiting : BTreeMap (ℤ × ℕ) (List ℕ)) (known : BTreeMap ℤ Known) (holds : Holds (end log) ts waiting known) (ordered : IsOrdered int_cmp known) where
  abbrev rule : ℤ → Option Row
  rule h = option_map (row_of log.schema h) (shown (end log).commits ts h)

  -- what is known of a handle gives its row
  by_rule : (h : ℤ) (k : Option Known) → get int_cmp known h ≡ k → option_map (row_of log.schema h) (option_and_then (λ (s : Seen). s.value) (option_and_then seen_of k)) ≡ rule h
  by_rule h k is = ap (λ o. option_map (row_of log.schema h) (option_and_then (λ (s : Seen). s.value) o)) (sym (subst (λ o. option_map as_seen (newest_until ts h (end log).commits) ≡ option_and_then seen_of o) is (holds.handles h).seen)) ∙ ap (option_map (row_of log.schema h)) (seen_value (newest_until ts h (end log).commits))

  listed_is : (row : Row) → Contains (filter_map (row_of_known log.schema) known.entries) row → Contains (rows_at_end log ts) row
  listed_is row has =
      let e = in_kept (row_of_known log.schema) known.entries row has in
      let there = (btree_map_get_iff int_cmp_total exact_signed known ordered e.0.0 e.0.1).1 e.1 in
      (rows_at_end_are log ts).all e.0.0 row (sym (by_rule e.0.0 (Some e.0.1) there) ∙ e.2)

  is_listed : (row : Row) → Contains (rows_at_end log ts) row → Contains (filter_map (row_of_known log.schema) known.entries) row
  is_listed row has = found (get int_cmp known row.handle) refl (All-contains (λ (r : Row). rule r.handle ≡ Some r) (rows_at_end log ts) row (rows_at_end_are log ts).each has)
    where
      found : (k : Option Known) → get int_cmp known row.handle ≡ k → rule row.handle ≡ Some row → Contains (filter_map (row_of_known log.schema) known.entries) row
      found None is given = absurd (cc (by_rule row.handle None is, given))
      found (Some k) is given = kept (row_of_known log.schema) known.entries (row.handle, k) row ((btree_map_get_iff int_cmp_total exact_signed known ordered row.handle k).0 is) (by_rule row.handle (Some k) is ∙ given)

  pub listed : shown_rows log.schema known ≡ rows_at_end log ts
  listed = same_rows (shown_rows log.schema known) (rows_at_end log ts) (rows_rise log.schema known.entries ordered) (rows_at_end_are log ts).rise listed_is is_listed
