-- The rows of a read rise by handle, each is what the read rule shows of its handle, and no handle that the rule shows is missing. Locks of a range are found in a part that holds it.
use Rattle.std.proofs.Common.{◌≡◌, ◌∙◌, refl, sym, ap, subst, ℕ, ℤ, Bool, true, false, true≢false, cond, ◌&&◌, ◌||◌, List, [], ◌∷◌, ◌++◌, Option, Some, None, option_map, option_and_then, fold, map, find, filter, nat_le, arith}
use Rattle.std.proofs.lemmas.Int.{ints}
use Rattle.std.proofs.lemmas.List.Elements.{All-cons, All-nil, Contains-append_right}
use Rattle.std.proofs.lemmas.Map.Lookups.{exact_signed}
use Rattle.std.specs.BTreeMap.{insert_entry, is_at}
use Rattle.std.specs.Cmp.{int_cmp_total}
use Rattle.std.specs.List.{All, Contains, filter_map, flat_map, list_any, cons_option, AllByRecursion}
use Rattle.std.specs.List.Sorted.{IsStrictlySortedBy}
use Rattle.std.specs.Map.{keys_of}
use Rattle.std.specs.Ordering.{int_cmp, int_eq, match_ordering}
use Rattle.std.specs.declared.cmp.Ordering.TheVariants.{Less, Equal, Greater}
use Rattle.column_block.specs.declared.cell.Row.{Row}
use Rattle.flash_types.specs.Ranges.{holds}
use Rattle.flash_types.specs.declared.range.HandleRange.{HandleRange}
use Rattle.flash_types.specs.declared.refusal.Cut.{Cut}
use Rattle.committed_log.specs.Laws.{AreRowsBy}
use Rattle.committed_log.specs.Log.{Log, end}
use Rattle.committed_log.specs.Reads.{shown, row_of, handles, commits_of, shown_by, row_of_handle, rows, rows_at_end}
use Rattle.committed_log.specs.Replies.{blocks, first_lock, may_commit}
use Rattle.committed_log.specs.Store.{Commit, Lock, newer, candidate, newest}
use Rattle.committed_log.proofs.Faults.{or_false, both_true}
use Rattle.committed_log.proofs.Maps.{Rise, Rise-insert_entry}

-- ---- the handles of commits

abbrev Found : Type 0
Found = List (ℤ × Unit {0})

abbrev put : Found → Commit → Found
put found c = insert_entry int_cmp found c.handle tt

handles_rise_from : (found : Found) (cs : List Commit) → Rise int_cmp found → Rise int_cmp (fold put found cs)
handles_rise_from found [] rise = rise
handles_rise_from found (c ∷ cs) rise = handles_rise_from (put found c) cs (Rise-insert_entry int_cmp_total found c.handle tt rise)

rise_nil : Rise {X = Unit {0}} int_cmp []
unfolding IsStrictlySortedBy
rise_nil = tt

pub handles_rise : (cs : List Commit) → IsStrictlySortedBy int_cmp (handles cs)
handles_rise cs = handles_rise_from [] cs rise_nil

or_swap : (a b c : Bool) → (a || (b || c)) ≡ (b || (a || c))
or_swap true true c = refl
or_swap true false c = refl
or_swap false b c = refl

or_again : (a b c : Bool) → a ≡ b → (b || c) ≡ (a || (b || c))
or_again true true c e = refl
or_again true false c e = absurd (true≢false e)
or_again false b c e = refl

any_insert : (h : ℤ) (es : Found) (k : ℤ) → list_any (is_at (int_cmp h)) (keys_of (insert_entry int_cmp es k tt)) ≡ (is_at (int_cmp h) k || list_any (is_at (int_cmp h)) (keys_of es))
any_insert h [] k = refl
any_insert h (e ∷ es) k =
    elim (int_cmp k e.0) as (λ r. int_cmp k e.0 ≡ r → list_any (is_at (int_cmp h)) (keys_of (match_ordering r ((k, tt) ∷ e ∷ es) ((e.0, tt) ∷ es) (e ∷ insert_entry int_cmp es k tt))) ≡ (is_at (int_cmp h) k || (is_at (int_cmp h) e.0 || list_any (is_at (int_cmp h)) (keys_of es)))) [
      | Less ↦ λ _. refl
      | Equal ↦ λ is. or_again (is_at (int_cmp h) k) (is_at (int_cmp h) e.0) (list_any (is_at (int_cmp h)) (keys_of es)) (ap (is_at (int_cmp h)) (exact_signed k e.0 is))
      | Greater ↦ λ _. ap (λ b. is_at (int_cmp h) e.0 || b) (any_insert h es k) ∙ or_swap (is_at (int_cmp h) e.0) (is_at (int_cmp h) k) (list_any (is_at (int_cmp h)) (keys_of es))
    ] refl

-- ---- a handle without commits shows nothing

abbrev NoneOn : (Commit → Bool) → ℤ → List Commit → Type 0
NoneOn p h cs = AllByRecursion (λ c. candidate p h c ≡ None) cs

not_candidate : (p : Commit → Bool) (h : ℤ) (c : Commit) → is_at (int_cmp h) c.handle ≡ false → candidate p h c ≡ None
not_candidate p h c apart = ap (λ b. cond (b && p c) (Some c) None) (turned c.handle h apart)
  where
    turned : (a b : ℤ) → is_at (int_cmp b) a ≡ false → int_eq a b ≡ false
    turned a b e = grind (arith, ints)

none_on : (p : Commit → Bool) (h : ℤ) (found : Found) (cs : List Commit) → list_any (is_at (int_cmp h)) (keys_of (fold put found cs)) ≡ false → (list_any (is_at (int_cmp h)) (keys_of found) ≡ false) × NoneOn p h cs
none_on p h found [] e = (e, tt)
none_on p h found (c ∷ cs) e =
    let rest = none_on p h (put found c) cs e in
    let parts = or_false (is_at (int_cmp h) c.handle) (list_any (is_at (int_cmp h)) (keys_of found)) (sym (any_insert h found c.handle) ∙ rest.0) in
    (parts.1, (not_candidate p h c parts.0, rest.1))

newest_none : (p : Commit → Bool) (h : ℤ) (cs : List Commit) → NoneOn p h cs → newest p h cs ≡ None
newest_none p h [] none = refl
newest_none p h (c ∷ cs) none = ap (λ o. fold newer (newer None o) (map (candidate p h) cs)) none.0 ∙ newest_none p h cs none.1

none_first : (p : Commit → Bool) (h : ℤ) (xs ys : List Commit) → NoneOn p h (xs ++ ys) → NoneOn p h xs
none_first p h [] ys none = tt
none_first p h (x ∷ xs) ys none = (none.0, none_first p h xs ys none.1)

none_second : (p : Commit → Bool) (h : ℤ) (xs ys : List Commit) → NoneOn p h (xs ++ ys) → NoneOn p h ys
none_second p h [] ys none = none
none_second p h (x ∷ xs) ys none = none_second p h xs ys none.1

abbrev seen_at : ℕ → Commit → Bool
seen_at ts c = nat_le c.ts ts

shown_none : (ts : ℕ) (h : ℤ) (cs : List Commit) → NoneOn (seen_at ts) h cs → shown cs ts h ≡ None
shown_none ts h cs none = ap (option_and_then (λ (c : Commit). c.value)) (newest_none (seen_at ts) h cs none)

shown_by_none : (log : Log) (cuts : List Cut) (ts : ℕ) (h : ℤ) → NoneOn (seen_at ts) h (flat_map (commits_of log) cuts) → shown_by log cuts ts h ≡ None
shown_by_none log [] ts h none = refl
shown_by_none log (cut ∷ cuts) ts h none =
    elim (holds cut.range h) as (λ b. option_and_then (λ cut. shown (commits_of log cut) ts h) (cond b (Some cut) (find (λ (cut : Cut). holds cut.range h) cuts)) ≡ None) [
      | true ↦ shown_none ts h (commits_of log cut) (none_first (seen_at ts) h (commits_of log cut) (flat_map (commits_of log) cuts) none)
      | false ↦ shown_by_none log cuts ts h (none_second (seen_at ts) h (commits_of log cut) (flat_map (commits_of log) cuts) none)
    ]

-- ---- rows by a rule, of handles that rise

module _ (f : ℤ → Option Row) (own : (h : ℤ) (row : Row) → f h ≡ Some row → row.handle ≡ h) where
  -- rows of handles above one are above it
  above : (l : ℤ) (ks : List ℤ) → AllByRecursion (λ k. int_cmp l k ≡ Less) ks → AllByRecursion (λ k. int_cmp l k ≡ Less) (map (λ (row : Row). row.handle) (filter_map f ks))
  above l [] a = tt
  above l (k ∷ ks) a = by (f k) refl (above l ks a.1)
    where
      by : (o : Option Row) → f k ≡ o → AllByRecursion (λ k. int_cmp l k ≡ Less) (map (λ (row : Row). row.handle) (filter_map f ks)) → AllByRecursion (λ k. int_cmp l k ≡ Less) (map (λ (row : Row). row.handle) (cons_option o (filter_map f ks)))
      by None is rest = rest
      by (Some row) is rest = (ap (int_cmp l) (own k row is) ∙ a.0, rest)

  each_is : (ks : List ℤ) → All (λ (row : Row). f row.handle ≡ Some row) (filter_map f ks)
  each_is [] = All-nil (λ (row : Row). f row.handle ≡ Some row)
  each_is (k ∷ ks) = by (f k) refl (each_is ks)
    where
      by : (o : Option Row) → f k ≡ o → All (λ (row : Row). f row.handle ≡ Some row) (filter_map f ks) → All (λ (row : Row). f row.handle ≡ Some row) (cons_option o (filter_map f ks))
      by None is rest = rest
      by (Some row) is rest = All-cons (λ (row : Row). f row.handle ≡ Some row) row (filter_map f ks) (ap f (own k row is) ∙ is) rest

  same_handle : (h k : ℤ) → is_at (int_cmp h) k ≡ true → k ≡ h
  same_handle h k e = grind (arith, ints)

  none_missing : (ks : List ℤ) (h : ℤ) (row : Row) → list_any (is_at (int_cmp h)) ks ≡ true → f h ≡ Some row → Contains (filter_map f ks) row
  none_missing [] h row there is = absurd (true≢false (sym there))
  none_missing (k ∷ ks) h row there is = by (is_at (int_cmp h) k) refl there (f k) refl (λ e. none_missing ks h row e is)
    where
      first : (xs : List Row) (r : Row) → r ≡ row → Contains (r ∷ xs) row
      first xs r same = subst (λ z. Contains (z ∷ xs) row) (sym same) (0, omega arith, refl)

      some_is : {a b : Row} → Some a ≡ Some b → a ≡ b
      some_is e = cc e

      by : (b : Bool) → is_at (int_cmp h) k ≡ b → (b || list_any (is_at (int_cmp h)) ks) ≡ true → (o : Option Row) → f k ≡ o → (list_any (is_at (int_cmp h)) ks ≡ true → Contains (filter_map f ks) row) → Contains (cons_option o (filter_map f ks)) row
      by true at_h e None none rest = cc (sym none ∙ ap f (same_handle h k at_h) ∙ is)
      by true at_h e (Some r) some rest = first (filter_map f ks) r (some_is (sym some ∙ ap f (same_handle h k at_h) ∙ is))
      by false at_h e None none rest = rest e
      by false at_h e (Some r) some rest = Contains-append_right (r ∷ []) (filter_map f ks) row (rest e)

  rise : (ks : List ℤ) → IsStrictlySortedBy int_cmp ks → IsStrictlySortedBy int_cmp (map (λ (row : Row). row.handle) (filter_map f ks))
  unfolding IsStrictlySortedBy
  rise [] h = h
  rise (k ∷ ks) h = elim (f k) as (λ o. f k ≡ o → IsStrictlySortedBy int_cmp (map (λ (row : Row). row.handle) (cons_option o (filter_map f ks)))) [
    | None ↦ λ is. rise ks h.1
    | Some row ↦ λ is. (subst (λ z. AllByRecursion (λ k. int_cmp z k ≡ Less) (map (λ (row : Row). row.handle) (filter_map f ks))) (sym (own k row is)) (above k ks h.0), rise ks h.1)
  ] refl

  -- rows of the handles of commits, where the rule shows nothing of a handle without
  pub are_rows : (cs : List Commit) → ((h : ℤ) → list_any (is_at (int_cmp h)) (handles cs) ≡ false → f h ≡ None) → AreRowsBy f (filter_map f (handles cs))
  are_rows cs nothing = record { rise = rise (handles cs) (handles_rise cs); each = each_is (handles cs); all = all }
    where
      all : (h : ℤ) (row : Row) → f h ≡ Some row → Contains (filter_map f (handles cs)) row
      all h row is = by (list_any (is_at (int_cmp h)) (handles cs)) refl
        where
          by : (b : Bool) → list_any (is_at (int_cmp h)) (handles cs) ≡ b → Contains (filter_map f (handles cs)) row
          by true e = none_missing (handles cs) h row e is
          by false e = cc (sym is ∙ nothing h e)

-- ---- a read's rows

made_for : (log : Log) (h : ℤ) (o : Option (List ℕ)) (row : Row) → option_map (row_of log.schema h) o ≡ Some row → row.handle ≡ h
made_for log h None row e = cc e
made_for log h (Some value) row e = sym (ap (λ (o : Option Row). elim o [ None ↦ h | Some r ↦ r.handle ]) e)

pub rows_are : (log : Log) (cuts : List Cut) (ts : ℕ) (clip : HandleRange) → AreRowsBy (row_of_handle log cuts ts clip) (rows log cuts ts clip)
rows_are log cuts ts clip = are_rows (row_of_handle log cuts ts clip) own (flat_map (commits_of log) cuts) nothing
  where
    own : (h : ℤ) (row : Row) → row_of_handle log cuts ts clip h ≡ Some row → row.handle ≡ h
    own h row e = by (holds clip h) e
      where
        by : (b : Bool) → cond b (option_map (row_of log.schema h) (shown_by log cuts ts h)) None ≡ Some row → row.handle ≡ h
        by true e = made_for log h (shown_by log cuts ts h) row e
        by false e = cc e

    nothing : (h : ℤ) → list_any (is_at (int_cmp h)) (handles (flat_map (commits_of log) cuts)) ≡ false → row_of_handle log cuts ts clip h ≡ None
    nothing h e = ap (λ o. cond (holds clip h) (option_map (row_of log.schema h) o) None) (shown_by_none log cuts ts h (none_on (seen_at ts) h [] (flat_map (commits_of log) cuts) e).1) ∙ either (holds clip h)
      where
        either : (b : Bool) → cond {A = Option Row} b None None ≡ None
        either true = refl
        either false = refl

pub rows_at_end_are : (log : Log) (ts : ℕ) → AreRowsBy (λ h. option_map (row_of log.schema h) (shown (end log).commits ts h)) (rows_at_end log ts)
rows_at_end_are log ts = are_rows (λ h. option_map (row_of log.schema h) (shown (end log).commits ts h)) (λ h row e. made_for log h (shown (end log).commits ts h) row e) (end log).commits
    (λ h e. ap (option_map (row_of log.schema h)) (shown_none ts h (end log).commits (none_on (seen_at ts) h [] (end log).commits e).1))

-- ---- locks

find_within : {X : Type 0} (p q : X → Bool) → ((x : X) → p x ≡ true → q x ≡ true) → (xs : List X) → find p (filter q xs) ≡ find p xs
find_within p q all [] = refl
find_within {X} p q all (x ∷ xs) = by (q x) refl (find_within p q all xs)
  where
    by : (b : Bool) → q x ≡ b → find p (filter q xs) ≡ find p xs → find p (cond b (x ∷ filter q xs) (filter q xs)) ≡ cond (p x) (Some x) (find p xs)
    by true is rest = ap (λ o. cond (p x) (Some x) o) rest
    by false is rest = rest ∙ sym (ap (λ b. cond b (Some x) (find p xs)) (off (p x) refl))
      where
        off : (c : Bool) → p x ≡ c → p x ≡ false
        off true e = absurd (true≢false (sym (all x e) ∙ is))
        off false e = e

-- the first lock in the way is that of any part that has the range
pub first_lock_within : (locks : List (ℤ × Lock)) (part range : HandleRange) (ts : ℕ) → ((h : ℤ) → holds range h ≡ true → holds part h ≡ true) → first_lock (filter (λ (l : ℤ × Lock). holds part l.0) locks) range ts ≡ first_lock locks range ts
first_lock_within locks part range ts inside = find_within (blocks range ts) (λ (l : ℤ × Lock). holds part l.0) (λ l e. inside l.0 (both_true (holds range l.0) (may l) (both_true (holds range l.0 && may l) (start l) e).0).0) locks
  where
    may : ℤ × Lock → Bool
    may l = may_commit l.1.kind

    start : ℤ × Lock → Bool
    start l = nat_le l.1.start ts
