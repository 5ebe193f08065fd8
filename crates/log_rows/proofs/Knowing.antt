-- What is known of handles, as commits are added.
use Rattle.std.proofs.Common.{◌≡◌, ◌∙◌, refl, sym, ap, subst, ℕ, ℤ, Bool, true, false, cond, List, [], ◌∷◌, ◌++◌, Option, Some, None, map, fold, option_map, nat_lt, nat_le, ◌&&◌, arith, not, filter, true≢false, suc, ◌+◌, slice_get, OnOk, Result, Ok, Err}
use Rattle.std.specs.Option.{option_and_then}
use Rattle.std.specs.Ordering.{int_cmp, int_eq}
use Rattle.std.specs.BTreeMap.{BTreeMap, get, is_at, insert_entry}
use Rattle.std.specs.Map.{remove_entry, lookup}
use Rattle.committed_log.specs.declared.region.Region.{Region}
use Rattle.flash_types.specs.Ranges.{holds}
use Rattle.flash_types.specs.declared.range.HandleRange.{HandleRange}
use Rattle.std.proofs.lemmas.Int.{ints}
use Rattle.std.proofs.lemmas.List.{map_push}
use Rattle.committed_log.specs.declared.op.LastCommit.{LastCommit}
use Rattle.log_codec.specs.declared.entry.Op.{Op}
use Rattle.log_codec.specs.declared.entry.Body.TheVariants.{Install}
use Rattle.committed_log.specs.declared.op.FamilyOp.TheVariants as change
use Rattle.committed_log.specs.declared.store.Lock.{Lock}
use Rattle.committed_log.specs.Store.{Store, after_change, after_ops, after_entry, families_after, cleared, value, value_cmp, committed_value, is_repeated, newer, candidate, newest, last_commit, is_delete}
use Rattle.committed_log.specs.declared.store.Commit.{Commit}
use Rattle.committed_log.specs.Log.{Log, at}
use Rattle.log_codec.specs.declared.entry.Entry.{Entry}
use Rattle.committed_log.proofs.Entries.{at_next}
use Rattle.committed_log.proofs.Positions.{fold_push}
use Rattle.log_rows.specs.declared.fold.Known.{Known}
use Rattle.log_rows.specs.declared.fold.Seen.{Seen}
use Rattle.log_rows.specs.Folds.{Holds, Knows, last_of, seen_of, as_seen, newest_until, later_last, later_seen, next_known}

newest_push : (p : Commit → Bool) (h : ℤ) (commits : List Commit) (c : Commit) → newest p h (commits ++ c ∷ []) ≡ newer (newest p h commits) (candidate p h c)
newest_push p h commits c = ap (fold newer None) (map_push (candidate p h) commits c) ∙ fold_push newer None (map (candidate p h) commits) (candidate p h c)

newer_none : (o : Option Commit) → newer o None ≡ o
newer_none None = refl
newer_none (Some c) = refl

int_eq_refl : (h : ℤ) → int_eq h h ≡ true
int_eq_refl h = grind (arith, ints)

same_handle : (a q : ℤ) → is_at (int_cmp a) q ≡ true → a ≡ q
same_handle a q e = grind (arith, ints)

other_handle : (a q : ℤ) → is_at (int_cmp a) q ≡ false → int_eq a q ≡ false
other_handle a q e = grind (arith, ints)

-- ---- the commit's own handle

abbrev summary : Commit → LastCommit
summary c = record { ts = c.ts; start = c.start; gone = is_delete c }

later_is : (o : Option Commit) (c : Commit) → option_map summary (newer o (Some c)) ≡ Some (later_last (option_map summary o) (summary c))
later_is None c = refl
later_is (Some b) c = elim (nat_lt b.ts c.ts) as (λ t. option_map summary (cond t (Some c) (Some b)) ≡ Some (cond t (summary c) (summary b))) [ true ↦ refl | false ↦ refl ]

seen_is : (o : Option Commit) (c : Commit) → option_map as_seen (newer o (Some c)) ≡ Some (later_seen (option_map as_seen o) (as_seen c))
seen_is None c = refl
seen_is (Some b) c = elim (nat_lt b.ts c.ts) as (λ t. option_map as_seen (cond t (Some c) (Some b)) ≡ Some (cond t (as_seen c) (as_seen b))) [ true ↦ refl | false ↦ refl ]

own_candidate : (p : Commit → Bool) (c : Commit) → candidate p c.handle c ≡ cond (p c) (Some c) None
own_candidate p c = ap (λ t. cond (t && p c) (Some c) None) (int_eq_refl c.handle)

last_own : (commits : List Commit) (c : Commit) (known : Option LastCommit) → last_commit commits c.handle ≡ known → last_commit (commits ++ c ∷ []) c.handle ≡ Some (later_last known (summary c))
last_own commits c known before =
    ap (option_map summary) (newest_push (λ x. true) c.handle commits c ∙ ap (newer (newest (λ x. true) c.handle commits)) (own_candidate (λ x. true) c))
    ∙ later_is (newest (λ x. true) c.handle commits) c
    ∙ ap (λ o. Some (later_last o (summary c))) before

seen_own : (commits : List Commit) (c : Commit) (asked : ℕ) (known : Option Seen) → option_map as_seen (newest_until asked c.handle commits) ≡ known
    → option_map as_seen (newest_until asked c.handle (commits ++ c ∷ [])) ≡ cond (nat_le c.ts asked) (Some (later_seen known (as_seen c))) known
seen_own commits c asked known before =
    ap (option_map as_seen) (newest_push (λ x. nat_le x.ts asked) c.handle commits c ∙ ap (newer (newest_until asked c.handle commits)) (own_candidate (λ x. nat_le x.ts asked) c))
    ∙ elim (nat_le c.ts asked) as (λ t. option_map as_seen (newer (newest_until asked c.handle commits) (cond t (Some c) None)) ≡ cond t (Some (later_seen known (as_seen c))) known) [
      | true ↦ seen_is (newest_until asked c.handle commits) c ∙ ap (λ o. Some (later_seen o (as_seen c))) before
      | false ↦ ap (option_map as_seen) (newer_none (newest_until asked c.handle commits)) ∙ before
    ]

pub knows_own : (commits : List Commit) (c : Commit) (asked : ℕ) (known : Option Known) → Knows commits asked c.handle known → Knows (commits ++ c ∷ []) asked c.handle (Some (next_known asked known c.ts c.start c.value))
knows_own commits c asked known k = record {
  last = last_own commits c (option_map last_of known) k.last;
  seen = seen_own commits c asked (option_and_then seen_of known) k.seen;
}

-- ---- other handles

other_candidate : (p : Commit → Bool) (h : ℤ) (c : Commit) → int_eq c.handle h ≡ false → candidate p h c ≡ None
other_candidate p h c differ = ap (λ t. cond (t && p c) (Some c) None) differ

newest_other : (p : Commit → Bool) (h : ℤ) (commits : List Commit) (c : Commit) → int_eq c.handle h ≡ false → newest p h (commits ++ c ∷ []) ≡ newest p h commits
newest_other p h commits c differ = newest_push p h commits c ∙ ap (newer (newest p h commits)) (other_candidate p h c differ) ∙ newer_none (newest p h commits)

pub knows_other : (commits : List Commit) (c : Commit) (asked : ℕ) (h : ℤ) (known : Option Known) → int_eq c.handle h ≡ false → Knows commits asked h known → Knows (commits ++ c ∷ []) asked h known
knows_other commits c asked h known differ k = record {
  last = ap (option_map summary) (newest_other (λ x. true) h commits c differ) ∙ k.last;
  seen = ap (option_map as_seen) (newest_other (λ x. nat_le x.ts asked) h commits c differ) ∙ k.seen;
}

-- ---- all handles

pub knows_all : (commits : List Commit) (c : Commit) (asked : ℕ) (old new : BTreeMap ℤ Known) → ((h : ℤ) → Knows commits asked h (get int_cmp old h))
    → ((q : ℤ) → get int_cmp new q ≡ cond (is_at (int_cmp c.handle) q) (Some (next_known asked (get int_cmp old c.handle) c.ts c.start c.value)) (get int_cmp old q))
    → (h : ℤ) → Knows (commits ++ c ∷ []) asked h (get int_cmp new h)
knows_all commits c asked old new before update h =
    let next = next_known asked (get int_cmp old c.handle) c.ts c.start c.value in
    subst (Knows (commits ++ c ∷ []) asked h) (sym (update h))
    (elim (is_at (int_cmp c.handle) h) as (λ t. is_at (int_cmp c.handle) h ≡ t → Knows (commits ++ c ∷ []) asked h (cond t (Some next) (get int_cmp old h))) [
      | true ↦ λ at. subst (λ q. Knows (commits ++ c ∷ []) asked q (Some next)) (same_handle c.handle h at) (knows_own commits c asked (get int_cmp old c.handle) (before c.handle))
      | false ↦ λ off. knows_other commits c asked h (get int_cmp old h) (other_handle c.handle h off) (before h)
    ] refl)

-- ---- a commit's value

-- a put with no short value takes the one that waits
pub long_value : (gone : Bool) (short long v : Option (List ℕ)) → gone ≡ false → ((bytes : List ℕ) → short ≡ Some bytes → ⊥) → v ≡ long → v ≡ committed_value gone short long
long_value gone None long v put none is = is ∙ sym (ap (λ g. committed_value g None long) put)
long_value gone (Some bytes) long v put none is = absurd (none bytes refl)

-- ---- one change

-- a commit that says again what the last one says changes nothing
pub holds_repeated : (asked p : ℕ) (s : Store) (waiting : BTreeMap (ℤ × ℕ) (List ℕ)) (known : BTreeMap ℤ Known) (h : ℤ) (ts start : ℕ) (gone : Bool) (short : Option (List ℕ)) → Holds s asked waiting known
    → is_repeated (option_map last_of (get int_cmp known h)) ts start gone ≡ true → Holds (after_change p s (change.Write h ts start gone short)) asked waiting known
holds_repeated asked p s waiting known h ts start gone short holds again =
    let same : is_repeated (last_commit s.commits h) ts start gone ≡ true = ap (λ o. is_repeated o ts start gone) (holds.handles h).last ∙ again in
    subst (λ t. Holds (cond t s (record s { commits = s.commits ++ record { handle = h; ts = ts; start = start; value = committed_value gone short (value s.values h start); position = p } ∷ [] })) asked waiting known) (sym same) holds

-- another commit is the last one of its handle
pub holds_commit : (asked p : ℕ) (s : Store) (waiting : BTreeMap (ℤ × ℕ) (List ℕ)) (old new : BTreeMap ℤ Known) (h : ℤ) (ts start : ℕ) (gone : Bool) (short : Option (List ℕ)) → Holds s asked waiting old
    → is_repeated (option_map last_of (get int_cmp old h)) ts start gone ≡ false
    → ((q : ℤ) → get int_cmp new q ≡ cond (is_at (int_cmp h) q) (Some (next_known asked (get int_cmp old h) ts start (committed_value gone short (value waiting.entries h start)))) (get int_cmp old q))
    → Holds (after_change p s (change.Write h ts start gone short)) asked waiting new
holds_commit asked p s waiting old new h ts start gone short holds fresh update =
    let same : is_repeated (last_commit s.commits h) ts start gone ≡ false = ap (λ o. is_repeated o ts start gone) (holds.handles h).last ∙ fresh in
    let c : Commit = record { handle = h; ts = ts; start = start; value = committed_value gone short (value s.values h start); position = p } in
    let update' = subst (λ values. (q : ℤ) → get int_cmp new q ≡ cond (is_at (int_cmp h) q) (Some (next_known asked (get int_cmp old h) ts start (committed_value gone short (value values h start)))) (get int_cmp old q)) holds.values update in
    subst (λ t. Holds (cond t s (record s { commits = s.commits ++ c ∷ [] })) asked waiting new) (sym same)
    (record { values = holds.values; handles = knows_all s.commits c asked old new holds.handles update' })

pub holds_put : (asked p : ℕ) (s : Store) (old new : BTreeMap (ℤ × ℕ) (List ℕ)) (known : BTreeMap ℤ Known) (h : ℤ) (start : ℕ) (bytes : List ℕ) → Holds s asked old known
    → new.entries ≡ insert_entry value_cmp old.entries (h, start) bytes → Holds (after_change p s (change.Value h start bytes)) asked new known
holds_put asked p s old new known h start bytes holds put = record { values = put ∙ ap (λ es. insert_entry value_cmp es (h, start) bytes) holds.values; handles = holds.handles }

pub holds_dropped : (asked p : ℕ) (s : Store) (old new : BTreeMap (ℤ × ℕ) (List ℕ)) (known : BTreeMap ℤ Known) (h : ℤ) (start : ℕ) → Holds s asked old known
    → new.entries ≡ remove_entry (is_at (value_cmp (h, start))) old.entries → Holds (after_change p s (change.DropValue h start)) asked new known
holds_dropped asked p s old new known h start holds drop = record { values = drop ∙ ap (remove_entry (is_at (value_cmp (h, start)))) holds.values; handles = holds.handles }

pub holds_locked : (asked p : ℕ) (s : Store) (waiting : BTreeMap (ℤ × ℕ) (List ℕ)) (known : BTreeMap ℤ Known) (locks : List (ℤ × Lock)) → Holds s asked waiting known → Holds (record s { locks = locks }) asked waiting known
holds_locked asked p s waiting known locks holds = record { values = holds.values; handles = holds.handles }

-- ---- a range that is taken away

newest_kept : (test : Commit → Bool) (h : ℤ) (keep : Commit → Bool) → ((c : Commit) → int_eq c.handle h ≡ true → keep c ≡ true) → (acc : Option Commit) (cs : List Commit) → fold newer acc (map (candidate test h) (filter keep cs)) ≡ fold newer acc (map (candidate test h) cs)
newest_kept test h keep all acc [] = refl
newest_kept test h keep all acc (c ∷ cs) =
    elim (keep c) as (λ b. keep c ≡ b → fold newer acc (map (candidate test h) (cond b (c ∷ filter keep cs) (filter keep cs))) ≡ fold newer (newer acc (candidate test h c)) (map (candidate test h) cs)) [
      | true ↦ λ is. newest_kept test h keep all (newer acc (candidate test h c)) cs
      | false ↦ λ is. newest_kept test h keep all acc cs ∙ ap (λ a. fold newer a (map (candidate test h) cs)) (sym (ap (newer acc) (absent is) ∙ newer_none acc))
    ] refl
  where
    other : (b : Bool) → int_eq c.handle h ≡ b → keep c ≡ false → int_eq c.handle h ≡ false
    other true same out = absurd (true≢false (sym (all c same) ∙ out))
    other false same out = same

    absent : keep c ≡ false → candidate test h c ≡ None
    absent out = other_candidate test h c (other (int_eq c.handle h) refl out)

newest_gone : (test : Commit → Bool) (h : ℤ) (keep : Commit → Bool) → ((c : Commit) → int_eq c.handle h ≡ true → keep c ≡ false) → (cs : List Commit) → newest test h (filter keep cs) ≡ None
newest_gone test h keep none [] = refl
newest_gone test h keep none (c ∷ cs) =
    elim (keep c) as (λ b. keep c ≡ b → fold newer None (map (candidate test h) (cond b (c ∷ filter keep cs) (filter keep cs))) ≡ None) [
      | true ↦ λ is. ap (λ a. fold newer (newer None a) (map (candidate test h) (filter keep cs))) (absent is) ∙ newest_gone test h keep none cs
      | false ↦ λ is. newest_gone test h keep none cs
    ] refl
  where
    other : (b : Bool) → int_eq c.handle h ≡ b → keep c ≡ true → int_eq c.handle h ≡ false
    other true same kept = absurd (true≢false (sym kept ∙ none c same))
    other false same kept = same

    absent : keep c ≡ true → candidate test h c ≡ None
    absent kept = other_candidate test h c (other (int_eq c.handle h) refl kept)

equal_handles : (a b : ℤ) → int_eq a b ≡ true → a ≡ b
equal_handles a b e = grind (arith, ints)

none_either : (b : Bool) → ◌≡◌ {A = Option Known} None (cond b None None)
none_either true = refl
none_either false = refl

lookup_within : (range : HandleRange) (h : ℤ) (es : List (ℤ × Known)) → lookup (is_at (int_cmp h)) (filter (λ e. not (holds range e.0)) es) ≡ cond (holds range h) None (lookup (is_at (int_cmp h)) es)
lookup_within range h [] = none_either (holds range h)
lookup_within range h (e ∷ es) =
    elim (holds range e.0) as (λ b. holds range e.0 ≡ b → lookup (is_at (int_cmp h)) (cond (not b) (e ∷ filter (λ x. not (holds range x.0)) es) (filter (λ x. not (holds range x.0)) es)) ≡ cond (holds range h) None (cond (is_at (int_cmp h) e.0) (Some e.1) (lookup (is_at (int_cmp h)) es))) [
      | true ↦ λ inside. lookup_within range h es ∙ elim (is_at (int_cmp h) e.0) as (λ t. is_at (int_cmp h) e.0 ≡ t → cond (holds range h) None (lookup (is_at (int_cmp h)) es) ≡ cond (holds range h) None (cond t (Some e.1) (lookup (is_at (int_cmp h)) es))) [
        | true ↦ λ at. let held = ap (holds range) (same_handle h e.0 at) ∙ inside in ap (λ b. cond b None (lookup (is_at (int_cmp h)) es)) held ∙ sym (ap (λ b. cond b None (Some e.1)) held)
        | false ↦ λ off. refl
      ] refl
      | false ↦ λ outside. elim (is_at (int_cmp h) e.0) as (λ t. is_at (int_cmp h) e.0 ≡ t → cond t (Some e.1) (lookup (is_at (int_cmp h)) (filter (λ x. not (holds range x.0)) es)) ≡ cond (holds range h) None (cond t (Some e.1) (lookup (is_at (int_cmp h)) es))) [
        | true ↦ λ at. sym (ap (λ b. cond b None (Some e.1)) (ap (holds range) (same_handle h e.0 at) ∙ outside))
        | false ↦ λ off. lookup_within range h es
      ] refl
    ] refl

knows_cleared : (range : HandleRange) (commits : List Commit) (asked : ℕ) (h : ℤ) (known : Option Known) → Knows commits asked h known → Knows (filter (λ (c : Commit). not (holds range c.handle)) commits) asked h (cond (holds range h) None known)
knows_cleared range commits asked h known k =
    let keep : Commit → Bool = λ c. not (holds range c.handle) in
    elim (holds range h) as (λ b. holds range h ≡ b → Knows (filter keep commits) asked h (cond b None known)) [
      | true ↦ λ inside. record {
        last = ap (option_map summary) (newest_gone (λ c. true) h keep (λ c same. ap (λ q. not (holds range q)) (equal_handles c.handle h same) ∙ ap not inside) commits);
        seen = ap (option_map as_seen) (newest_gone (λ c. nat_le c.ts asked) h keep (λ c same. ap (λ q. not (holds range q)) (equal_handles c.handle h same) ∙ ap not inside) commits);
      }
      | false ↦ λ outside. record {
        last = ap (option_map summary) (newest_kept (λ c. true) h keep (λ c same. ap (λ q. not (holds range q)) (equal_handles c.handle h same) ∙ ap not outside) None commits) ∙ k.last;
        seen = ap (option_map as_seen) (newest_kept (λ c. nat_le c.ts asked) h keep (λ c same. ap (λ q. not (holds range q)) (equal_handles c.handle h same) ∙ ap not outside) None commits) ∙ k.seen;
      }
    ] refl

pub holds_cleared : (asked : ℕ) (range : HandleRange) (s : Store) (old new : BTreeMap (ℤ × ℕ) (List ℕ)) (before after : BTreeMap ℤ Known) → Holds s asked old before
    → new.entries ≡ filter (λ e. not (holds range e.0.0)) old.entries → after.entries ≡ filter (λ e. not (holds range e.0)) before.entries
    → Holds (cleared range s) asked new after
holds_cleared asked range s old new before after holds_old values handles = record {
  values = values ∙ ap (filter (λ e. not (holds range e.0.0))) holds_old.values;
  handles = λ h. subst (Knows (cleared range s).commits asked h) (sym (ap (lookup (is_at (int_cmp h))) handles ∙ lookup_within range h before.entries)) (knows_cleared range s.commits asked h (get int_cmp before h) (holds_old.handles h));
}

-- ---- calls

pub ok_so : {T E P Q : Type 0} (r : Result T E) → (P → Q) → OnOk r P → OnOk r Q
ok_so (Ok x) f p = f p
ok_so (Err e) f p = tt

-- an install does the same whether its region was there or not
pub families_installed : (table : ℤ) (p : ℕ) (there : Option HandleRange) (conf_ver version : ℕ) (low : ℤ) (high : Option ℤ) (ops : List Op) (s : Store) (range : HandleRange) → range ≡ record { low = low; high = high }
    → families_after table p there (Install conf_ver version low high ops) s ≡ after_ops table range p (cleared range s) ops
families_installed table p None conf_ver version low high ops s range is = ap (λ (r : HandleRange). after_ops table r p (cleared r s) ops) (sym is)
families_installed table p (Some there) conf_ver version low high ops s range is = ap (λ (r : HandleRange). after_ops table r p (cleared r s) ops) (sym is)

-- the regions of a store say nothing of its families
pub holds_regions : (s : Store) (regions : List (ℕ × Region)) (asked : ℕ) (waiting : BTreeMap (ℤ × ℕ) (List ℕ)) (known : BTreeMap ℤ Known) → Holds s asked waiting known → Holds (record s { regions = regions }) asked waiting known
holds_regions s regions asked waiting known holds = record { values = holds.values; handles = holds.handles }

plus_one : (p : ℕ) → suc p ≡ p + 1
plus_one p = omega arith

-- the store after one more entry of a log
pub next_at : (log : Log) (p : ℕ) (e : Entry) → slice_get log.entries p ≡ Some e → after_entry log.table p (at log p) e ≡ at log (p + 1)
next_at log p e is = sym (at_next log p e is) ∙ ap (at log) (plus_one p)
