-- The law of read indexes: what two reads of a region at one timestamp show, once both are answered at an index that misses nothing.
use Rattle.std.proofs.Common.{◌≡◌, ◌⊎◌, inl, inr, ◌∙◌, refl, sym, ap, subst, ℕ, zero, suc, ◌+◌, ◌<◌, ◌≤◌, ℤ, Bool, true, false, true≢false, cond, not, ◌&&◌, List, [], ◌∷◌, ◌++◌, Option, Some, None, option_and_then, nat_le, filter, fold, map, find, slice_get, length, arith}
use Rattle.std.proofs.lemmas.Int.{ints}
use Rattle.std.proofs.lemmas.List.Elements.{Contains-append_right}
use Rattle.std.specs.BTreeMap.{is_at}
use Rattle.std.specs.List.{All, Contains}
use Rattle.std.specs.Map.{lookup}
use Rattle.std.specs.Ordering.{int_cmp, int_eq}
use Rattle.std.specs.Prelude.{◌==◌}
use Rattle.flash_types.specs.Ranges.{holds}
use Rattle.flash_types.specs.declared.range.HandleRange.{HandleRange}
use Rattle.log_codec.specs.declared.entry.Body.{Body}
use Rattle.log_codec.specs.declared.entry.Body.TheVariants as body
use Rattle.log_codec.specs.declared.entry.Entry.{Entry}
use Rattle.log_codec.specs.declared.entry.Op.{Op}
use Rattle.committed_log.specs.Applied.{left_at, has_index, place}
use Rattle.committed_log.specs.Lawful.{IsLawful}
use Rattle.committed_log.specs.Log.{Log, at}
use Rattle.committed_log.specs.ReadIndex.{IsReadIndex, IsAnswered, clears, clears_at, NoneClears}
use Rattle.committed_log.specs.Reads.{commits_at, shown}
use Rattle.committed_log.specs.Regions.{Region, Unborn, region, range_of, index_of}
use Rattle.committed_log.specs.Replies.{may_commit, blocks, first_lock}
use Rattle.committed_log.specs.Store.{Store, Commit, Lock, lock, newer, candidate, newest, after_entry, after_ops, families_after, cleared, holds_some, clearing_of}
use Rattle.committed_log.proofs.Commits.{ops_add}
use Rattle.committed_log.proofs.Entries.{at_next, at_past}
use Rattle.committed_log.proofs.Places.{rank_of_index, rank_there}
use Rattle.committed_log.proofs.Positions.{IsLeast, found_is}
use Rattle.committed_log.proofs.Ranks.{rank, rank_grows, same_number}

-- ---- the newest commit, as commits come and go that don't pass

module _ (t : Commit → Bool) (h : ℤ) where
  whole : (o : Option Commit) → newer o None ≡ o
  whole None = refl
  whole (Some c) = refl

  -- none of these passes
  abbrev NonePass : List Commit → Type 0
  NonePass cs = (c : Commit) → Contains cs c → candidate t h c ≡ None

  passed_over : (o : Option Commit) (cs : List Commit) → NonePass cs → fold newer o (map (candidate t h) cs) ≡ o
  passed_over o [] none = refl
  passed_over o (c ∷ cs) none = ap (λ x. fold newer (newer o x) (map (candidate t h) cs)) (none c (0, omega arith, refl)) ∙ ap (λ x. fold newer x (map (candidate t h) cs)) (whole o) ∙ passed_over o cs (λ d there. none d (Contains-append_right (c ∷ []) cs d there))

  fold_more : (o : Option Commit) (xs ys : List Commit) → NonePass ys → fold newer o (map (candidate t h) (xs ++ ys)) ≡ fold newer o (map (candidate t h) xs)
  fold_more o [] ys none = passed_over o ys none
  fold_more o (x ∷ xs) ys none = fold_more (newer o (candidate t h x)) xs ys none

  newest_more : (xs ys : List Commit) → NonePass ys → newest t h (xs ++ ys) ≡ newest t h xs
  newest_more xs ys none = fold_more None xs ys none

  fold_less : (q : Commit → Bool) → ((c : Commit) → q c ≡ false → candidate t h c ≡ None) → (o : Option Commit) (cs : List Commit) → fold newer o (map (candidate t h) (filter q cs)) ≡ fold newer o (map (candidate t h) cs)
  fold_less q out o [] = refl
  fold_less q out o (c ∷ cs) = by (q c) refl (fold_less q out (newer o (candidate t h c)) cs) (fold_less q out o cs)
    where
      by : (b : Bool) → q c ≡ b → fold newer (newer o (candidate t h c)) (map (candidate t h) (filter q cs)) ≡ fold newer (newer o (candidate t h c)) (map (candidate t h) cs) → fold newer o (map (candidate t h) (filter q cs)) ≡ fold newer o (map (candidate t h) cs) →
          fold newer o (map (candidate t h) (cond b (c ∷ filter q cs) (filter q cs))) ≡ fold newer (newer o (candidate t h c)) (map (candidate t h) cs)
      by true is kept dropped = kept
      by false is kept dropped = dropped ∙ sym (ap (λ x. fold newer x (map (candidate t h) cs)) (ap (newer o) (out c is) ∙ whole o))

  -- a range without the handle is cleared
  newest_cleared : (range : HandleRange) → holds range h ≡ false → (cs : List Commit) → newest t h (filter (λ (c : Commit). not (holds range c.handle)) cs) ≡ newest t h cs
  newest_cleared range out cs = fold_less (λ (c : Commit). not (holds range c.handle)) others None cs
    where
      same : (a b : ℤ) → int_eq a b ≡ true → a ≡ b
      same a b e = grind (arith, ints)

      others : (c : Commit) → not (holds range c.handle) ≡ false → candidate t h c ≡ None
      others c e = by (int_eq c.handle h) refl
        where
          by : (b : Bool) → int_eq c.handle h ≡ b → cond (b && t c) (Some c) None ≡ None
          by false is = refl
          by true is = absurd (true≢false (sym (ap not (ap (holds range) (same c.handle h is) ∙ out)) ∙ e))

  -- ---- one entry

  module _ (table : ℤ) (p : ℕ) (s : Store) where
    -- no commit that the entry adds passes
    abbrev NoneNew : Store → Type 0
    NoneNew after = (c : Commit) → Contains after.commits c → c.position ≡ p → candidate t h c ≡ None

    ops_show : (range : HandleRange) (before : Store) (ops : List Op) → NoneNew (after_ops table range p before ops) → newest t h (after_ops table range p before ops).commits ≡ newest t h before.commits
    ops_show range before ops none =
        let adds = ops_add table range p before ops in
        ap (newest t h) adds.is ∙ newest_more before.commits adds.more (λ c there. none c (subst (λ cs. Contains cs c) (sym adds.is) (Contains-append_right before.commits adds.more c there)) (theirs adds.more adds.theirs c there))
      where
        theirs : (more : List Commit) → All (λ (c : Commit). c.position ≡ p) more → (c : Commit) → Contains more c → c.position ≡ p
        theirs more all c there = ap (λ (c : Commit). c.position) (sym there.2) ∙ all there.0 c there.1

    install_shows : (range : HandleRange) (ops : List Op) → holds range h ≡ false → NoneNew (after_ops table range p (cleared range s) ops) → newest t h (after_ops table range p (cleared range s) ops).commits ≡ newest t h s.commits
    install_shows range ops out none = ops_show range (cleared range s) ops none ∙ newest_cleared range out s.commits

    families_show : (there : Option HandleRange) (b : Body) → holds_some (clearing_of there b) h ≡ false → NoneNew (families_after table p there b s) → newest t h (families_after table p there b s).commits ≡ newest t h s.commits
    families_show (Some range) (body.Write ops) out none = ops_show range s ops none
    families_show (Some range) body.Remove out none = newest_cleared range out s.commits
    families_show (Some range) (body.Install conf_ver version low high ops) out none = install_shows (record { low = low; high = high }) ops out none
    families_show None (body.Install conf_ver version low high ops) out none = install_shows (record { low = low; high = high }) ops out none
    families_show (Some range) (body.Open conf_ver version low high) out none = refl
    families_show (Some range) (body.Split middle child) out none = refl
    families_show (Some range) (body.Prepare target) out none = refl
    families_show (Some range) (body.Commit source) out none = refl
    families_show (Some range) body.Empty out none = refl
    families_show None (body.Open conf_ver version low high) out none = refl
    families_show None (body.Write ops) out none = refl
    families_show None (body.Split middle child) out none = refl
    families_show None (body.Prepare target) out none = refl
    families_show None (body.Commit source) out none = refl
    families_show None body.Remove out none = refl
    families_show None body.Empty out none = refl

    pub entry_shows : (e : Entry) → clears s.regions h e.region e.body ≡ false → NoneNew (after_entry table p s e) → newest t h (after_entry table p s e).commits ≡ newest t h s.commits
    entry_shows e out none = families_show (range_of (region s.regions e.region)) e.body out none

  -- ---- several entries

  module _ (log : Log) where
    pub step_shows : (p : ℕ) → clears_at log h p ≡ false → NoneNew log.table p (at log p) (at log (suc p)) → newest t h (at log (suc p)).commits ≡ newest t h (at log p).commits
    step_shows p out none = by (slice_get log.entries p) refl out
      where
        by : (o : Option Entry) → slice_get log.entries p ≡ o → elim o [ None ↦ false | Some e ↦ clears (at log p).regions h e.region e.body ] ≡ false → newest t h (at log (suc p)).commits ≡ newest t h (at log p).commits
        by None is e = ap (λ (s : Store). newest t h s.commits) (at_past log p is)
        by (Some e) is out = ap (λ (s : Store). newest t h s.commits) (at_next log p e is) ∙ entry_shows log.table p (at log p) e out (subst (λ s. NoneNew log.table p (at log p) s) (at_next log p e is) none)

    pub still_shows : (p q : ℕ) → p ≤ q → ((x : ℕ) → p ≤ x → x < q → (clears_at log h x ≡ false) × NoneNew log.table x (at log x) (at log (suc x))) → newest t h (at log q).commits ≡ newest t h (at log p).commits
    still_shows p zero le each = let same : p ≡ 0 = omega (arith, le) in ap (λ z. newest t h (at log z).commits) (sym same)
    still_shows p (suc q) le each = elim (le_or p q le) [
      | inl low ↦ (let here = each q low (omega arith) in step_shows q here.0 here.1 ∙ still_shows p q low (λ x a b. each x a (omega (arith, b))))
      | inr same ↦ ap (λ z. newest t h (at log z).commits) (sym same)
    ]
      where
        le_or : (p q : ℕ) → p ≤ suc q → (p ≤ q) ⊎ (p ≡ suc q)
        le_or p q h = grind arith

-- ---- locks

-- where no lock is in the way, none on a handle of the range is
no_lock : (locks : List (ℤ × Lock)) (range : HandleRange) (ts : ℕ) → first_lock locks range ts ≡ None → (h : ℤ) → holds range h ≡ true → (l : Lock) → lock locks h ≡ Some l → may_commit l.kind ≡ true → l.start ≤ ts → ⊥
no_lock [] range ts free h inside l is kind start = cc is
no_lock (e ∷ es) range ts free h inside l is kind start = by (is_at (int_cmp h) e.0) refl is (blocks range ts e) refl free (λ is free. no_lock es range ts free h inside l is kind start)
  where
    same : (h k : ℤ) → is_at (int_cmp h) k ≡ true → k ≡ h
    same h k e = grind (arith, ints)

    leb : (a b : ℕ) → a ≤ b → nat_le a b ≡ true
    leb a b le = grind arith

    both : (a b : Bool) → a ≡ true → b ≡ true → (a && b) ≡ true
    both true b e f = f
    both false b e f = absurd (true≢false (sym e))

    some_is : {a b : Lock} → Some a ≡ Some b → a ≡ b
    some_is e = cc e

    by : (b : Bool) → is_at (int_cmp h) e.0 ≡ b → cond b (Some e.1) (lookup (is_at (int_cmp h)) es) ≡ Some l → (c : Bool) → blocks range ts e ≡ c → cond c (Some e) (find (blocks range ts) es) ≡ None → (lock es h ≡ Some l → first_lock es range ts ≡ None → ⊥) → ⊥
    by true at_h found true blocked none rest = cc none
    by true at_h found false blocked none rest =
        true≢false (sym (both (holds range e.0 && may_commit e.1.kind) (nat_le e.1.start ts) (both (holds range e.0) (may_commit e.1.kind) (ap (holds range) (same h e.0 at_h) ∙ inside) (ap (λ (l : Lock). may_commit l.kind) (some_is found) ∙ kind)) (ap (λ (l : Lock). nat_le l.start ts) (some_is found) ∙ leb l.start ts start)) ∙ blocked)
    by false at_h found true blocked none rest = cc none
    by false at_h found false blocked none rest = rest found none

-- ---- the law

module _ (log : Log) (lawful : IsLawful log) (r k ts : ℕ) (base : HandleRange) (read_index : IsReadIndex log r k ts base) where
  -- an index that isn't below has a position that isn't earlier
  placed : (i : ℕ) (range : HandleRange) → IsAnswered log r i ts range → (p : ℕ) × (place log r i ≡ Some p) × (range_of (left_at log r p) ≡ Some range)
  placed i range answered = by (place log r i) refl
    where
      by : (o : Option ℕ) → place log r i ≡ o → (p : ℕ) × (place log r i ≡ Some p) × (range_of (left_at log r p) ≡ Some range)
      by None is = cc (sym (ap (λ o. range_of (elim o as (λ _. Region) [ None ↦ Unborn | Some p ↦ left_at log r p ])) is) ∙ answered.there)
      by (Some p) is = (p, is, sym (ap (λ o. range_of (elim o as (λ _. Region) [ None ↦ Unborn | Some p ↦ left_at log r p ])) is) ∙ answered.there)

  order : (a b : ℕ) → (a < b) ⊎ (b ≤ a)
  order a b = grind arith

  not_earlier : (i p : ℕ) → k ≤ i → place log r i ≡ Some p → read_index.position ≤ p
  not_earlier i p le is = elim (order p read_index.position) [ inl less ↦ absurd (early less) | inr le ↦ le ]
    where
      at_p : IsLeast (λ q. has_index i (left_at log r q)) (length log.entries) p
      at_p = found_is (λ q. has_index i (left_at log r q)) (length log.entries) p is

      at_k : IsLeast (λ q. has_index k (left_at log r q)) (length log.entries) read_index.position
      at_k = found_is (λ q. has_index k (left_at log r q)) (length log.entries) read_index.position read_index.is

      there_index : (s : Region) (range : HandleRange) → range_of s ≡ Some range → has_index k s ≡ true → rank s ≡ suc (k + k)
      there_index s range there has = by (index_of s) refl has
        where
          by : (o : Option ℕ) → index_of s ≡ o → elim o [ None ↦ false | Some index ↦ index == k ] ≡ true → rank s ≡ suc (k + k)
          by None is has = absurd (true≢false (sym has))
          by (Some j) is has = rank_there s k range there (is ∙ ap (λ x. Some x) (same_number j k has))

      early : p < read_index.position → ⊥
      early less =
          let high = rank_of_index (left_at log r p) i at_p.passes in
          let grows = rank_grows log lawful r (suc p) (suc read_index.position) (omega (arith, less)) in
          let end = there_index (left_at log r read_index.position) base read_index.there at_k.passes in
          let same : i ≡ k = omega (arith, high, grows, end, le) in
          true≢false (sym (ap (λ z. has_index z (left_at log r p)) (sym same) ∙ at_p.passes) ∙ at_k.first p less)

  -- between two places of which a read is answered at the first, no commit comes that a read sees
  none_comes : (i p : ℕ) (range : HandleRange) → k ≤ i → IsAnswered log r i ts range → place log r i ≡ Some p → (h : ℤ) → holds base h ≡ true → holds range h ≡ true → (x : ℕ) → p < x → (c : Commit) → Contains (at log (suc x)).commits c → c.position ≡ x → candidate (λ c. nat_le c.ts ts) h c ≡ None
  none_comes i p range le answered is h in_base in_range x less c there of_x = by (int_eq c.handle h) (nat_le c.ts ts) refl refl
    where
      same : (a b : ℤ) → int_eq a b ≡ true → a ≡ b
      same a b e = grind (arith, ints)

      under : (a b : ℕ) → nat_le a b ≡ true → a ≤ b
      under a b e = grind arith

      low : read_index.position ≤ p
      low = not_earlier i p le is

      by : (a b : Bool) → int_eq c.handle h ≡ a → nat_le c.ts ts ≡ b → cond (a && b) (Some c) None ≡ None
      by false b e f = refl
      by true false e f = refl
      by true true e f =
          let locked = read_index.locked x c (omega (arith, low, less)) there of_x (ap (holds base) (same c.handle h e) ∙ in_base) (under c.ts ts f) (suc p) (omega (arith, low)) less in
          let free : first_lock (at log (suc p)).locks range ts ≡ None = sym (ap (λ o. first_lock (elim o as (λ _. List (ℤ × Lock)) [ None ↦ [] | Some p ↦ (at log (suc p)).locks ]) range ts) is) ∙ answered.free in
          absurd (no_lock (at log (suc p)).locks range ts free h in_range locked.lock (ap (lock (at log (suc p)).locks) (sym (same c.handle h e)) ∙ locked.stands) locked.kind locked.start)

  -- a read at the earlier place shows what one at the later does
  from_earlier : (i j p q : ℕ) (range : HandleRange) → k ≤ i → IsAnswered log r i ts range → place log r i ≡ Some p → place log r j ≡ Some q → p ≤ q → (h : ℤ) → holds base h ≡ true → holds range h ≡ true → ((x : ℕ) → p < x → x ≤ q → clears_at log h x ≡ false) → shown (commits_at log r i) ts h ≡ shown (commits_at log r j) ts h
  from_earlier i j p q range le answered at_p at_q order_is h in_base in_range none =
      ap (λ cs. shown cs ts h) (at_place i p at_p) ∙ ap (option_and_then (λ (c : Commit). c.value)) (sym same_newest) ∙ sym (ap (λ cs. shown cs ts h) (at_place j q at_q))
    where
      at_place : (i p : ℕ) → place log r i ≡ Some p → commits_at log r i ≡ (at log (suc p)).commits
      at_place i p is = ap (λ o. elim o [ None ↦ [] | Some p ↦ (at log (suc p)).commits ]) is

      same_newest : newest (λ c. nat_le c.ts ts) h (at log (suc q)).commits ≡ newest (λ c. nat_le c.ts ts) h (at log (suc p)).commits
      same_newest = still_shows (λ c. nat_le c.ts ts) h log (suc p) (suc q) (omega (arith, order_is)) (λ x above below. (none x above (omega (arith, below)), λ c there of_x. none_comes i p range le answered at_p h in_base in_range x above c there of_x))

  -- two answered reads show the same
  pub read_index_law : (i j : ℕ) (a b : HandleRange) → k ≤ i → k ≤ j → IsAnswered log r i ts a → IsAnswered log r j ts b → (h : ℤ) → holds base h ≡ true → holds a h ≡ true → holds b h ≡ true → NoneClears log r i j h → shown (commits_at log r i) ts h ≡ shown (commits_at log r j) ts h
  read_index_law i j a b from_i from_j answered_i answered_j h in_base in_a in_b none =
      let p = placed i a answered_i in
      let q = placed j b answered_j in
      elim (order q.0 p.0) [
        | inr le ↦ from_earlier i j p.0 q.0 a from_i answered_i p.1 q.1 le h in_base in_a (λ x above below. none p.0 q.0 x p.1 q.1 (omega (arith, above, le)) (omega (arith, below, le)))
        | inl less ↦ sym (from_earlier j i q.0 p.0 b from_j answered_j q.1 p.1 (omega (arith, less)) h in_base in_b (λ x above below. none p.0 q.0 x p.1 q.1 (omega (arith, above, less)) (omega (arith, below, less))))
      ]
