-- What an entry does to the commits on a handle: it leaves those that are there, and adds newer ones, unless it clears the handle.
use Rattle.std.proofs.Common.{◌≡◌, inl, inr, ◌∙◌, refl, sym, ap, subst, ℕ, zero, suc, ◌<◌, ◌≤◌, ℤ, Bool, true, false, true≢false, cond, not, ◌&&◌, List, [], ◌∷◌, ◌++◌, Option, Some, None, option_map, find, filter, map, slice_get, slice_index_or, arith}
use Rattle.std.proofs.lemmas.List.Elements.{All-append, All-filter, All-nil, filter-append}
use Rattle.std.proofs.lemmas.List.Folds.{find-append}
use Rattle.std.specs.List.{All, AllPairs}
use Rattle.std.specs.Option.{option_or}
use Rattle.std.specs.Ordering.{int_eq}
use Rattle.std.specs.Prelude.{◌==◌}
use Rattle.column_block.specs.declared.cell.Version.{Version}
use Rattle.column_block.specs.declared.column.Column.{Column}
use Rattle.flash_types.specs.Ranges.{holds}
use Rattle.flash_types.specs.declared.range.HandleRange.{HandleRange}
use Rattle.log_codec.specs.declared.entry.Body.{Body}
use Rattle.log_codec.specs.declared.entry.Body.TheVariants as body
use Rattle.log_codec.specs.declared.entry.Entry.{Entry}
use Rattle.committed_log.specs.Lawful.{IsLawful}
use Rattle.committed_log.specs.Laws.{CommitsRise, touches}
use Rattle.committed_log.specs.Log.{Log, at}
use Rattle.committed_log.specs.ReadIndex.{clears, clears_at}
use Rattle.committed_log.specs.Regions.{region, range_of}
use Rattle.committed_log.specs.Store.{Store, families_after, cleared}
use Rattle.committed_log.specs.declared.store.Commit.{Commit}
use Rattle.committed_log.proofs.Commits.{HasMore, ops_add, no_more, commits_rise_at}
use Rattle.committed_log.proofs.Entries.{at_next, at_past}
use Rattle.committed_log.proofs.Touching.{same_untouched, elsewhere, not_born}
use Rattle.good_replica.specs.Effect.{added, clearing, clearing_of, holds_some}
use Rattle.good_replica.specs.Front.{IsUncleared}
use Rattle.good_replica.specs.Trail.{after_versions, versions_on}
use Rattle.good_replica.specs.Versions.{version_of, written, is_on}
use Rattle.good_replica.proofs.Facts.{int_same, int_itself, le_or}
use Rattle.good_replica.proofs.History.{IsHistory}
use Rattle.good_replica.proofs.Steps.{versions_over}
use Rattle.committed_log.proofs.Ranks.{same_number}
use Rattle.committed_log.proofs.Closed.{same_is}
use Rattle.std.proofs.lemmas.List.Elements.{All-head, All-tail}

-- the commit on a handle at a timestamp
abbrev pub found : ℤ → List Commit → ℕ → Option Commit
found h cs ts = find (is_on h ts) cs

-- ---- elements of lists

all_second : {X : Type 0} (P : X → Type 0) (xs ys : List X) → All P (xs ++ ys) → All P ys
all_second P [] ys all = all
all_second P (x ∷ xs) ys all = all_second P xs ys (All-tail P x (xs ++ ys) all)

pub pairs_first : {X : Type 0} (R : X → X → Type 0) (x : X) (xs : List X) → AllPairs R (x ∷ xs) → All (R x) xs
pairs_first R x xs all = λ j d less. all 0 (suc j) d (omega arith) (omega (arith, less))

pub pairs_rest : {X : Type 0} (R : X → X → Type 0) (x : X) (xs : List X) → AllPairs R (x ∷ xs) → AllPairs R xs
pairs_rest R x xs all = λ i j d less low. all (suc i) (suc j) d (omega (arith, less)) (omega (arith, low))

pairs_second : {X : Type 0} (R : X → X → Type 0) (xs ys : List X) → AllPairs R (xs ++ ys) → AllPairs R ys
pairs_second R [] ys all = all
pairs_second R (x ∷ xs) ys all = pairs_second R xs ys (pairs_rest R x (xs ++ ys) all)

-- ---- the commits on one handle

module _ (h : ℤ) where
  -- only those on the handle count
  found_within : (ts : ℕ) (cs : List Commit) → found h (filter (λ (c : Commit). int_eq c.handle h) cs) ts ≡ found h cs ts
  found_within ts [] = refl
  found_within ts (c ∷ cs) = by (int_eq c.handle h) refl (found_within ts cs)
    where
      by : (b : Bool) → int_eq c.handle h ≡ b → found h (filter (λ (c : Commit). int_eq c.handle h) cs) ts ≡ found h cs ts →
          find (is_on h ts) (cond b (c ∷ filter (λ (c : Commit). int_eq c.handle h) cs) (filter (λ (c : Commit). int_eq c.handle h) cs)) ≡ cond (b && (c.ts == ts)) (Some c) (found h cs ts)
      by true is rest = (λ k. cond (is k && (c.ts == ts)) (Some c) (rest k))
      by false is rest = rest

  -- a range without the handle is cleared
  found_filter : (range : HandleRange) (cs : List Commit) → holds range h ≡ false → (ts : ℕ) → found h (filter (λ (c : Commit). not (holds range c.handle)) cs) ts ≡ found h cs ts
  found_filter range [] out ts = refl
  found_filter range (c ∷ cs) out ts = by (holds range c.handle) (int_eq c.handle h) refl refl (found_filter range cs out ts)
    where
      by : (a b : Bool) → holds range c.handle ≡ a → int_eq c.handle h ≡ b → found h (filter (λ (c : Commit). not (holds range c.handle)) cs) ts ≡ found h cs ts → find (is_on h ts) (cond (not a) (c ∷ filter (λ (c : Commit). not (holds range c.handle)) cs) (filter (λ (c : Commit). not (holds range c.handle)) cs)) ≡ cond (b && (c.ts == ts)) (Some c) (find (is_on h ts) cs)
      by true true i j rest = absurd (true≢false (sym i ∙ ap (holds range) (int_same c.handle h j) ∙ out))
      by true false i j rest = rest
      by false b i j rest = (λ k. cond (j k && (c.ts == ts)) (Some c) (rest k))

  -- a range with the handle is cleared
  found_cleared : (range : HandleRange) (cs : List Commit) → holds range h ≡ true → (ts : ℕ) → found h (filter (λ (c : Commit). not (holds range c.handle)) cs) ts ≡ None
  found_cleared range [] out ts = refl
  found_cleared range (c ∷ cs) out ts = by (holds range c.handle) (int_eq c.handle h) refl refl (found_cleared range cs out ts)
    where
      by : (a b : Bool) → holds range c.handle ≡ a → int_eq c.handle h ≡ b → found h (filter (λ (c : Commit). not (holds range c.handle)) cs) ts ≡ None → find (is_on h ts) (cond (not a) (c ∷ filter (λ (c : Commit). not (holds range c.handle)) cs) (filter (λ (c : Commit). not (holds range c.handle)) cs)) ≡ None
      by true b i j rest = rest
      by false true i j rest = absurd (true≢false (sym out ∙ sym (ap (holds range) (int_same c.handle h j)) ∙ i))
      by false false i j rest = (λ k. cond (j k && (c.ts == ts)) (Some c) (rest k))

  -- ---- commits that rise

  abbrev IsLater : ℕ → Commit → Type 0
  IsLater t k = h ≡ k.handle → t < k.ts

  after_found : (t : ℕ) (cs : List Commit) → All (IsLater t) cs → (d : ℕ) (v : Commit) → found h cs d ≡ Some v → t < d
  after_found t [] all d v e = cc e
  after_found t (c ∷ cs) all d v e = by (int_eq c.handle h) (c.ts == d) refl refl e (after_found t cs (All-tail (IsLater t) c cs all) d v)
    where
      by : (a b : Bool) → int_eq c.handle h ≡ a → (c.ts == d) ≡ b → cond (a && b) (Some c) (found h cs d) ≡ Some v → (found h cs d ≡ Some v → t < d) → t < d
      by true true i j e rest = (let less = All-head (IsLater t) c cs all (sym (int_same c.handle h i)) in let same = same_number c.ts d j in omega (arith, less, same))
      by true false i j e rest = rest e
      by false b i j e rest = rest e

  none_from : (t : ℕ) (cs : List Commit) → All (IsLater t) cs → found h cs t ≡ None
  none_from t cs all = by (found h cs t) refl
    where
      by : (o : Option Commit) → found h cs t ≡ o → found h cs t ≡ None
      by None is = is
      by (Some v) is = (let less = after_found t cs all t v is in absurd (omega (arith, less)))

  abbrev IsBefore : Commit → Commit → Type 0
  IsBefore c k = c.handle ≡ k.handle → c.ts < k.ts

  all_later : (c : Commit) (t : ℕ) → c.handle ≡ h → c.ts ≡ t → (cs : List Commit) → All (IsBefore c) cs → All (IsLater t) cs
  all_later c t is_h is_t cs all = λ n k low e. subst (λ x. x < (slice_index_or cs n k).ts) is_t (all n k low (is_h ∙ e))

  -- of those that come after others, each is newer
  fresh : (left more : List Commit) → CommitsRise (left ++ more) → (c d : ℕ) (u v : Commit) → found h left c ≡ Some u → found h more d ≡ Some v → c < d
  fresh [] more rise c d u v a b = cc a
  fresh (x ∷ left) more rise c d u v a b = by (int_eq x.handle h) (x.ts == c) refl refl a (λ e. fresh left more (pairs_rest IsBefore x (left ++ more) rise) c d u v e b)
    where
      by : (p q : Bool) → int_eq x.handle h ≡ p → (x.ts == c) ≡ q → cond (p && q) (Some x) (found h left c) ≡ Some u → (found h left c ≡ Some u → c < d) → c < d
      by true true i j e rest =
          after_found c more (all_later x c (int_same x.handle h i) (same_number x.ts c j) more (all_second (IsBefore x) left more (pairs_first IsBefore x (left ++ more) rise))) d v b
      by true false i j e rest = rest e
      by false q i j e rest = rest e

  -- the versions of commits that rise
  versions_found : (schema : List Column) (ts : ℕ) (cs : List Commit) → CommitsRise cs → after_versions ts None (versions_on h (map (version_of schema) cs)) ≡ option_map (version_of schema) (found h cs ts)
  versions_found schema ts [] rise = refl
  versions_found schema ts (c ∷ cs) rise = by (int_eq c.handle h) (c.ts == ts) refl refl (versions_found schema ts cs (pairs_rest IsBefore c cs rise))
    where
      by : (a b : Bool) → int_eq c.handle h ≡ a → (c.ts == ts) ≡ b → after_versions ts None (versions_on h (map (version_of schema) cs)) ≡ option_map (version_of schema) (found h cs ts) →
          after_versions ts None (cond a (version_of schema c ∷ versions_on h (map (version_of schema) cs)) (versions_on h (map (version_of schema) cs))) ≡ option_map (version_of schema) (cond (a && b) (Some c) (found h cs ts))
      by false b i j rest = rest
      by true false i j rest = ap (λ x. after_versions ts (cond x (Some (version_of schema c)) None) (versions_on h (map (version_of schema) cs))) j ∙ rest
      by true true i j rest =
          ap (λ x. after_versions ts (cond x (Some (version_of schema c)) None) (versions_on h (map (version_of schema) cs))) j
          ∙ versions_over ts (Some (version_of schema c)) (versions_on h (map (version_of schema) cs))
          ∙ ap (λ o. option_or o (Some (version_of schema c))) (rest ∙ ap (option_map (version_of schema)) (none_from ts cs (all_later c ts (int_same c.handle h i) (same_number c.ts ts j) cs (pairs_first IsBefore c cs rise))))

-- ---- an entry leaves some commits and adds others

-- the commits that it leaves
abbrev pub left_by : Option HandleRange → List Commit → List Commit
left_by None cs = cs
left_by (Some range) cs = filter (λ (c : Commit). not (holds range c.handle)) cs

module _ (table : ℤ) (p : ℕ) (s : Store) where
  families_more : (there : Option HandleRange) (b : Body) → HasMore p (left_by (clearing_of there b) s.commits) (families_after table p there b s).commits
  families_more (Some range) (body.Write ops) = ops_add table range p s ops
  families_more (Some range) body.Remove = no_more p (cleared range s).commits
  families_more (Some range) (body.Install conf_ver version low high ops) = ops_add table (record { low = low; high = high }) p (cleared (record { low = low; high = high }) s) ops
  families_more None (body.Install conf_ver version low high ops) = ops_add table (record { low = low; high = high }) p (cleared (record { low = low; high = high }) s) ops
  families_more None body.Remove = no_more p s.commits
  families_more None (body.Write ops) = no_more p s.commits
  families_more (Some range) (body.Open conf_ver version low high) = no_more p s.commits
  families_more (Some range) (body.Split middle child) = no_more p s.commits
  families_more (Some range) (body.Prepare target) = no_more p s.commits
  families_more (Some range) (body.Commit source) = no_more p s.commits
  families_more (Some range) body.Empty = no_more p s.commits
  families_more None (body.Open conf_ver version low high) = no_more p s.commits
  families_more None (body.Split middle child) = no_more p s.commits
  families_more None (body.Prepare target) = no_more p s.commits
  families_more None (body.Commit source) = no_more p s.commits
  families_more None body.Empty = no_more p s.commits

module _ (log : Log) (p : ℕ) where
  clearing_is : (o : Option Entry) → slice_get log.entries p ≡ o → clearing log p ≡ elim o [ None ↦ None | Some e ↦ clearing_of (range_of (region (at log p).regions e.region)) e.body ]
  clearing_is o is = ap (λ o. elim o [ None ↦ None | Some e ↦ clearing_of (range_of (region (at log p).regions e.region)) e.body ]) is

  pub next_more : HasMore p (left_by (clearing log p) (at log p).commits) (at log (suc p)).commits
  next_more = by (slice_get log.entries p) refl
    where
      by : (o : Option Entry) → slice_get log.entries p ≡ o → HasMore p (left_by (clearing log p) (at log p).commits) (at log (suc p)).commits
      by None is = subst (λ o. HasMore p (left_by o (at log p).commits) (at log (suc p)).commits) (sym (clearing_is None is)) (subst (λ (s : Store). HasMore p (at log p).commits s.commits) (sym (at_past log p is)) (no_more p (at log p).commits))
      by (Some e) is = subst (λ o. HasMore p (left_by o (at log p).commits) (at log (suc p)).commits) (sym (clearing_is (Some e) is))
          (subst (λ (s : Store). HasMore p (left_by (clearing_of (range_of (region (at log p).regions e.region)) e.body) (at log p).commits) s.commits) (sym (at_next log p e is))
          (families_more log.table p (at log p) (range_of (region (at log p).regions e.region)) e.body))

-- each commit carries the position of an earlier entry
abbrev AreFrom : ℕ → List Commit → Type 0
AreFrom n cs = All (λ (c : Commit). c.position < n) cs

from_left : (n : ℕ) (o : Option HandleRange) (cs : List Commit) → AreFrom n cs → AreFrom n (left_by o cs)
from_left n None cs all = all
from_left n (Some range) cs all = All-filter (λ (c : Commit). not (holds range c.handle)) (λ (c : Commit). c.position < n) cs all

pub from_at : (log : Log) (n : ℕ) → AreFrom n (at log n).commits
from_at log zero = All-nil (λ (c : Commit). c.position < 0)
from_at log (suc n) =
    let next = next_more log n in
    subst (AreFrom (suc n)) (sym next.is) (All-append (λ (c : Commit). c.position < suc n) (left_by (clearing log n) (at log n).commits) next.more
    (up (left_by (clearing log n) (at log n).commits) (from_left n (clearing log n) (at log n).commits (from_at log n))) (λ i d low. here (slice_index_or next.more i d).position (next.theirs i d low)))
  where
    up : (cs : List Commit) → AreFrom n cs → AreFrom (suc n) cs
    up cs all = λ i d low. (let less = all i d low in omega (arith, less))

    here : (k : ℕ) → k ≡ n → k < suc n
    here k e = omega (arith, e)

-- the commits that an entry adds are those that carry its position
keep_theirs : (p : ℕ) (cs : List Commit) → All (λ (c : Commit). c.position ≡ p) cs → filter (λ (c : Commit). c.position == p) cs ≡ cs
keep_theirs p [] all = refl
keep_theirs p (c ∷ cs) all =
    let rest = keep_theirs p cs (All-tail (λ (c : Commit). c.position ≡ p) c cs all) in
    (λ i. cond (is c.position (All-head (λ (c : Commit). c.position ≡ p) c cs all) i) (c ∷ rest i) (rest i))
  where
    is : (k : ℕ) → k ≡ p → (k == p) ≡ true
    is k e = grind (arith, e)

drop_earlier : (p : ℕ) (cs : List Commit) → AreFrom p cs → filter (λ (c : Commit). c.position == p) cs ≡ []
drop_earlier p [] all = refl
drop_earlier p (c ∷ cs) all =
    let rest = drop_earlier p cs (All-tail (λ (c : Commit). c.position < p) c cs all) in
    (λ i. cond (is c.position (All-head (λ (c : Commit). c.position < p) c cs all) i) (c ∷ rest i) (rest i))
  where
    is : (k : ℕ) → k < p → (k == p) ≡ false
    is k e = grind (arith, e)

module _ (log : Log) (p : ℕ) where
  added_is : added log p ≡ map (version_of log.schema) (next_more log p).more
  added_is =
      let next = next_more log p in
      let left = left_by (clearing log p) (at log p).commits in
      ap (map (version_of log.schema)) (ap (filter (λ (c : Commit). c.position == p)) next.is ∙ filter-append (λ (c : Commit). c.position == p) left next.more
      ∙ (λ i. drop_earlier p left (from_left p (clearing log p) (at log p).commits (from_at log p)) i ++ keep_theirs p next.more next.theirs i))

-- ---- what is written of a handle, by an entry

module _ (log : Log) (lawful : IsLawful log) (h : ℤ) (p : ℕ) where
  rises : CommitsRise (left_by (clearing log p) (at log p).commits ++ (next_more log p).more)
  rises = subst CommitsRise (next_more log p).is (commits_rise_at log lawful (suc p))

  found_next : (ts : ℕ) → found h (at log (suc p)).commits ts ≡ option_or (found h (left_by (clearing log p) (at log p).commits) ts) (found h (next_more log p).more ts)
  found_next ts = ap (λ cs. found h cs ts) (next_more log p).is ∙ find-append (is_on h ts) (left_by (clearing log p) (at log p).commits) (next_more log p).more

  news_found : (ts : ℕ) → after_versions ts None (versions_on h (added log p)) ≡ option_map (version_of log.schema) (found h (next_more log p).more ts)
  news_found ts = ap (λ vs. after_versions ts None (versions_on h vs)) (added_is log p) ∙ versions_found h log.schema ts (next_more log p).more (pairs_second (IsBefore h) (left_by (clearing log p) (at log p).commits) (next_more log p).more rises)

  left_found : (o : Option HandleRange) → holds_some o h ≡ false → (cs : List Commit) (ts : ℕ) → found h (left_by o cs) ts ≡ found h cs ts
  left_found None out cs ts = refl
  left_found (Some range) out cs ts = found_filter h range cs out ts

  none_left : (o : Option HandleRange) → holds_some o h ≡ true → (cs : List Commit) (ts : ℕ) → found h (left_by o cs) ts ≡ None
  none_left None held cs ts = absurd (true≢false (sym held))
  none_left (Some range) held cs ts = found_cleared h range cs held ts

  -- an entry that clears the handle leaves it what the entry adds
  pub written_anew : holds_some (clearing log p) h ≡ true → (ts : ℕ) → written log h (suc p) ts ≡ after_versions ts None (versions_on h (added log p))
  written_anew held ts = ap (option_map (version_of log.schema)) (found_next ts ∙ ap (λ o. option_or o (found h (next_more log p).more ts)) (none_left (clearing log p) held (at log p).commits ts)) ∙ sym (news_found ts)

  module _ (out : holds_some (clearing log p) h ≡ false) where
    found_more : (ts : ℕ) → found h (at log (suc p)).commits ts ≡ option_or (found h (at log p).commits ts) (found h (next_more log p).more ts)
    found_more ts = found_next ts ∙ ap (λ o. option_or o (found h (next_more log p).more ts)) (left_found (clearing log p) out (at log p).commits ts)

    found_fresh : (c d : ℕ) (u v : Commit) → found h (at log p).commits c ≡ Some u → found h (next_more log p).more d ≡ Some v → c < d
    found_fresh c d u v a b = fresh h (left_by (clearing log p) (at log p).commits) (next_more log p).more rises c d u v (left_found (clearing log p) out (at log p).commits c ∙ a) b

    -- what it adds is newer than what is there
    pub written_fresh : (c d : ℕ) (u v : Version) → written log h p c ≡ Some u → after_versions d None (versions_on h (added log p)) ≡ Some v → c < d
    written_fresh c d u v a b = by (found h (at log p).commits c) (found h (next_more log p).more d) refl refl (a) (sym (news_found d) ∙ b)
      where
        by : (x y : Option Commit) → found h (at log p).commits c ≡ x → found h (next_more log p).more d ≡ y → option_map (version_of log.schema) x ≡ Some u → option_map (version_of log.schema) y ≡ Some v → c < d
        by None y i j e f = cc e
        by (Some x) None i j e f = cc f
        by (Some x) (Some y) i j e f = found_fresh c d x y i j

    -- and comes on top of it
    pub written_more : (ts : ℕ) → written log h (suc p) ts ≡ option_or (after_versions ts None (versions_on h (added log p))) (written log h p ts)
    written_more ts = ap (option_map (version_of log.schema)) (found_more ts) ∙ turned (found h (at log p).commits ts) (found h (next_more log p).more ts) refl refl ∙ ap (λ o. option_or o (written log h p ts)) (sym (news_found ts))
      where
        turned : (x y : Option Commit) → found h (at log p).commits ts ≡ x → found h (next_more log p).more ts ≡ y → option_map (version_of log.schema) (option_or x y) ≡ option_or (option_map (version_of log.schema) y) (option_map (version_of log.schema) x)
        turned None None i j = refl
        turned None (Some y) i j = refl
        turned (Some x) None i j = refl
        turned (Some x) (Some y) i j = (let less = found_fresh ts ts x y i j in absurd (omega (arith, less)))

    grows_next : (ts : ℕ) (v : Version) → written log h p ts ≡ Some v → written log h (suc p) ts ≡ Some v
    grows_next ts v e = ap (option_map (version_of log.schema)) (found_more ts) ∙ by (found h (at log p).commits ts) e
      where
        by : (x : Option Commit) → option_map (version_of log.schema) x ≡ Some v → option_map (version_of log.schema) (option_or x (found h (next_more log p).more ts)) ≡ Some v
        by None e = cc e
        by (Some x) e = e

    newer_next : (c d : ℕ) (u v : Version) → written log h p c ≡ Some u → written log h p d ≡ None → written log h (suc p) d ≡ Some v → c < d
    newer_next c d u v old none new = by (after_versions d None (versions_on h (added log p))) refl (sym (written_more d) ∙ new)
      where
        by : (o : Option Version) → after_versions d None (versions_on h (added log p)) ≡ o → option_or o (written log h p d) ≡ Some v → c < d
        by None is e = cc (sym none ∙ e)
        by (Some w) is e = written_fresh c d u w old is

-- ---- which entries clear

module _ (log : Log) (h : ℤ) (p : ℕ) where
  pub clears_held : clears_at log h p ≡ holds_some (clearing log p) h
  clears_held = by (slice_get log.entries p)
    where
      by : (o : Option Entry) → elim o [ None ↦ false | Some e ↦ clears (at log p).regions h e.region e.body ] ≡ holds_some (elim o [ None ↦ None | Some e ↦ clearing_of (range_of (region (at log p).regions e.region)) e.body ]) h
      by None = refl
      by (Some e) = refl

module _ (log : Log) (lawful : IsLawful log) (h : ℤ) where
  -- an entry that doesn't touch a handle doesn't clear it
  pub untouched_out : (p : ℕ) → touches log h p ≡ false → holds_some (clearing log p) h ≡ false
  untouched_out p out = by (slice_get log.entries p) refl
    where
      contra : int_eq h h ≡ false → ⊥
      contra e = true≢false (sym (int_itself h h refl) ∙ e)

      not_held : (range : HandleRange) → (holds range h ≡ true → int_eq h h ≡ false) → (b : Bool) → holds range h ≡ b → holds range h ≡ false
      not_held range f false is = is
      not_held range f true is = absurd (contra (f is))

      of_range : (e : Entry) → slice_get log.entries p ≡ Some e → (o : Option HandleRange) → range_of (region (at log p).regions e.region) ≡ o → holds_some o h ≡ false
      of_range e is None there = refl
      of_range e is (Some range) there = not_held range (λ held. elsewhere log h p lawful out e is range there h held) (holds range h) refl

      of_body : (e : Entry) → slice_get log.entries p ≡ Some e → (b : Body) → e.body ≡ b → holds_some (clearing_of (range_of (region (at log p).regions e.region)) b) h ≡ false
      of_body e is body.Remove is_b = of_range e is (range_of (region (at log p).regions e.region)) refl
      of_body e is (body.Install conf_ver version low high ops) is_b = not_held (record { low = low; high = high }) (λ held. not_born log h p lawful out e is conf_ver version low high ops is_b h held) (holds (record { low = low; high = high }) h) refl
      of_body e is (body.Open conf_ver version low high) is_b = refl
      of_body e is (body.Split middle child) is_b = refl
      of_body e is (body.Prepare target) is_b = refl
      of_body e is (body.Commit source) is_b = refl
      of_body e is (body.Write ops) is_b = refl
      of_body e is body.Empty is_b = refl

      by : (o : Option Entry) → slice_get log.entries p ≡ o → holds_some (clearing log p) h ≡ false
      by None is = ap (λ o. holds_some o h) (clearing_is log p None is)
      by (Some e) is = ap (λ o. holds_some o h) (clearing_is log p (Some e) is) ∙ of_body e is e.body refl

  pub untouched_unclear : (p : ℕ) → touches log h p ≡ false → clears_at log h p ≡ false
  untouched_unclear p out = clears_held log h p ∙ untouched_out p out

  -- and leaves what is written of it
  pub next_still : (p : ℕ) → touches log h p ≡ false → (ts : ℕ) → written log h (suc p) ts ≡ written log h p ts
  next_still p out ts =
      let same = same_untouched log h p lawful out in
      ap (option_map (version_of log.schema)) (sym (found_within h ts (at log (suc p)).commits) ∙ ap (find (is_on h ts)) (sym same.commits) ∙ found_within h ts (at log p).commits)

  pub history : IsHistory (written log h) (clears_at log h)
  history = record {
    grows = λ p un. grows_next log lawful h p (sym (clears_held log h p) ∙ un);
    newer = λ p un. newer_next log lawful h p (sym (clears_held log h p) ∙ un);
  }

  -- where no entry touches the handle nothing changes
  pub still_to : (p q : ℕ) → p ≤ q → ((x : ℕ) → p ≤ x → x < q → touches log h x ≡ false) → (ts : ℕ) → written log h q ts ≡ written log h p ts
  still_to p zero le un ts = (let same : p ≡ 0 = omega (arith, le) in ap (λ n. written log h n ts) (sym same))
  still_to p (suc q) le un ts = elim (le_or p q le) [
    | inl less ↦ next_still q (un q less (omega arith)) ts ∙ still_to p q less (λ x a b. un x a (omega (arith, b))) ts
    | inr same ↦ ap (λ n. written log h n ts) (sym same)
  ]

  pub uncleared_to : (p q : ℕ) → ((x : ℕ) → p ≤ x → x < q → touches log h x ≡ false) → IsUncleared (clears_at log h) p q
  uncleared_to p q un x a b = untouched_unclear x (un x a b)

  -- an entry that doesn't touch a handle adds nothing of it
  pub untouched_adds : (p : ℕ) → touches log h p ≡ false → versions_on h (added log p) ≡ []
  untouched_adds p out = by (versions_on h (added log p)) refl
    where
      shown_first : (v : Version) (vs : List Version) → (w : Version) × (after_versions v.ts None (v ∷ vs) ≡ Some w)
      shown_first v vs = of (after_versions v.ts None vs) (versions_over v.ts (cond (v.ts == v.ts) (Some v) None) vs ∙ ap (λ b. option_or (after_versions v.ts None vs) (cond b (Some v) None)) (same_is v.ts))
        where
          of : (o : Option Version) → after_versions v.ts None (v ∷ vs) ≡ option_or o (Some v) → (w : Version) × (after_versions v.ts None (v ∷ vs) ≡ Some w)
          of None e = (v, e)
          of (Some w) e = (w, e)

      by : (vs : List Version) → versions_on h (added log p) ≡ vs → versions_on h (added log p) ≡ []
      by [] is = is
      by (v ∷ vs) is =
          let w = shown_first v vs in
          let new : after_versions v.ts None (versions_on h (added log p)) ≡ Some w.0 = ap (after_versions v.ts None) is ∙ w.1 in
          let there : written log h p v.ts ≡ Some w.0 = sym (next_still p out v.ts) ∙ written_more log lawful h p (untouched_out p out) v.ts ∙ ap (λ o. option_or o (written log h p v.ts)) new in
          let less = written_fresh log lawful h p (untouched_out p out) v.ts v.ts w.0 w.0 there new in
          absurd (omega (arith, less))
