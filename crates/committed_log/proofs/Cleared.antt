-- What a store looks up after a range was cleared, and of a handle of which it has nothing.
use Rattle.std.proofs.Common.{◌≡◌, ◌∙◌, refl, sym, ap, ℕ, ℤ, Bool, true, false, true≢false, cond, not, ◌&&◌, List, [], ◌∷◌, Option, Some, None, filter, fold, map, option_map, arith}
use Rattle.std.proofs.lemmas.Int.{ints}
use Rattle.std.proofs.lemmas.Map.Entries.{lookup-filter-keys}
use Rattle.std.specs.BTreeMap.{is_at}
use Rattle.std.specs.Ordering.{int_eq}
use Rattle.flash_types.specs.Ranges.{holds}
use Rattle.flash_types.specs.declared.range.HandleRange.{HandleRange}
use Rattle.committed_log.specs.Families.{Holds, held}
use Rattle.committed_log.specs.Owned.{only, IsBare}
use Rattle.committed_log.specs.Store.{Store, Commit, value, value_cmp, newer, candidate, last_commit, cleared, is_delete}
use Rattle.committed_log.specs.declared.families.Families.{Families}
use Rattle.committed_log.specs.declared.op.LastCommit.{LastCommit}
use Rattle.committed_log.proofs.FamilySteps.{value_exact}
use Rattle.committed_log.proofs.Maps.{Rise-filter}
use Rattle.committed_log.proofs.Undo.{equal_is}

newer_none : (o : Option Commit) → newer o None ≡ o
newer_none None = refl
newer_none (Some c) = refl

int_eq_is : (a b : ℤ) → int_eq a b ≡ true → a ≡ b
int_eq_is a b h = grind (arith, ints)

neither : (b : Bool) → b ≡ not b → ⊥
neither true e = true≢false e
neither false e = true≢false (sym e)

module _ (test : Commit → Bool) (h : ℤ) (p : ℤ → Bool) where
  -- a commit of another handle is no candidate
  other_none : (b : Bool) → p h ≡ b → (c : Commit) → p c.handle ≡ not b → candidate test h c ≡ None
  other_none b here c there = elim (int_eq c.handle h) as (λ t. int_eq c.handle h ≡ t → cond (t && test c) (Some c) None ≡ None) [
    | true ↦ λ is. absurd (neither b (sym here ∙ sym (ap p (int_eq_is c.handle h is)) ∙ there))
    | false ↦ λ is. refl
  ] refl

  kept_from : p h ≡ true → (a : Option Commit) (cs : List Commit) → fold newer a (map (candidate test h) (filter (λ (c : Commit). p c.handle) cs)) ≡ fold newer a (map (candidate test h) cs)
  kept_from here a [] = refl
  kept_from here a (c ∷ cs) = elim (p c.handle) as (λ b. p c.handle ≡ b → fold newer a (map (candidate test h) (cond b (c ∷ filter (λ (c : Commit). p c.handle) cs) (filter (λ (c : Commit). p c.handle) cs))) ≡ fold newer (newer a (candidate test h c)) (map (candidate test h) cs)) [
    | true ↦ λ is. kept_from here (newer a (candidate test h c)) cs
    | false ↦ λ is. kept_from here a cs ∙ ap (λ x. fold newer x (map (candidate test h) cs)) (sym (ap (newer a) (other_none true here c is) ∙ newer_none a))
  ] refl

  none_from : p h ≡ false → (cs : List Commit) → fold newer None (map (candidate test h) (filter (λ (c : Commit). p c.handle) cs)) ≡ None
  none_from here [] = refl
  none_from here (c ∷ cs) = elim (p c.handle) as (λ b. p c.handle ≡ b → fold newer None (map (candidate test h) (cond b (c ∷ filter (λ (c : Commit). p c.handle) cs) (filter (λ (c : Commit). p c.handle) cs))) ≡ None) [
    | true ↦ λ is. ap (λ x. fold newer (newer None x) (map (candidate test h) (filter (λ (c : Commit). p c.handle) cs))) (other_none false here c is) ∙ none_from here cs
    | false ↦ λ is. none_from here cs
  ] refl

-- a handle's last commit among those of some handles
pub last_kept : (p : ℤ → Bool) (cs : List Commit) (h : ℤ) → p h ≡ true → last_commit (filter (λ (c : Commit). p c.handle) cs) h ≡ last_commit cs h
last_kept p cs h here = ap (option_map (λ (c : Commit). record { ts = c.ts; start = c.start; gone = is_delete c })) (kept_from (λ c. true) h p here None cs)

pub last_gone : (p : ℤ → Bool) (cs : List Commit) (h : ℤ) → p h ≡ false → last_commit (filter (λ (c : Commit). p c.handle) cs) h ≡ None
last_gone p cs h here = ap (option_map (λ (c : Commit). record { ts = c.ts; start = c.start; gone = is_delete c })) (none_from (λ c. true) h p here cs)

pub value_kept : (p : ℤ → Bool) (values : List ((ℤ × ℕ) × List ℕ)) (h : ℤ) (start : ℕ) (b : Bool) → p h ≡ b → value (filter (λ (e : (ℤ × ℕ) × List ℕ). p e.0.0) values) h start ≡ cond b (value values h start) None
value_kept p values h start b here = lookup-filter-keys (is_at (value_cmp (h, start))) (λ (k : ℤ × ℕ). p k.0) b (λ k is. sym (ap (λ (q : ℤ × ℕ). p q.0) (value_exact (h, start) k (equal_is (value_cmp (h, start) k) is))) ∙ here) values

module _ (range : HandleRange) (s : Store) (h : ℤ) where
  pub last_cleared : (b : Bool) → holds range h ≡ b → last_commit (cleared range s).commits h ≡ cond b None (last_commit s.commits h)
  last_cleared true is = last_gone (λ x. not (holds range x)) s.commits h (ap not is)
  last_cleared false is = last_kept (λ x. not (holds range x)) s.commits h (ap not is)

  pub value_cleared : (start : ℕ) (b : Bool) → holds range h ≡ b → value (cleared range s).values h start ≡ cond b None (value s.values h start)
  value_cleared start true is = value_kept (λ x. not (holds range x)) s.values h start false (ap not is)
  value_cleared start false is = value_kept (λ x. not (holds range x)) s.values h start true (ap not is)

only_self : (h : ℤ) → holds (only h) h ≡ true
only_self h = grind (arith, ints)

-- of a handle of which a store has nothing
pub bare_value : (h : ℤ) (s : Store) → IsBare h s → (start : ℕ) → value s.values h start ≡ None
bare_value h s bare start = sym (value_kept (holds (only h)) s.values h start true (only_self h)) ∙ ap (λ vs. value vs h start) (sym bare.values)

pub bare_last : (h : ℤ) (s : Store) → IsBare h s → last_commit s.commits h ≡ None
bare_last h s bare = sym (last_kept (holds (only h)) s.commits h (only_self h)) ∙ ap (λ cs. last_commit cs h) (sym bare.commits)

-- the tables of a store that has nothing of a range are those of the store with the range cleared
module _ (range : HandleRange) (s : Store) (bare : (h : ℤ) → holds range h ≡ true → IsBare h s) where
  same_value : (h : ℤ) (start : ℕ) → value (cleared range s).values h start ≡ value s.values h start
  same_value h start = by (holds range h) refl
    where
      by : (b : Bool) → holds range h ≡ b → value (cleared range s).values h start ≡ value s.values h start
      by true is = value_cleared range s h start true is ∙ sym (bare_value h s (bare h is) start)
      by false is = value_cleared range s h start false is

  same_last : (h : ℤ) → last_commit (cleared range s).commits h ≡ last_commit s.commits h
  same_last h = by (holds range h) refl
    where
      by : (b : Bool) → holds range h ≡ b → last_commit (cleared range s).commits h ≡ last_commit s.commits h
      by true is = last_cleared range s h true is ∙ sym (bare_last h s (bare h is))
      by false is = last_cleared range s h false is

  pub holds_cleared : (f : Families) → Holds f s → Holds f (cleared range s)
  holds_cleared f holds = record {
    values = λ h start. holds.values h start ∙ sym (same_value h start);
    last = λ h. holds.last h ∙ sym (same_last h);
    ordered = Rise-filter value_cmp _ s.values holds.ordered;
  }

  pub holds_uncleared : (f : Families) (g : Families) → Holds g s → Holds f (cleared range s) → Holds f s
  holds_uncleared f g old holds = record {
    values = λ h start. holds.values h start ∙ same_value h start;
    last = λ h. holds.last h ∙ same_last h;
    ordered = old.ordered;
  }

-- tables from which each place of a range was taken out
pub last_end : (range : HandleRange) (s : Store) (f : ℤ → Option LastCommit) → ((h : ℤ) → holds range h ≡ true → f h ≡ None) → ((h : ℤ) → holds range h ≡ false → f h ≡ last_commit s.commits h) → (h : ℤ) → f h ≡ last_commit (cleared range s).commits h
last_end range s f none kept h = elim (holds range h) as (λ b. holds range h ≡ b → f h ≡ last_commit (cleared range s).commits h) [
  | true ↦ λ is. none h is ∙ sym (last_cleared range s h true is)
  | false ↦ λ is. kept h is ∙ sym (last_cleared range s h false is)
] refl

pub value_end : (range : HandleRange) (s : Store) (f : ℤ × ℕ → Option (Option (List ℕ))) → ((h : ℤ) (start : ℕ) → holds range h ≡ true → f (h, start) ≡ None) → ((h : ℤ) (start : ℕ) → holds range h ≡ false → held (f (h, start)) ≡ value s.values h start)
    → (h : ℤ) (start : ℕ) → held (f (h, start)) ≡ value (cleared range s).values h start
value_end range s f none kept h start = elim (holds range h) as (λ b. holds range h ≡ b → held (f (h, start)) ≡ value (cleared range s).values h start) [
  | true ↦ λ is. ap held (none h start is) ∙ sym (value_cleared range s h start true is)
  | false ↦ λ is. kept h start is ∙ sym (value_cleared range s h start false is)
] refl
