-- What an entry does to a table is told by the regions that it acts on, and it leaves the others.
use Rattle.std.proofs.Common.{◌≡◌, ◌≢◌, ◌∙◌, refl, ap, ℕ, Bool, true, false, cond, ◌||◌, ◌∷◌, Option, Some, None, arith}
use Rattle.std.specs.Prelude.{◌==◌}
use Rattle.std.specs.BTreeMap.{is_at}
use Rattle.std.specs.List.{list_any}
use Rattle.std.specs.Ordering.{nat_cmp}
use Rattle.log_codec.specs.declared.entry.Body.{Body}
use Rattle.log_codec.specs.declared.entry.Body.TheVariants as body
use Rattle.committed_log.specs.Log.{Log}
use Rattle.committed_log.specs.Regions.{also_acted}
use Rattle.committed_log.proofs.Faults.{or_first, or_second, or_false}
use Rattle.committed_log.proofs.Closed.{same_is}
use Rattle.raft_apply.specs.Entries.{command_of}
use Rattle.region_file.specs.declared.entry.Entry.TheVariants as kept
use Rattle.region_state.specs.State.{State}
use Rattle.region_table.specs.Steps.{Keeps, changed, if_there, kept_after}
use Rattle.region_table.specs.Table.{Kept}

pub at_here : (r : ℕ) → is_at (nat_cmp r) r ≡ true
at_here r = grind arith

pub at_other : (r q : ℕ) → (r == q) ≡ false → is_at (nat_cmp r) q ≡ false
at_other r q e = grind arith

pub at_apart : (r q : ℕ) → q ≢ r → is_at (nat_cmp r) q ≡ false
at_apart r q apart = by (is_at (nat_cmp r) q) refl
  where
    one : (r q : ℕ) → is_at (nat_cmp r) q ≡ true → q ≡ r
    one r q e = grind arith

    by : (b : Bool) → is_at (nat_cmp r) q ≡ b → is_at (nat_cmp r) q ≡ false
    by false e = e
    by true e = absurd (apart (one r q e))

pub changed_here : (f : Keeps) (r : ℕ) (k : Kept) → changed f r k r ≡ Some k
changed_here f r k = ap (λ b. cond b (Some k) (f r)) (at_here r)

pub changed_other : (f : Keeps) (r : ℕ) (k : Kept) (q : ℕ) → (r == q) ≡ false → changed f r k q ≡ f q
changed_other f r k q out = ap (λ b. cond b (Some k) (f q)) (at_other r q out)

pub changed_apart : (f : Keeps) (r : ℕ) (k : Kept) (q : ℕ) → q ≢ r → changed f r k q ≡ f q
changed_apart f r k q out = ap (λ b. cond b (Some k) (f q)) (at_apart r q out)

there_same : (o : Option Kept) (h k : State → Keeps) (f g : Keeps) (q : ℕ) → f q ≡ g q → ((s : State) → h s q ≡ k s q) → if_there o h f q ≡ if_there o k g q
there_same None h k f g q same each = same
there_same (Some (kept.Gone index)) h k f g q same each = same
there_same (Some (kept.There s)) h k f g q same each = each s

there_stays : (o : Option Kept) (h : State → Keeps) (f : Keeps) (q : ℕ) → ((s : State) → h s q ≡ f q) → if_there o h f q ≡ f q
there_stays None h f q each = refl
there_stays (Some (kept.Gone index)) h f q each = refl
there_stays (Some (kept.There s)) h f q each = each s

abbrev pub is_acted : ℕ → Body → ℕ → Bool
is_acted r b q = list_any (λ acted. acted == q) (r ∷ also_acted b)

module _ (log : Log) (p r index : ℕ) where
  -- two tables that agree on the regions that an entry acts on agree on these after it
  pub local : (f g : Keeps) (b : Body) → ((q : ℕ) → is_acted r b q ≡ true → f q ≡ g q) → (q : ℕ) → is_acted r b q ≡ true → kept_after f r index (command_of log p b) q ≡ kept_after g r index (command_of log p b) q
  local f g b same q acts = by b same (same q acts)
    where
      put : (k : Kept) → f q ≡ g q → changed f r k q ≡ changed g r k q
      put k e = ap (cond (is_at (nat_cmp r) q) (Some k)) e

      two : (a : ℕ) (k l : Kept) → f q ≡ g q → changed (changed f a k) r l q ≡ changed (changed g a k) r l q
      two a k l e = ap (λ x. cond (is_at (nat_cmp r) q) (Some l) (cond (is_at (nat_cmp a) q) (Some k) x)) e

      into : (a : ℕ) (k l : Kept) → f q ≡ g q → changed (changed f r k) a l q ≡ changed (changed g r k) a l q
      into a k l e = ap (λ x. cond (is_at (nat_cmp a) q) (Some l) (cond (is_at (nat_cmp r) q) (Some k) x)) e

      own : (b : Body) → ((q : ℕ) → is_acted r b q ≡ true → f q ≡ g q) → f r ≡ g r
      own b same = same r (or_first (r == r) (list_any (λ acted. acted == r) (also_acted b)) (same_is r))

      there : (o o' : Option Kept) (h k : State → Keeps) → o ≡ o' → f q ≡ g q → ((s : State) → h s q ≡ k s q) → if_there o h f q ≡ if_there o' k g q
      there o o' h k is e each = ap (λ x. if_there x h f q) is ∙ there_same o' h k f g q e each

      by : (b : Body) → ((q : ℕ) → is_acted r b q ≡ true → f q ≡ g q) → f q ≡ g q → kept_after f r index (command_of log p b) q ≡ kept_after g r index (command_of log p b) q
      by (body.Open conf_ver version low high) same e = put _ e
      by (body.Install conf_ver version low high ops) same e = put _ e
      by (body.Write ops) same e = there (f r) (g r) _ _ (own (body.Write ops) same) e (λ s. put _ e)
      by (body.Split at child) same e = there (f r) (g r) _ _ (own (body.Split at child) same) e (λ s. two child _ _ e)
      by (body.Prepare target) same e = there (f r) (g r) _ _ (own (body.Prepare target) same) e (λ s. put _ e)
      by (body.Commit source) same e = there (f r) (g r) _ _ (own (body.Commit source) same) e
          (λ s. there (f source) (g source) _ _ (same source (or_second (r == source) ((source == source) || false) (or_first (source == source) false (same_is source)))) e (λ other. into source _ _ e))
      by body.Remove same e = put _ e
      by body.Empty same e = there (f r) (g r) _ _ (own body.Empty same) e (λ s. put _ e)

  -- the others stay
  pub elsewhere : (f : Keeps) (b : Body) (q : ℕ) → is_acted r b q ≡ false → kept_after f r index (command_of log p b) q ≡ f q
  elsewhere f b q out = by b (or_false (r == q) (list_any (λ acted. acted == q) (also_acted b)) out).0 (or_false (r == q) (list_any (λ acted. acted == q) (also_acted b)) out).1
    where
      two : (a : ℕ) (k l : Kept) → (r == q) ≡ false → ((a == q) || false) ≡ false → changed (changed f a k) r l q ≡ f q
      two a k l own other = changed_other (changed f a k) r l q own ∙ changed_other f a k q (or_false (a == q) false other).0

      by : (b : Body) → (r == q) ≡ false → list_any (λ acted. acted == q) (also_acted b) ≡ false → kept_after f r index (command_of log p b) q ≡ f q
      by (body.Open conf_ver version low high) own other = changed_other f r _ q own
      by (body.Install conf_ver version low high ops) own other = changed_other f r _ q own
      by (body.Write ops) own other = there_stays (f r) _ f q (λ s. changed_other f r _ q own)
      by (body.Split at child) own other = there_stays (f r) _ f q (λ s. two child _ _ own other)
      by (body.Prepare target) own other = there_stays (f r) _ f q (λ s. changed_other f r _ q own)
      by (body.Commit source) own other = there_stays (f r) _ f q (λ s. there_stays (f source) _ f q (λ o. changed_other (changed f r _) source _ q (or_false (source == q) false other).0 ∙ changed_other f r _ q own))
      by body.Remove own other = changed_other f r _ q own
      by body.Empty own other = there_stays (f r) _ f q (λ s. changed_other f r _ q own)
