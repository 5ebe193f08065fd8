-- What the row store shows is what its versions of the handle show.
use Rattle.std.proofs.Common.{◌≡◌, ◌⊎◌, inl, inr, ◌∙◌, refl, sym, ap, subst, ℕ, ◌<◌, ◌≤◌, ℤ, Bool, true, false, cond, ◌&&◌, List, [], ◌∷◌, Option, Some, None, option_map, option_and_then, fold, map, nat_le, nat_lt, is_none, arith}
use Rattle.std.specs.Prelude.{◌==◌}
use Rattle.std.specs.Ordering.{int_eq}
use Rattle.committed_log.specs.Reads.{cells}
use Rattle.committed_log.specs.Store.{newer, candidate, newest}
use Rattle.committed_log.specs.declared.store.Commit.{Commit}
use Rattle.committed_log.specs.Log.{Log, at}
use Rattle.committed_log.specs.Reads.{shown}
use Rattle.column_block.specs.declared.cell.Version.{Version}
use Rattle.good_replica.specs.Shows.{IsNewestAt, Shows}
use Rattle.good_replica.specs.Versions.{version_of, written}
use Rattle.good_replica.proofs.Commits.{found}
use Rattle.good_replica.proofs.Facts.{some_is}
use Rattle.committed_log.proofs.Ranks.{same_number}
use Rattle.committed_log.proofs.Closed.{same_is}

-- m is the newest of o and of the commits on a handle that aren't above ts
pub record IsNewestOf (h : ℤ) (ts : ℕ) (o : Option Commit) (cs : List Commit) (m : Commit) : Type 0 where
  pub from : (o ≡ Some m) ⊎ ((found h cs m.ts ≡ Some m) × (m.ts ≤ ts) × ((x : Commit) → o ≡ Some x → x.ts < m.ts))
  pub above_o : (x : Commit) → o ≡ Some x → x.ts ≤ m.ts
  pub above : (d : ℕ) (x : Commit) → found h cs d ≡ Some x → d ≤ ts → d ≤ m.ts

abbrev pub Answer : ℤ → ℕ → Option Commit → List Commit → Option Commit → Type 0
Answer h ts o cs None = (o ≡ None) × ((d : ℕ) → d ≤ ts → found h cs d ≡ None)
Answer h ts o cs (Some m) = IsNewestOf h ts o cs m

is_le : (a b : ℕ) → nat_le a b ≡ true → a ≤ b
is_le a b e = grind arith

not_le : (a b : ℕ) → nat_le a b ≡ false → b < a
not_le a b e = grind arith

is_less : (a b : ℕ) → nat_lt a b ≡ true → a < b
is_less a b e = grind arith

not_less : (a b : ℕ) → nat_lt a b ≡ false → b ≤ a
not_less a b e = grind arith

module _ (h : ℤ) (ts : ℕ) where
  -- a commit that is no candidate changes no answer
  passed : (c : Commit) (cs : List Commit) (o : Option Commit) → ((d : ℕ) → d ≤ ts → found h (c ∷ cs) d ≡ found h cs d) → (r : Option Commit) → Answer h ts o cs r → Answer h ts o (c ∷ cs) r
  passed c cs o same None a = (a.0, λ d low. same d low ∙ a.1 d low)
  passed c cs o same (Some m) a = record {
    from = elim a.from [ inl e ↦ inl e | inr e ↦ inr (same m.ts e.1 ∙ e.0, e.1, e.2) ];
    above_o = a.above_o;
    above = λ d x e low. a.above d x (sym (same d low) ∙ e) low;
  }

  -- a candidate
  module _ (c : Commit) (cs : List Commit) (on : int_eq c.handle h ≡ true) (low : c.ts ≤ ts) where
    here : found h (c ∷ cs) c.ts ≡ Some c
    here = (λ i. cond (on i && same_is c.ts i) (Some c) (found h cs c.ts))

    other : (d : ℕ) → (c.ts == d) ≡ false → found h (c ∷ cs) d ≡ found h cs d
    other d e = (λ i. cond (on i && e i) (Some c) (found h cs d))

    later : (m : Commit) → c.ts < m.ts → found h cs m.ts ≡ Some m → found h (c ∷ cs) m.ts ≡ Some m
    later m less e = other m.ts (apart c.ts m.ts less) ∙ e
      where
        apart : (a b : ℕ) → a < b → (a == b) ≡ false
        apart a b e = grind arith

    no_newer : (m : Commit) → c.ts ≤ m.ts → ((d : ℕ) (x : Commit) → found h cs d ≡ Some x → d ≤ ts → d ≤ m.ts) → (d : ℕ) (x : Commit) → found h (c ∷ cs) d ≡ Some x → d ≤ ts → d ≤ m.ts
    no_newer m le above d x e under = by (c.ts == d) refl
      where
        by : (b : Bool) → (c.ts == d) ≡ b → d ≤ m.ts
        by true is = let same = same_number c.ts d is in omega (arith, le, same)
        by false is = above d x (sym (other d is) ∙ e) under

    -- where it is the newest so far
    taken : (o : Option Commit) → ((x : Commit) → o ≡ Some x → x.ts < c.ts) → (r : Option Commit) → Answer h ts (Some c) cs r → Answer h ts o (c ∷ cs) r
    taken o less None a = cc a.0
    taken o less (Some m) a = record {
      from = elim a.from [
        | inl e ↦ let same = some_is c m e in inr (ap (found h (c ∷ cs)) (ap (λ (z : Commit). z.ts) (sym same)) ∙ here ∙ e, (let s : m.ts ≡ c.ts = ap (λ (z : Commit). z.ts) (sym same) in omega (arith, s, low)), λ x i. let l = less x i in let s : m.ts ≡ c.ts = ap (λ (z : Commit). z.ts) (sym same) in omega (arith, l, s))
        | inr e ↦ inr (later m (e.2 c refl) e.0, e.1, λ x i. let l = less x i in let n = e.2 c refl in omega (arith, l, n))
      ];
      above_o = λ x i. let l = less x i in let n = a.above_o c refl in omega (arith, l, n);
      above = no_newer m (a.above_o c refl) a.above;
    }

    -- where one before isn't older
    kept : (b : Commit) → c.ts ≤ b.ts → (r : Option Commit) → Answer h ts (Some b) cs r → Answer h ts (Some b) (c ∷ cs) r
    kept b le None a = cc a.0
    kept b le (Some m) a = record {
      from = elim a.from [ inl e ↦ inl e | inr e ↦ inr ((let n = e.2 b refl in later m (omega (arith, n, le)) e.0), e.1, e.2) ];
      above_o = a.above_o;
      above = no_newer m (let n = a.above_o b refl in omega (arith, n, le)) a.above;
    }

    candidate_case : (o : Option Commit) → ((o : Option Commit) → Answer h ts o cs (fold newer o (map (candidate (λ c. nat_le c.ts ts) h) cs))) → Answer h ts o (c ∷ cs) (fold newer (newer o (Some c)) (map (candidate (λ c. nat_le c.ts ts) h) cs))
    candidate_case None rest = taken None (λ x i. cc i) _ (rest (Some c))
    candidate_case (Some b) rest = by (nat_lt b.ts c.ts) refl
      where
        by : (t : Bool) → nat_lt b.ts c.ts ≡ t → Answer h ts (Some b) (c ∷ cs) (fold newer (cond t (Some c) (Some b)) (map (candidate (λ c. nat_le c.ts ts) h) cs))
        by true is = taken (Some b) (λ x i. let l = is_less b.ts c.ts is in let s : b.ts ≡ x.ts = ap (λ (z : Commit). z.ts) (some_is b x i) in omega (arith, l, s)) _ (rest (Some c))
        by false is = kept b (not_less b.ts c.ts is) _ (rest (Some b))

  newer_none : (o : Option Commit) → newer o None ≡ o
  newer_none None = refl
  newer_none (Some c) = refl

  answer : (o : Option Commit) (cs : List Commit) → Answer h ts o cs (fold newer o (map (candidate (λ c. nat_le c.ts ts) h) cs))
  answer None [] = (refl, λ d low. refl)
  answer (Some m) [] = record { from = inl refl; above_o = λ x e. (let s : x.ts ≡ m.ts = ap (λ (z : Commit). z.ts) (sym (some_is m x e)) in omega (arith, s)); above = λ d x e low. cc e }
  answer o (c ∷ cs) = by (int_eq c.handle h) (nat_le c.ts ts) refl refl (λ o. answer o cs)
    where
      out : (d : ℕ) → int_eq c.handle h ≡ false → found h (c ∷ cs) d ≡ found h cs d
      out d e = (λ i. cond (e i && (c.ts == d)) (Some c) (found h cs d))

      above : nat_le c.ts ts ≡ false → (d : ℕ) → d ≤ ts → (c.ts == d) ≡ false
      above e d low = let l = not_le c.ts ts e in apart c.ts d (omega (arith, l, low))
        where
          apart : (a b : ℕ) → b < a → (a == b) ≡ false
          apart a b e = grind arith

      and_false : (a : Bool) → (a && false) ≡ false
      and_false true = refl
      and_false false = refl

      by : (x y : Bool) → int_eq c.handle h ≡ x → nat_le c.ts ts ≡ y → ((o : Option Commit) → Answer h ts o cs (fold newer o (map (candidate (λ c. nat_le c.ts ts) h) cs))) → Answer h ts o (c ∷ cs) (fold newer (newer o (cond (x && y) (Some c) None)) (map (candidate (λ c. nat_le c.ts ts) h) cs))
      by true true i j rest = candidate_case c cs i (is_le c.ts ts j) o rest
      by true false i j rest = passed c cs o (λ d low. ap (λ b. cond b (Some c) (found h cs d)) (ap (λ b. int_eq c.handle h && b) (above j d low) ∙ and_false (int_eq c.handle h))) _ (subst (λ z. Answer h ts o cs (fold newer z (map (candidate (λ c. nat_le c.ts ts) h) cs))) (sym (newer_none o)) (rest o))
      by false y i j rest = passed c cs o (λ d low. out d i) _ (subst (λ z. Answer h ts o cs (fold newer z (map (candidate (λ c. nat_le c.ts ts) h) cs))) (sym (newer_none o)) (rest o))

-- what the row store shows
pub shows_shown : (log : Log) (h : ℤ) (p ts : ℕ) → Shows (written log h p) ts (option_map (cells log.schema) (shown (at log p).commits ts h))
shows_shown log h p ts = by (newest (λ c. nat_le c.ts ts) h (at log p).commits) (answer h ts None (at log p).commits)
  where
    some_found : (d : ℕ) (w : Version) → written log h p d ≡ Some w → (o : Option Commit) → found h (at log p).commits d ≡ o → (x : Commit) × (found h (at log p).commits d ≡ Some x)
    some_found d w e (Some x) is = (x, is)
    some_found d w e None is = cc (sym (ap (option_map (version_of log.schema)) is) ∙ e)

    at_newest : (m : Commit) → IsNewestOf h ts None (at log p).commits m → IsNewestAt (written log h p) ts m.ts (version_of log.schema m)
    at_newest m a = elim a.from [
      | inl e ↦ cc e
      | inr e ↦ record { here = ap (option_map (version_of log.schema)) e.0; below = e.1; newest = λ d w i low. let x = some_found d w i (found h (at log p).commits d) refl in a.above d x.0 x.1 low }
    ]

    of_value : (m : Commit) (v : Option (List ℕ)) → m.value ≡ v → IsNewestAt (written log h p) ts m.ts (version_of log.schema m) → Shows (written log h p) ts (option_map (cells log.schema) v)
    of_value m None is n = inr (m.ts, version_of log.schema m, n, ap is_none is)
    of_value m (Some v) is n = (m.ts, version_of log.schema m, n, ap is_none is, ap (λ (o : Option (List ℕ)). elim o [ None ↦ [] | Some value ↦ cells log.schema value ]) is)

    by : (r : Option Commit) → Answer h ts None (at log p).commits r → Shows (written log h p) ts (option_map (cells log.schema) (option_and_then (λ (c : Commit). c.value) r))
    by None a = inl (λ d low. ap (option_map (version_of log.schema)) (a.1 d low))
    by (Some m) a = of_value m m.value refl (at_newest m a)
