-- What stands in a list of entries whose keys rise.
use Rattle.std.proofs.Common.{◌≡◌, ◌≢◌, ◌∙◌, refl, sym, ap, ℕ, ◌<◌, Bool, true, false, true≢false, cond, List, [], ◌∷◌, Some, is_some, nat_cmp, arith}
use Rattle.std.specs.BTreeMap.{is_at}
use Rattle.std.specs.List.{AllByRecursion}
use Rattle.std.specs.Map.{lookup, keys_of}
use Rattle.std.specs.declared.cmp.Ordering.TheVariants.{Less}
use Rattle.std.proofs.lemmas.Map.Keys.{sorted_head}
use Rattle.committed_log.proofs.Maps.{Rise}

pub one_key : (q k : ℕ) → is_at (nat_cmp q) k ≡ true → q ≡ k
one_key q k e = grind arith

less_is : (k q : ℕ) → nat_cmp k q ≡ Less → k < q
less_is k q e = grind arith

module _ {V : Type 0} where
  abbrev Has : List (ℕ × V) → ℕ → Type 0
  Has es q = is_some (lookup (is_at (nat_cmp q)) es) ≡ true

  pub in_rest : (q : ℕ) (e : ℕ × V) (es : List (ℕ × V)) → is_at (nat_cmp q) e.0 ≡ false → Has (e ∷ es) q → Has es q
  in_rest q e es out there = sym (ap (λ b. is_some (cond b (Some e.1) (lookup (is_at (nat_cmp q)) es))) out) ∙ there

  key_above : (k : ℕ) (es : List (ℕ × V)) → AllByRecursion (λ y. nat_cmp k y ≡ Less) (keys_of es) → (q : ℕ) → Has es q → nat_cmp k q ≡ Less
  key_above k [] all q there = absurd (true≢false (sym there))
  key_above k (x ∷ xs) all q there = by (is_at (nat_cmp q) x.0) refl (key_above k xs all.1 q)
    where
      by : (b : Bool) → is_at (nat_cmp q) x.0 ≡ b → (Has xs q → nat_cmp k q ≡ Less) → nat_cmp k q ≡ Less
      by true is rest = ap (nat_cmp k) (one_key q x.0 is) ∙ all.0
      by false out rest = rest (in_rest q x xs out there)

  -- what stands behind the first is greater
  pub rest_above : (e : ℕ × V) (es : List (ℕ × V)) → Rise nat_cmp (e ∷ es) → (q : ℕ) → Has es q → e.0 < q
  rest_above e es rise q there = less_is e.0 q (key_above e.0 es (sorted_head nat_cmp e.0 (keys_of es) rise) q there)
