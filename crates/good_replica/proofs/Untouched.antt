-- While no entry touches a handle its values and its lock stay.
use Rattle.std.proofs.Common.{◌≡◌, inl, inr, ◌∙◌, refl, sym, ap, ℕ, zero, suc, ◌<◌, ◌≤◌, ℤ, Bool, true, false, true≢false, List, filter, arith}
use Rattle.std.proofs.lemmas.Int.{ints}
use Rattle.std.proofs.lemmas.Map.Entries.{lookup-filter-keys}
use Rattle.std.proofs.lemmas.Map.Lookups.{exact_signed, exact_unsigned, exact_pairs}
use Rattle.std.specs.BTreeMap.{is_at}
use Rattle.std.specs.Ordering.{int_cmp, nat_cmp, int_eq, is_eq}
use Rattle.std.specs.declared.cmp.Ordering.{Ordering}
use Rattle.std.specs.declared.cmp.Ordering.TheVariants.{Less, Equal, Greater}
use Rattle.committed_log.specs.Lawful.{IsLawful}
use Rattle.committed_log.specs.Laws.{touches}
use Rattle.committed_log.specs.Log.{Log, at}
use Rattle.committed_log.specs.Store.{value, value_cmp, lock}
use Rattle.committed_log.specs.declared.store.Lock.{Lock}
use Rattle.committed_log.proofs.Touching.{same_untouched}
use Rattle.good_replica.proofs.Facts.{le_or, int_itself}

-- what one entry leaves, several leave
steps_still : {X : Type 0} (f : ℕ → X) (touch : ℕ → Bool) → ((x : ℕ) → touch x ≡ false → f (suc x) ≡ f x) → (p q : ℕ) → p ≤ q → ((x : ℕ) → p ≤ x → x < q → touch x ≡ false) → f q ≡ f p
steps_still f touch step p zero le un = (let same : p ≡ 0 = omega (arith, le) in ap f (sym same))
steps_still f touch step p (suc q) le un = elim (le_or p q le) [
  | inl less ↦ step q (un q less (omega arith)) ∙ steps_still f touch step p q less (λ x a b. un x a (omega (arith, b)))
  | inr same ↦ ap f (sym same)
]

module _ (log : Log) (lawful : IsLawful log) (h : ℤ) where
  of_lock : (k : ℤ) → is_at (int_cmp h) k ≡ true → int_eq k h ≡ true
  of_lock k e = one h k e
    where
      one : (h k : ℤ) → is_at (int_cmp h) k ≡ true → int_eq k h ≡ true
      one h k e = grind (arith, ints)

  of_value : (start : ℕ) (k : ℤ × ℕ) → is_at (value_cmp (h, start)) k ≡ true → int_eq k.0 h ≡ true
  of_value start k e = by (value_cmp (h, start) k) refl e
    where
      by : (o : Ordering) → value_cmp (h, start) k ≡ o → is_eq o ≡ true → int_eq k.0 h ≡ true
      by Less is e = absurd (true≢false (sym e))
      by Equal is e = int_itself k.0 h (ap (λ (k : ℤ × ℕ). k.0) (sym (exact_pairs int_cmp nat_cmp exact_signed exact_unsigned (h, start) k is)))
      by Greater is e = absurd (true≢false (sym e))

  lock_within : (locks : List (ℤ × Lock)) → lock (filter (λ (e : ℤ × Lock). int_eq e.0 h) locks) h ≡ lock locks h
  lock_within locks = lookup-filter-keys (is_at (int_cmp h)) (λ k. int_eq k h) true of_lock locks

  value_within : (start : ℕ) (values : List ((ℤ × ℕ) × List ℕ)) → value (filter (λ (e : (ℤ × ℕ) × List ℕ). int_eq e.0.0 h) values) h start ≡ value values h start
  value_within start values = lookup-filter-keys (is_at (value_cmp (h, start))) (λ (k : ℤ × ℕ). int_eq k.0 h) true (of_value start) values

  lock_next : (p : ℕ) → touches log h p ≡ false → lock (at log (suc p)).locks h ≡ lock (at log p).locks h
  lock_next p out = (let same = same_untouched log h p lawful out in sym (lock_within (at log (suc p)).locks) ∙ ap (λ ls. lock ls h) (sym same.locks) ∙ lock_within (at log p).locks)

  value_next : (start p : ℕ) → touches log h p ≡ false → value (at log (suc p)).values h start ≡ value (at log p).values h start
  value_next start p out = (let same = same_untouched log h p lawful out in sym (value_within start (at log (suc p)).values) ∙ ap (λ vs. value vs h start) (sym same.values) ∙ value_within start (at log p).values)

  pub lock_still : (p q : ℕ) → p ≤ q → ((x : ℕ) → p ≤ x → x < q → touches log h x ≡ false) → lock (at log q).locks h ≡ lock (at log p).locks h
  lock_still p q le un = steps_still (λ n. lock (at log n).locks h) (touches log h) lock_next p q le un

  pub value_still : (p q : ℕ) → p ≤ q → ((x : ℕ) → p ≤ x → x < q → touches log h x ≡ false) → (start : ℕ) → value (at log q).values h start ≡ value (at log p).values h start
  value_still p q le un start = steps_still (λ n. value (at log n).values h start) (touches log h) (value_next start) p q le un
