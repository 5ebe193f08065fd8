-- A table is that of a log exactly where the entries that it says are applied leave what it has, applied anew in the order of the log.
use Rattle.std.proofs.Common.{◌≡◌, ◌≢◌, ◌⊎◌, inl, inr, ◌∙◌, refl, sym, ap, ℕ, ◌+◌, ◌<◌, ◌≤◌, Bool, true, false, ◌&&◌, ◌||◌, Option, Some, None, nat_lt, is_some, true≢false, arith, slice_get, length, List}
use Rattle.std.specs.Prelude.{◌==◌}
use Rattle.std.specs.Cmp.{nat_cmp_total}
use Rattle.std.specs.List.Sorted.{IsStrictlySortedBy}
use Rattle.std.specs.Map.{keys_of}
use Rattle.std.specs.Ordering.{nat_cmp}
use Rattle.std.proofs.lemmas.Map.Lookups.{exact_unsigned}
use Rattle.std.proofs.lemmas.Option.{slice_get_past}
use Rattle.log_codec.specs.declared.entry.Entry.{Entry}
use Rattle.committed_log.specs.Applied.{IsClosed, is_ready, with_position}
use Rattle.committed_log.specs.Lawful.{IsLawful}
use Rattle.committed_log.specs.Log.{Log}
use Rattle.committed_log.specs.Regions.{index_of}
use Rattle.committed_log.proofs.Closed.{entry_at}
use Rattle.committed_log.proofs.Ready.{is_ready_by}
use Rattle.raft_apply.specs.Entries.{command_of, parsed}
use Rattle.raft_apply.specs.declared.command.Parsed.{Parsed}
use Rattle.region_state.proofs.Folds.{same_lists}
use Rattle.region_table.specs.Agreeing.{below}
use Rattle.region_table.specs.Applying.{apply_fault}
use Rattle.region_table.specs.Counting.{applied_in, has_reached}
use Rattle.region_table.specs.Table.{Kept, AreRegionsAt, AreNexts, IsCounted, next_in, state_in}
use Rattle.region_table.specs.declared.table.Counted.{Counted}
use Rattle.region_table.specs.declared.fault.ApplyError.{ApplyError}
use Rattle.region_table.proofs.Behind.{without_ready}

-- ---- a set, cut at a position

under : (q n : ℕ) → q < n → nat_lt q n ≡ true
under q n less = grind arith

over : (q n : ℕ) → n ≤ q → nat_lt q n ≡ false
over q n le = grind arith

split : (q n : ℕ) → (q < n) ⊎ (n ≤ q)
split q n = grind arith

order : (q n : ℕ) → (q < n) ⊎ ((q ≡ n) ⊎ (n < q))
order q n = grind arith

apart : (q n : ℕ) → q ≢ n → (q == n) ≡ false
apart q n ne = grind arith

same : (n : ℕ) → (n == n) ≡ true
same n = grind arith

module _ (A : ℕ → Bool) where
  in_below : (n q : ℕ) → q < n → below n A q ≡ A q
  in_below n q less = ap (λ b. b && A q) (under q n less)

  out_below : (n q : ℕ) → n ≤ q → below n A q ≡ false
  out_below n q le = ap (λ b. b && A q) (over q n le)

  pub none_below : (λ (_ : ℕ). false) ≡ below 0 A
  none_below = λ i q. sym (out_below 0 q (omega arith)) i

  pub all_below : (n : ℕ) → ((q : ℕ) → n ≤ q → A q ≡ false) → below n A ≡ A
  all_below n none = λ i q. by q (split q n) i
    where
      by : (q : ℕ) → (q < n) ⊎ (n ≤ q) → below n A q ≡ A q
      by q (inl less) = in_below n q less
      by q (inr le) = out_below n q le ∙ sym (none q le)

  -- a position that isn't in the set
  pub still_below : (n : ℕ) → A n ≡ false → below n A ≡ below (n + 1) A
  still_below n out = λ i q. by q (order q n) i
    where
      by : (q : ℕ) → (q < n) ⊎ ((q ≡ n) ⊎ (n < q)) → below n A q ≡ below (n + 1) A q
      by q (inl less) = in_below n q less ∙ sym (in_below (n + 1) q (omega (arith, less)))
      by q (inr (inl is)) = out_below n q (omega (arith, is)) ∙ sym (in_below (n + 1) q (omega (arith, is)) ∙ ap A is ∙ out)
      by q (inr (inr more)) = out_below n q (omega (arith, more)) ∙ sym (out_below (n + 1) q (omega (arith, more)))

  -- one that is
  pub more_below : (n : ℕ) → A n ≡ true → with_position (below n A) n ≡ below (n + 1) A
  more_below n in_set = λ i q. by q (order q n) i
    where
      by : (q : ℕ) → (q < n) ⊎ ((q ≡ n) ⊎ (n < q)) → with_position (below n A) n q ≡ below (n + 1) A q
      by q (inl less) = ap (λ b. b || below n A q) (apart q n (λ e. omega (arith, e, less))) ∙ in_below n q less ∙ sym (in_below (n + 1) q (omega (arith, less)))
      by q (inr (inl is)) = ap (λ b. b || below n A q) (ap (λ x. x == n) is ∙ same n) ∙ sym (in_below (n + 1) q (omega (arith, is)) ∙ ap A is ∙ in_set)
      by q (inr (inr more)) = ap (λ b. b || below n A q) (apart q n (λ e. omega (arith, e, more))) ∙ out_below n q (omega (arith, more)) ∙ sym (out_below (n + 1) q (omega (arith, more)))

-- in a closed set each entry is ready once those before it are applied
pub ready_below : (log : Log) (A : ℕ → Bool) → IsClosed log A → (p : ℕ) → A p ≡ true → is_ready log (below p A) p ≡ true
ready_below log A closed p in_set = is_ready_by log (below p A) p (record {
  free = out_below A p p (omega arith);
  entry = at_p.0;
  here = at_p.1;
  earlier = λ q e less is waits. in_below A p q less ∙ closed.earlier p q at_p.0 e in_set less at_p.1 is waits;
})
  where
    at_p : (e : Entry) × (slice_get log.entries p ≡ Some e)
    at_p = entry_at log p (closed.within p in_set)

-- an entry with a fault isn't ready
pub fault_out : (log : Log) → IsLawful log → (A : ℕ → Bool) → IsClosed log A → (p : ℕ) (e : Entry) → slice_get log.entries p ≡ Some e → (why : ApplyError) → apply_fault log A p e ≡ Some why → is_ready log A p ≡ false
fault_out log lawful A closed p e here why has = by (is_ready log A p) refl
  where
    by : (b : Bool) → is_ready log A p ≡ b → is_ready log A p ≡ false
    by false is = is
    by true is = absurd (cc (sym (without_ready log lawful A closed p e here is) ∙ has))

pub position_is : (log : Log) (p : ℕ) (x : Parsed) → parsed log p ≡ Some x → x.position ≡ p
position_is log p x is = by (slice_get log.entries p) is
  where
    some_is : (a b : Parsed) → Some a ≡ Some b → b ≡ a
    some_is a b e = cc e

    by : (o : Option Entry) → elim o [ None ↦ None | Some e ↦ Some (record { position = p; region = e.region; index = e.index; command = command_of log p e.body }) ] ≡ Some x → x.position ≡ p
    by None is = absurd (cc is)
    by (Some e) is = ap (λ (y : Parsed). y.position) (some_is _ _ is)

-- no entry is applied past the log's end
pub none_past : (log : Log) (regions : List (ℕ × Kept)) (q : ℕ) → length log.entries ≤ q → applied_in log regions q ≡ false
none_past log regions q le = ap (λ o. elim o [ None ↦ false | Some e ↦ has_reached (index_of (state_in regions e.region)) e.index ]) (slice_get_past log.entries q le)

-- at one set there are the same regions
pub same_regions : (log : Log) (A : ℕ → Bool) (a b : List (ℕ × Kept)) → AreRegionsAt log A a → AreRegionsAt log A b → IsStrictlySortedBy nat_cmp (keys_of a) → IsStrictlySortedBy nat_cmp (keys_of b) → a ≡ b
same_regions log A a b at_a at_b rise_a rise_b = same_lists nat_cmp_total exact_unsigned a b rise_a rise_b (λ r. at_a.regions r ∙ sym (at_b.regions r))

-- and the same next entries
pub same_nexts : (log : Log) (A : ℕ → Bool) (a b : List (ℕ × Unit {0})) → AreNexts log A a → AreNexts log A b → IsStrictlySortedBy nat_cmp (keys_of a) → IsStrictlySortedBy nat_cmp (keys_of b) → a ≡ b
same_nexts log A a b at_a at_b rise_a rise_b = same_lists nat_cmp_total exact_unsigned a b rise_a rise_b (λ q. alike (next_in a q) (next_in b q) (among a b at_a at_b q) (among b a at_b at_a q))
  where
    among : (a b : List (ℕ × Unit {0})) → AreNexts log A a → AreNexts log A b → (q : ℕ) → is_some (next_in a q) ≡ true → is_some (next_in b q) ≡ true
    among a b at_a at_b q some = let r = at_a.each q some in at_b.all q r.0 r.1 r.2

    alike : (x y : Option (Unit {0})) → (is_some x ≡ true → is_some y ≡ true) → (is_some y ≡ true → is_some x ≡ true) → x ≡ y
    alike None None there back = refl
    alike None (Some y) there back = absurd (true≢false (sym (back refl)))
    alike (Some x) None there back = absurd (true≢false (sym (there refl)))
    alike (Some x) (Some y) there back = refl

pub same_counts : (log : Log) (A : ℕ → Bool) (a b : Counted) → IsCounted log A a → IsCounted log A b → a ≡ b
same_counts log A a b at_a at_b = λ i. record { count = (at_a.count ∙ sym at_b.count) i; first = (at_a.first ∙ sym at_b.first) i }
