-- A longer log has the same prefixes: what is said of the positions and indexes of a log stays true as the log grows.
use Rattle.std.proofs.Common.{◌≡◌, ◌⊎◌, inl, inr, ◌∙◌, refl, sym, ap, ℕ, zero, suc, ◌<◌, ◌≤◌, ℤ, Bool, true, false, ◌&&◌, List, [], ◌∷◌, ◌++◌, Option, Some, None, slice_get, arith, length, length-append, filter}
use Rattle.std.specs.Prelude.{IsTrue}
use Rattle.std.proofs.lemmas.List.{take-append-le}
use Rattle.column_block.specs.declared.column.Column.{Column}
use Rattle.log_codec.specs.declared.entry.Entry.{Entry}
use Rattle.committed_log.specs.Applied.{entry_is, acts_at, left_at, has_index, place, state, applied, IsClosed, first_numbers, last}
use Rattle.committed_log.specs.Lawful.{IsLawful, AllAdmitted, AllWritable}
use Rattle.committed_log.specs.Laws.{longer}
use Rattle.committed_log.specs.Log.{Log, at}
use Rattle.committed_log.specs.Regions.{Unborn, region, acts_on}
use Rattle.committed_log.specs.Store.{Store, store_of, empty, after_entry}
use Rattle.committed_log.proofs.Positions.{Ends, found_is, find_is, last_ends, last_is, last_none}

pub get_same : {X : Type 0} (xs ys : List X) (p : ℕ) → p < length xs → slice_get (xs ++ ys) p ≡ slice_get xs p
get_same [] ys p less = absurd (omega (arith, less))
get_same (x ∷ xs) ys zero less = refl
get_same (x ∷ xs) ys (suc p) less = get_same xs ys p (omega (arith, less))

admitted_front : (table : ℤ) (schema : List Column) (p : ℕ) (s : Store) (es more : List Entry) → AllAdmitted table schema p s (es ++ more) → AllAdmitted table schema p s es
admitted_front table schema p s [] more all = tt
admitted_front table schema p s (e ∷ es) more all = (all.0, admitted_front table schema (suc p) (after_entry table p s e) es more all.1)

writable_front : (es more : List Entry) → AllWritable (es ++ more) → AllWritable es
writable_front [] more all = tt
writable_front (e ∷ es) more all = (all.0, writable_front es more all.1)

module _ (log : Log) (more : List Entry) where
  -- each prefix of a lawful log is lawful
  pub lawful_front : IsLawful (longer log more) → IsLawful log
  lawful_front lawful = record { schema = lawful.schema; writable = writable_front log.entries more lawful.writable; admitted = admitted_front log.table log.schema 0 empty log.entries more lawful.admitted }

  -- the store
  pub at_same : (p : ℕ) → p ≤ length log.entries → at (longer log more) p ≡ at log p
  at_same p le = ap (store_of log.table) (take-append-le p log.entries more le)

  pub get_longer : (p : ℕ) → p < length log.entries → slice_get (longer log more).entries p ≡ slice_get log.entries p
  get_longer p less = get_same log.entries more p less

  -- a test of the entry at a position
  pub entry_same : (test : Entry → Bool) (p : ℕ) → p < length log.entries → entry_is (longer log more) test p ≡ entry_is log test p
  entry_same test p less = ap (λ o. elim o [ None ↦ false | Some e ↦ test e ]) (get_longer p less)

  -- what an entry leaves of a region
  pub left_same : (r p : ℕ) → p < length log.entries → left_at (longer log more) r p ≡ left_at log r p
  left_same r p less = ap (λ (s : Store). region s.regions r) (at_same (suc p) less)

  -- the place of an index that the log gives
  pub place_same : (r i p : ℕ) → place log r i ≡ Some p → place (longer log more) r i ≡ Some p
  place_same r i p is =
      let least = found_is (λ q. has_index i (left_at log r q)) (length log.entries) p is in
      find_is (λ q. has_index i (left_at (longer log more) r q)) (length (log.entries ++ more)) p (record {
        below = omega (arith, least.below, length-append log.entries more);
        passes = ap (has_index i) (left_same r p least.below) ∙ least.passes;
        first = λ q less. ap (has_index i) (left_same r q (omega (arith, less, least.below))) ∙ least.first q less;
      })

  -- and the state there
  pub state_same : (r i p : ℕ) → place log r i ≡ Some p → state (longer log more) r i ≡ state log r i
  state_same r i p is =
      let least = found_is (λ q. has_index i (left_at log r q)) (length log.entries) p is in
      ap (λ o. elim o [ None ↦ Unborn | Some p ↦ left_at (longer log more) r p ]) (place_same r i p is) ∙ left_same r p least.below ∙ sym (ap (λ o. elim o [ None ↦ Unborn | Some p ↦ left_at log r p ]) is)

  -- ---- sets of positions of the log

  module _ (A : ℕ → Bool) (within : (p : ℕ) → IsTrue (A p) → p < length log.entries) where
    outside : (p : ℕ) → length log.entries ≤ p → A p ≡ false
    outside p le = by (A p) refl
      where
        by : (b : Bool) → A p ≡ b → A p ≡ false
        by false is = is
        by true is = let less = within p is in absurd (omega (arith, less, le))

    acts_low : (r p : ℕ) → p < length log.entries → (A p && acts_at (longer log more) r p) ≡ (A p && acts_at log r p)
    acts_low r p less = ap (λ b. A p && b) (entry_same (acts_on r) p less)

    -- what the set leaves of the regions
    pub applied_same : (r : ℕ) → applied (longer log more) A r ≡ applied log A r
    applied_same r = by (last (filter (λ p. A p && acts_at log r p) (first_numbers (length log.entries)))) refl (last_ends (λ p. A p && acts_at log r p) (length log.entries))
      where
        high : (p : ℕ) → length log.entries ≤ p → (A p && acts_at (longer log more) r p) ≡ false
        high p le = ap (λ b. b && acts_at (longer log more) r p) (outside p le)

        either : (p : ℕ) → (p < length log.entries) ⊎ (length log.entries ≤ p)
        either p = grind arith

        by : (o : Option ℕ) → last (filter (λ p. A p && acts_at log r p) (first_numbers (length log.entries))) ≡ o → Ends (λ p. A p && acts_at log r p) (length log.entries) o → applied (longer log more) A r ≡ applied log A r
        by None is none =
            ap (λ o. elim o [ None ↦ Unborn | Some p ↦ left_at (longer log more) r p ]) (last_none (λ p. A p && acts_at (longer log more) r p) (length (log.entries ++ more)) (λ q less. elim (either q) [ inl low ↦ acts_low r q low ∙ none q low | inr le ↦ high q le ]))
            ∙ sym (ap (λ o. elim o [ None ↦ Unborn | Some p ↦ left_at log r p ]) is)
        by (Some p) is greatest =
            ap (λ o. elim o [ None ↦ Unborn | Some p ↦ left_at (longer log more) r p ]) (last_is (λ p. A p && acts_at (longer log more) r p) (length (log.entries ++ more)) p (record {
              below = omega (arith, greatest.below, length-append log.entries more);
              passes = acts_low r p greatest.below ∙ greatest.passes;
              later = λ q after less. elim (either q) [ inl low ↦ acts_low r q low ∙ greatest.later q after low | inr le ↦ high q le ];
            })) ∙ left_same r p greatest.below ∙ sym (ap (λ o. elim o [ None ↦ Unborn | Some p ↦ left_at log r p ]) is)

  -- a closed set is closed in the longer log too
  pub closed_same : (A : ℕ → Bool) → IsClosed log A → IsClosed (longer log more) A
  closed_same A closed = record {
    within = λ p a. omega (arith, closed.within p a, length-append log.entries more);
    earlier = λ p q later e a less is_later is_e waits.
        let low = closed.within p a in
        closed.earlier p q later e a less (sym (get_longer p low) ∙ is_later) (sym (get_longer q (omega (arith, less, low))) ∙ is_e) waits;
  }
