-- What a fault tells: it names a region, and what it says of it is so.
use Rattle.std.proofs.Common.{◌≡◌, ◌⊎◌, inl, inr, ◌∙◌, refl, sym, ap, subst, ℕ, suc, ◌<◌, ◌≤◌, ◌-◌, Bool, true, false, true≢false, cond, ◌&&◌, ◌||◌, Option, Some, None, nat_lt, nat_le, arith, slice_get, unwrap_or, length}
use Rattle.std.specs.Option.{option_or}
use Rattle.log_codec.specs.declared.entry.Body.{Body}
use Rattle.log_codec.specs.declared.entry.Body.TheVariants as body
use Rattle.log_codec.specs.declared.entry.Entry.{Entry}
use Rattle.committed_log.specs.Applied.{applied, IsClosed, is_ready}
use Rattle.committed_log.specs.Lawful.{IsLawful}
use Rattle.committed_log.specs.Laws.{is_after, is_prepared}
use Rattle.committed_log.specs.Log.{Log}
use Rattle.committed_log.specs.Regions.{index_of, makes_region}
use Rattle.committed_log.specs.declared.region.Region.{Region}
use Rattle.region_table.specs.Applying.{apply_fault, fault_by, own_behind, source_behind, all_behind, behind, prepare_index, HasFault, IsCause}
use Rattle.region_table.specs.Counting.{has_reached}
use Rattle.region_table.specs.Table.{Table, first_out}
use Rattle.region_table.specs.declared.fault.ApplyError.{ApplyError}
use Rattle.region_table.specs.declared.fault.ApplyError.TheVariants as fault
use Rattle.region_table.proofs.Sets.{told_here}

-- ---- none is want of memory

abbrev IsNamed : Option ApplyError → Type 0
IsNamed None = Unit {0}
IsNamed (Some (fault.Done r last)) = Unit {0}
IsNamed (Some (fault.Early r last wants)) = Unit {0}
IsNamed (Some fault.Memory) = ⊥

named_or : (a b : Option ApplyError) → IsNamed a → IsNamed b → IsNamed (option_or a b)
named_or None b x y = y
named_or (Some w) b x y = x

own_named : (states : ℕ → Region) (e : Entry) → IsNamed (own_behind states e)
own_named states e = elim (makes_region e.body || is_after (index_of (states e.region)) e.index) as (λ b. IsNamed (cond b None (behind states e.region (e.index - 1)))) [ true ↦ tt | false ↦ tt ]

source_named : (states : ℕ → Region) (prepare : ℕ) (b : Body) → IsNamed (source_behind states prepare b)
source_named states prepare (body.Commit source) = elim (is_prepared (states source)) as (λ b. IsNamed (cond b None (behind states source prepare))) [ true ↦ tt | false ↦ tt ]
source_named states prepare (body.Open conf_ver version low high) = tt
source_named states prepare (body.Install conf_ver version low high ops) = tt
source_named states prepare (body.Split at child) = tt
source_named states prepare (body.Prepare target) = tt
source_named states prepare body.Remove = tt
source_named states prepare (body.Write ops) = tt
source_named states prepare body.Empty = tt

all_named : (log : Log) (states : ℕ → Region) (first p : ℕ) (e : Entry) → IsNamed (all_behind log states first p e)
all_named log states first p e = by (makes_region e.body && nat_lt first p) (slice_get log.entries first)
  where
    by : (b : Bool) (o : Option Entry) → IsNamed (cond b (elim o [ None ↦ None | Some f ↦ behind states f.region f.index ]) None)
    by true None = tt
    by true (Some f) = tt
    by false o = tt

fault_named : (log : Log) (states : ℕ → Region) (is_applied : Bool) (first prepare p : ℕ) (e : Entry) → IsNamed (fault_by log states is_applied first prepare p e)
fault_named log states true first prepare p e = tt
fault_named log states false first prepare p e = named_or (own_behind states e) (option_or (source_behind states prepare e.body) (all_behind log states first p e)) (own_named states e)
    (named_or (source_behind states prepare e.body) (all_behind log states first p e) (source_named states prepare e.body) (all_named log states first p e))

never_memory : (log : Log) (A : ℕ → Bool) (p : ℕ) (e : Entry) → apply_fault log A p e ≡ Some fault.Memory → ⊥
never_memory log A p e is = subst IsNamed is (fault_named log (applied log A) (A p) (first_out log A) (prepare_index log p e.body) p e)

pub cause_is : (log : Log) (t : Table) (p : ℕ) (e : Entry) → slice_get log.entries p ≡ Some e → (why : ApplyError) → HasFault log t p why → IsCause log t p why
cause_is log t p e here (fault.Done r last) has = has
cause_is log t p e here (fault.Early r last wants) has = has
cause_is log t p e here fault.Memory has = λ A is. absurd (never_memory log A p e (has A is e here))

-- a cause that isn't want of memory is the entry's fault
pub fault_of : (log : Log) (t : Table) (p : ℕ) (why : ApplyError) → IsCause log t p why → (why ≡ fault.Memory → ⊥) → HasFault log t p why
fault_of log t p (fault.Done r last) has other = has
fault_of log t p (fault.Early r last wants) has other = has
fault_of log t p fault.Memory has other = absurd (other refl)

-- ---- an entry that was applied

abbrev region_in : ApplyError → ℕ
region_in (fault.Done r last) = r
region_in (fault.Early r last wants) = r
region_in fault.Memory = 0

abbrev last_in : ApplyError → ℕ
last_in (fault.Done r last) = last
last_in (fault.Early r last wants) = 0
last_in fault.Memory = 0

module _ (log : Log) (lawful : IsLawful log) (A : ℕ → Bool) (closed : IsClosed log A) (p : ℕ) (e : Entry) (here : slice_get log.entries p ≡ Some e) where
  abbrev IsEarly : Option ApplyError → Type 0
  IsEarly None = Unit {0}
  IsEarly (Some (fault.Done r last)) = ⊥
  IsEarly (Some (fault.Early r last wants)) = Unit {0}
  IsEarly (Some fault.Memory) = Unit {0}

  early_or : (a b : Option ApplyError) → IsEarly a → IsEarly b → IsEarly (option_or a b)
  early_or None b x y = y
  early_or (Some w) b x y = x

  abbrev rest : Option ApplyError
  rest = option_or (own_behind (applied log A) e) (option_or (source_behind (applied log A) (prepare_index log p e.body) e.body) (all_behind log (applied log A) (first_out log A) p e))

  own_early : IsEarly (own_behind (applied log A) e)
  own_early = elim (makes_region e.body || is_after (index_of (applied log A e.region)) e.index) as (λ b. IsEarly (cond b None (behind (applied log A) e.region (e.index - 1)))) [ true ↦ tt | false ↦ tt ]

  source_early : (prepare : ℕ) (b : Body) → IsEarly (source_behind (applied log A) prepare b)
  source_early prepare (body.Commit source) = elim (is_prepared (applied log A source)) as (λ b. IsEarly (cond b None (behind (applied log A) source prepare))) [ true ↦ tt | false ↦ tt ]
  source_early prepare (body.Open conf_ver version low high) = tt
  source_early prepare (body.Install conf_ver version low high ops) = tt
  source_early prepare (body.Split at child) = tt
  source_early prepare (body.Prepare target) = tt
  source_early prepare body.Remove = tt
  source_early prepare (body.Write ops) = tt
  source_early prepare body.Empty = tt

  all_early : IsEarly (all_behind log (applied log A) (first_out log A) p e)
  all_early = by (makes_region e.body && nat_lt (first_out log A) p) (slice_get log.entries (first_out log A))
    where
      by : (b : Bool) (o : Option Entry) → IsEarly (cond b (elim o [ None ↦ None | Some f ↦ behind (applied log A) f.region f.index ]) None)
      by true None = tt
      by true (Some f) = tt
      by false o = tt

  rest_early : IsEarly rest
  rest_early = early_or (own_behind (applied log A) e) (option_or (source_behind (applied log A) (prepare_index log p e.body) e.body) (all_behind log (applied log A) (first_out log A) p e)) own_early
      (early_or (source_behind (applied log A) (prepare_index log p e.body) e.body) (all_behind log (applied log A) (first_out log A) p e) (source_early (prepare_index log p e.body) e.body) all_early)

  reached_is : (o : Option ℕ) (index : ℕ) → has_reached o index ≡ true → (last : ℕ) × ((o ≡ Some last) × (index ≤ last))
  reached_is None index reached = absurd (true≢false (sym reached))
  reached_is (Some last) index reached = (last, (refl, lower index last reached))
    where
      lower : (a b : ℕ) → nat_le a b ≡ true → a ≤ b
      lower a b e = grind arith

  abbrev IsDone : ℕ → ℕ → Type 0
  IsDone r last = (A p ≡ true) × (r ≡ e.region) × (index_of (applied log A r) ≡ Some last) × (e.index ≤ last)

  pub done_is : (r last : ℕ) → apply_fault log A p e ≡ Some (fault.Done r last) → IsDone r last
  done_is r last is = by (A p) refl
    where
      some_is : (x y : ApplyError) → Some x ≡ Some y → x ≡ y
      some_is x y same = cc same

      by : (b : Bool) → A p ≡ b → IsDone r last
      by false out = absurd (subst IsEarly (sym (ap (λ b. cond b (Some (fault.Done e.region (unwrap_or (index_of (applied log A e.region)) 0))) rest) out) ∙ is) rest_early)
      by true in_set =
          let same : fault.Done e.region (unwrap_or (index_of (applied log A e.region)) 0) ≡ fault.Done r last = some_is _ _ (sym (ap (λ b. cond b (Some (fault.Done e.region (unwrap_or (index_of (applied log A e.region)) 0))) rest) in_set) ∙ is) in
          let own : e.region ≡ r = ap region_in same in
          let index : unwrap_or (index_of (applied log A e.region)) 0 ≡ last = ap last_in same in
          let reached = reached_is (index_of (applied log A e.region)) e.index (sym (told_here log lawful A closed p e here) ∙ in_set) in
          let high : reached.0 ≡ last = sym (ap (λ o. unwrap_or o 0) reached.1.0) ∙ index in (
            in_set,
            sym own,
            sym (ap (λ x. index_of (applied log A x)) own) ∙ reached.1.0 ∙ ap Some high,
            subst (λ x. e.index ≤ x) high reached.1.1,
          )
