-- A table of the regions at a closed set goes on by the entry alone: so applying an entry needs no log.
use Rattle.std.proofs.Common.{◌≡◌, ◌∙◌, refl, sym, ap, ℕ, Bool, true, false, cond, List, Some, None, nat_eq, slice_get}
use Rattle.std.specs.Prelude.{◌==◌}
use Rattle.std.specs.List.{list_any}
use Rattle.log_codec.specs.declared.entry.Entry.{Entry}
use Rattle.log_codec.specs.declared.entry.Body.{Body}
use Rattle.log_codec.specs.declared.entry.Body.TheVariants as body
use Rattle.committed_log.specs.declared.region.Descriptor.{Descriptor}
use Rattle.committed_log.specs.Applied.{acts_at, applied, IsClosed, is_ready, with_position}
use Rattle.committed_log.specs.Lawful.{IsLawful}
use Rattle.committed_log.specs.Log.{Log, at}
use Rattle.committed_log.specs.Regions.{Region, Unborn, Live, Prepared, Gone, region, acts_on, also_acted, with_region, regions_step, regions_after, live_after, born_after, after_merge, merged}
use Rattle.committed_log.proofs.Acting.{not_acted}
use Rattle.committed_log.proofs.Closed.{same_is}
use Rattle.committed_log.proofs.Disjoint.{region-with_region}
use Rattle.committed_log.proofs.Entries.{regions_next}
use Rattle.committed_log.proofs.Faults.{or_first, or_second}
use Rattle.committed_log.proofs.Ready.{applied_before, applied_after, applied_other}

-- two tables that agree on the regions that an entry acts on agree on these after it
module _ (T R : List (ℕ × Region)) (q : ℕ) where
  put_same : (k : ℕ) (s : Region) (ts rs : List (ℕ × Region)) → region ts q ≡ region rs q → region (with_region k s ts) q ≡ region (with_region k s rs) q
  put_same k s ts rs same = region-with_region ts k s q ∙ ap (cond (nat_eq q k) s) same ∙ sym (region-with_region rs k s q)

  module _ (r i : ℕ) (same : region T q ≡ region R q) where
    born_same : (b : Body) → region (born_after r i b T) q ≡ region (born_after r i b R) q
    born_same (body.Open conf_ver version low high) = put_same r _ T R same
    born_same (body.Install conf_ver version low high ops) = put_same r _ T R same
    born_same (body.Split middle child) = same
    born_same (body.Prepare target) = same
    born_same (body.Commit source) = same
    born_same body.Remove = same
    born_same (body.Write ops) = same
    born_same body.Empty = same

    merge_same : (d : Descriptor) (source : ℕ) (s : Region) → region (after_merge r d i source s T) q ≡ region (after_merge r d i source s R) q
    merge_same d source Unborn = same
    merge_same d source (Live c) = same
    merge_same d source (Gone last) = same
    merge_same d source (Prepared c target) = put_same source (Gone c.index) (with_region r (Live (merged d c i)) T) (with_region r (Live (merged d c i)) R) (put_same r (Live (merged d c i)) T R same)

    live_same : (d : Descriptor) (b : Body) → ((source : ℕ) → b ≡ body.Commit source → region T source ≡ region R source) → region (live_after r d i b T) q ≡ region (live_after r d i b R) q
    live_same d (body.Split middle child) sources = put_same r _ _ _ (put_same child _ T R same)
    live_same d (body.Commit source) sources = ap (λ s. region (after_merge r d i source s T) q) (sources source refl) ∙ merge_same d source (region R source)
    live_same d (body.Prepare target) sources = put_same r _ T R same
    live_same d body.Remove sources = put_same r _ T R same
    live_same d (body.Write ops) sources = put_same r _ T R same
    live_same d body.Empty sources = put_same r _ T R same
    live_same d (body.Open conf_ver version low high) sources = put_same r _ T R same
    live_same d (body.Install conf_ver version low high ops) sources = put_same r _ T R same

pub after_same : (T R : List (ℕ × Region)) (e : Entry) → ((q : ℕ) → acts_on q e ≡ true → region T q ≡ region R q) → (q : ℕ) → acts_on q e ≡ true → region (regions_after T e) q ≡ region (regions_after R e) q
after_same T R e same q acts = ap (λ s. region (regions_step s e T) q) own ∙ by (region R e.region)
  where
    own : region T e.region ≡ region R e.region
    own = same e.region (or_first (e.region == e.region) (list_any (λ acted. acted == e.region) (also_acted e.body)) (same_is e.region))

    sources : (source : ℕ) → e.body ≡ body.Commit source → region T source ≡ region R source
    sources source is = same source (or_second (e.region == source) (list_any (λ acted. acted == source) (also_acted e.body)) (ap (λ b. list_any (λ acted. acted == source) (also_acted b)) is ∙ or_first (source == source) false (same_is source)))

    by : (s : Region) → region (regions_step s e T) q ≡ region (regions_step s e R) q
    by Unborn = born_same T R q e.region e.index (same q acts) e.body
    by (Live d) = live_same T R q e.region e.index (same q acts) d e.body sources
    by (Prepared d target) = same q acts
    by (Gone last) = same q acts

-- the regions after a ready entry come from those at the set
pub table_after : (log : Log) → IsLawful log → (A : ℕ → Bool) → IsClosed log A → (p : ℕ) (e : Entry) → slice_get log.entries p ≡ Some e → is_ready log A p ≡ true → (table : List (ℕ × Region)) → ((r : ℕ) → region table r ≡ applied log A r) → (r : ℕ) → region (regions_after table e) r ≡ applied log (with_position A p) r
table_after log lawful A closed p e here ready table agrees r = by (acts_on r e) refl
  where
    acts_p : (q : ℕ) (b : Bool) → acts_on q e ≡ b → acts_at log q p ≡ b
    acts_p q b is = ap (λ o. elim o [ None ↦ false | Some e ↦ acts_on q e ]) here ∙ is

    before : (q : ℕ) → acts_on q e ≡ true → region table q ≡ region (at log p).regions q
    before q acts = agrees q ∙ applied_before log A p lawful closed ready q (acts_p q true acts)

    by : (b : Bool) → acts_on r e ≡ b → region (regions_after table e) r ≡ applied log (with_position A p) r
    by false out = not_acted table e r out ∙ agrees r ∙ sym (applied_other log A p lawful closed ready r (acts_p r false out))
    by true acts = after_same table (at log p).regions e before r acts ∙ sym (ap (λ regions. region regions r) (regions_next log p e here)) ∙ sym (applied_after log A p lawful closed ready r (acts_p r true acts))
