-- What an entry with ops makes of its region.
use Rattle.std.proofs.Common.{◌≡◌, ◌∙◌, refl, sym, ap, subst, ℕ, suc, ◌<◌, ℤ, true, false, true≢false, cond, not, List, [], ◌∷◌, ◌++◌, slice_get, map, filter, Option, Some, None, arith}
use Rattle.std.specs.Prelude.{◌==◌}
use Rattle.std.proofs.lemmas.List.{append-nil}
use Rattle.std.proofs.lemmas.List.Elements.{filter-append, All-filter}
use Rattle.std.specs.List.{All}
use Rattle.column_block.specs.declared.cell.Version.{Version}
use Rattle.column_block.specs.declared.column.Column.{Column}
use Rattle.flash_types.specs.Ranges.{holds}
use Rattle.flash_types.specs.declared.range.HandleRange.{HandleRange}
use Rattle.log_codec.specs.declared.entry.Body.{Body}
use Rattle.log_codec.specs.declared.entry.Body.TheVariants as body
use Rattle.log_codec.specs.declared.entry.Entry.{Entry}
use Rattle.log_codec.specs.declared.entry.Op.{Op}
use Rattle.committed_log.specs.Admission.{ops_fault, ops_fault_from, own_fault, state_of, is_live, is_unborn}
use Rattle.committed_log.specs.Lawful.{IsLawful}
use Rattle.committed_log.specs.Log.{Log, at}
use Rattle.committed_log.specs.Regions.{region, range_of, regions_step, live_after, born_after}
use Rattle.committed_log.specs.Repeats.{repeats, repeats_among, repeats_in}
use Rattle.committed_log.specs.Store.{Store, after_ops, families_after, cleared}
use Rattle.committed_log.specs.declared.op.FamilyOp.{FamilyOp}
use Rattle.committed_log.specs.declared.region.Descriptor.{Descriptor}
use Rattle.committed_log.specs.declared.region.Region.{Region}
use Rattle.committed_log.specs.declared.region.Region.TheVariants.{Unborn, Live, Prepared, Gone}
use Rattle.committed_log.specs.declared.store.Commit.{Commit}
use Rattle.committed_log.specs.declared.store.Lock.{Lock}
use Rattle.committed_log.specs.declared.unlawful.Unlawful.TheVariants as unlawful
use Rattle.committed_log.proofs.Entries.{at_next, head_next, ops_next}
use Rattle.committed_log.proofs.Faults.{unless_ok, is_unborn_is}
use Rattle.committed_log.proofs.Ranks.{region_here}
use Rattle.committed_log.proofs.Sorted.{sorted_at, sorted_families}
use Rattle.good_replica.specs.Effect.{added}
use Rattle.good_replica.proofs.Commits.{from_at}
use Rattle.raft_apply.specs.Entries.{changes}
use Rattle.region_state.specs.Folding.{after_all, store_of, version_of}
use Rattle.region_state.specs.State.{State, values_in, locks_in, born}
use Rattle.region_steps.specs.Steps.{has, region_in, part_of, IsFold}
use Rattle.region_steps.proofs.All.{whole_part, whole_lies}
use Rattle.region_steps.proofs.Ops.{IsPart, placed}

-- ---- the commits of an entry

drop_earlier : (p : ℕ) (cs : List Commit) → All (λ (c : Commit). c.position < p) cs → filter (λ (c : Commit). c.position == p) cs ≡ []
drop_earlier p [] all = refl
drop_earlier p (c ∷ cs) all =
    let rest = drop_earlier p cs (λ i d less. all (suc i) d (omega (arith, less))) in
    (λ i. cond (other c.position (all 0 c (omega arith)) i) (c ∷ rest i) (rest i))
  where
    other : (k : ℕ) → k < p → (k == p) ≡ false
    other k e = grind (arith, e)

keep_placed : (p : ℕ) (cs : List Commit) → filter (λ (c : Commit). c.position == p) (map (placed p) cs) ≡ map (placed p) cs
keep_placed p [] = refl
keep_placed p (c ∷ cs) = let rest = keep_placed p cs in (λ i. cond (same p i) (placed p c ∷ rest i) (rest i))
  where
    same : (k : ℕ) → (k == k) ≡ true
    same k = grind arith

versions_placed : (schema : List Column) (p : ℕ) (cs : List Commit) → map (version_of schema) (map (placed p) cs) ≡ map (version_of schema) cs
versions_placed schema p [] = refl
versions_placed schema p (c ∷ cs) = ap (λ (vs : List Version). version_of schema c ∷ vs) (versions_placed schema p cs)

pub added_placed : (log : Log) (p : ℕ) (before cs : List Commit) → All (λ (c : Commit). c.position < p) before → (at log (suc p)).commits ≡ before ++ map (placed p) cs → map (version_of log.schema) cs ≡ added log p
added_placed log p before cs early are =
    sym (ap (map (version_of log.schema)) (ap (filter (λ (c : Commit). c.position == p)) are ∙ filter-append (λ (c : Commit). c.position == p) before (map (placed p) cs)
    ∙ (λ i. drop_earlier p before early i ++ keep_placed p cs i)) ∙ versions_placed log.schema p cs)

-- ---- an entry with ops, of a region that was t, after the store s

module _ (log : Log) (p : ℕ) (e : Entry) (t : State) (s : Store) (ops : List Op)
    (none : ops_fault_from log.table log.schema t.descriptor.range p s 0 ops ≡ None)
    (repeated : (k : ℕ) → repeats log p k ≡ repeats_among log.table t.descriptor.range p s ops k)
    (part : IsPart t.descriptor.range p s.commits s (store_of t))
    (early : All (λ (c : Commit). c.position < p) s.commits)
    (alone : t.target ≡ None)
    (live : region (at log (suc p)).regions e.region ≡ Live (record t.descriptor { index = e.index }))
    (values : (at log (suc p)).values ≡ (after_ops log.table t.descriptor.range p s ops).values)
    (locks : (at log (suc p)).locks ≡ (after_ops log.table t.descriptor.range p s ops).locks)
    (commits : (at log (suc p)).commits ≡ (after_ops log.table t.descriptor.range p s ops).commits) where
  abbrev made : List FamilyOp
  made = changes log p ops

  whole : IsPart t.descriptor.range p s.commits (after_ops log.table t.descriptor.range p s ops) (after_all (store_of t) made)
  whole = whole_part log p t.descriptor.range s ops none repeated s.commits (store_of t) part

  abbrev indexed : Descriptor
  indexed = record t.descriptor { index = e.index }

  pub is_fold : IsFold log p e t made
  is_fold = record {
    within = whole_lies log p t.descriptor.range s ops none repeated;
    state = ap (region_in (at log (suc p))) live ∙ (λ i. Some (record {
      descriptor = indexed;
      target = sym alone i;
      values = (ap (values_in t.descriptor.range) values ∙ whole.values) i;
      locks = (ap (locks_in t.descriptor.range) locks ∙ whole.locks) i;
    }));
    versions = added_placed log p s.commits (after_all (store_of t) made).commits early (commits ∙ whole.commits);
  }

-- ---- a Write

pub live_state : (s : Store) (R : Region) (t : State) → is_live R ≡ true → region_in s R ≡ Some t → (d : Descriptor) × (R ≡ Live d) × (part_of s d None ≡ t)
live_state s Unborn t live is = absurd (true≢false (sym live))
live_state s (Live d) t live is = (d, refl, some_is is)
  where
    some_is : Some (part_of s d None) ≡ Some t → part_of s d None ≡ t
    some_is is = cc is
live_state s (Prepared d target) t live is = absurd (true≢false (sym live))
live_state s (Gone index) t live is = absurd (true≢false (sym live))

module _ (log : Log) (lawful : IsLawful log) (p : ℕ) (e : Entry) (is : slice_get log.entries p ≡ Some e) where
  abbrev s : Store
  s = at log p

  abbrev own : Region
  own = region s.regions e.region

  -- ---- a Write

  module _ (ops : List Op) (writes : e.body ≡ body.Write ops) where
    write_live : is_live own ≡ true
    write_live = unless_ok (is_live own) (unlawful.Region e.region (state_of own)) (sym (ap (own_fault s.regions e.region) writes) ∙ (head_next log p e is lawful).own)

    module _ (d : Descriptor) (there : own ≡ Live d) where
      write_fault : ops_fault_from log.table log.schema d.range p s 0 ops ≡ None
      write_fault = sym (ap (λ (r : Region). elim (range_of r) [ None ↦ None | Some range ↦ ops_fault_from log.table log.schema range p s 0 ops ]) there)
          ∙ sym (ap (ops_fault log.table log.schema p s e.region) writes) ∙ ops_next log p e is lawful

      write_repeats : (k : ℕ) → repeats log p k ≡ repeats_among log.table d.range p s ops k
      write_repeats k = ap (λ o. elim o [ None ↦ false | Some e ↦ repeats_in log.table p s e.region e.body k ]) is
          ∙ ap (λ (b : Body). repeats_in log.table p s e.region b k) writes
          ∙ ap (λ (r : Region). elim (range_of r) [ None ↦ false | Some range ↦ repeats_among log.table range p s ops k ]) there

      write_lives : region (at log (suc p)).regions e.region ≡ Live (record d { index = e.index })
      write_lives = ap (λ (u : Store). region u.regions e.region) (at_next log p e is)
          ∙ ap (λ (r : Region). region (regions_step r e s.regions) e.region) there
          ∙ ap (λ (b : Body). region (live_after e.region d e.index b s.regions) e.region) writes
          ∙ region_here s.regions e.region (Live (record d { index = e.index }))

      write_folds : IsFold log p e (part_of s d None) (changes log p ops)
      write_folds = is_fold log p e (part_of s d None) s ops write_fault write_repeats
          (record { values = refl; locks = refl; commits = sym (append-nil s.commits); sorted = sorted_at log p })
          (from_at log p) refl write_lives
          (ap (λ (u : Store). u.values) (at_next log p e is) ∙ (λ i. (families_after log.table p (range_of (there i)) (writes i) s).values))
          (ap (λ (u : Store). u.locks) (at_next log p e is) ∙ (λ i. (families_after log.table p (range_of (there i)) (writes i) s).locks))
          (ap (λ (u : Store). u.commits) (at_next log p e is) ∙ (λ i. (families_after log.table p (range_of (there i)) (writes i) s).commits))

    pub write_is_fold : (t : State) → has log p e.region ≡ Some t → IsFold log p e t (changes log p ops)
    write_is_fold t had =
        let found = live_state s own t write_live had in
        subst (λ (t : State). IsFold log p e t (changes log p ops)) found.2 (write_folds found.0 found.1)

  -- ---- an Install

  module _ (conf_ver version : ℕ) (low : ℤ) (high : Option ℤ) (ops : List Op) (installs : e.body ≡ body.Install conf_ver version low high ops) where
    abbrev range : HandleRange
    range = record { low = low; high = high }

    abbrev new : State
    new = born range (record { conf_ver = conf_ver; version = version }) e.index

    abbrev bare : Store
    bare = cleared range s

    unborn : own ≡ Unborn
    unborn = is_unborn_is own (unless_ok (is_unborn own) (unlawful.Region e.region (state_of own)) (sym (ap (own_fault s.regions e.region) installs) ∙ (head_next log p e is lawful).own))

    install_fault : ops_fault_from log.table log.schema range p bare 0 ops ≡ None
    install_fault = sym (ap (ops_fault log.table log.schema p s e.region) installs) ∙ ops_next log p e is lawful

    install_repeats : (k : ℕ) → repeats log p k ≡ repeats_among log.table range p bare ops k
    install_repeats k = ap (λ o. elim o [ None ↦ false | Some e ↦ repeats_in log.table p s e.region e.body k ]) is ∙ ap (λ (b : Body). repeats_in log.table p s e.region b k) installs

    install_lives : region (at log (suc p)).regions e.region ≡ Live new.descriptor
    install_lives = ap (λ (u : Store). region u.regions e.region) (at_next log p e is)
        ∙ ap (λ (r : Region). region (regions_step r e s.regions) e.region) unborn
        ∙ ap (λ (b : Body). region (born_after e.region e.index b s.regions) e.region) installs
        ∙ region_here s.regions e.region (Live new.descriptor)

    none_inside : {E : Type 0} (f : E → ℤ) (es : List E) → filter (λ x. holds range (f x)) (filter (λ x. not (holds range (f x))) es) ≡ []
    none_inside f [] = refl
    none_inside f (x ∷ es) = elim (holds range (f x)) as (λ b. holds range (f x) ≡ b → filter (λ x. holds range (f x)) (cond (not b) (x ∷ filter (λ x. not (holds range (f x))) es) (filter (λ x. not (holds range (f x))) es)) ≡ []) [
      | true ↦ λ here. none_inside f es
      | false ↦ λ here. ap (λ b. cond b (x ∷ filter (λ x. holds range (f x)) (filter (λ x. not (holds range (f x))) es)) (filter (λ x. holds range (f x)) (filter (λ x. not (holds range (f x))) es))) here ∙ none_inside f es
    ] refl

    pub install_is_fold : IsFold log p e new (changes log p ops)
    install_is_fold = is_fold log p e new bare ops install_fault install_repeats
        (record {
          values = none_inside (λ (v : (ℤ × ℕ) × List ℕ). v.0.0) s.values;
          locks = none_inside (λ (l : ℤ × Lock). l.0) s.locks;
          commits = sym (append-nil bare.commits);
          sorted = sorted_families log.table p (Some range) body.Remove s (sorted_at log p);
        })
        (All-filter (λ (c : Commit). not (holds range c.handle)) (λ (c : Commit). c.position < p) s.commits (from_at log p)) refl install_lives
        (ap (λ (u : Store). u.values) (at_next log p e is) ∙ (λ i. (families_after log.table p (range_of (unborn i)) (installs i) s).values))
        (ap (λ (u : Store). u.locks) (at_next log p e is) ∙ (λ i. (families_after log.table p (range_of (unborn i)) (installs i) s).locks))
        (ap (λ (u : Store). u.commits) (at_next log p e is) ∙ (λ i. (families_after log.table p (range_of (unborn i)) (installs i) s).commits))
