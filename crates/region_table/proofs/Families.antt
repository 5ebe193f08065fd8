-- The families of regions that are born, written and installed.
use Rattle.std.proofs.Common.{◌≡◌, ◌≢◌, refl, sym, ap, subst, ℕ, suc, ℤ, Bool, true, false, ◌||◌, List, [], Option, Some, None, slice_get}
use Rattle.flash_types.specs.Ranges.{holds}
use Rattle.flash_types.specs.declared.range.HandleRange.{HandleRange}
use Rattle.log_codec.specs.declared.entry.Body.TheVariants as body
use Rattle.log_codec.specs.declared.entry.Entry.{Entry}
use Rattle.log_codec.specs.declared.entry.Op.{Op}
use Rattle.committed_log.specs.declared.region.Descriptor.{Descriptor}
use Rattle.committed_log.specs.declared.region.Region.TheVariants.{Unborn, Live, Prepared, Gone}
use Rattle.committed_log.specs.Admission.{birth_fault}
use Rattle.committed_log.specs.Lawful.{IsLawful}
use Rattle.committed_log.specs.Log.{Log, at}
use Rattle.committed_log.specs.Regions.{region}
use Rattle.committed_log.specs.Store.{Store}
use Rattle.raft_apply.specs.Entries.{changes}
use Rattle.std.specs.List.{list_all}
use Rattle.region_file.specs.declared.entry.Entry.TheVariants as kept
use Rattle.region_state.specs.Folding.{folded, lies_in, versions_of}
use Rattle.good_replica.specs.Effect.{added}
use Rattle.region_state.specs.State.{State, values_in, locks_in, born}
use Rattle.committed_log.specs.declared.store.Lock.{Lock}
use Rattle.committed_log.proofs.Lying.{bare_born, lies_at}
use Rattle.region_table.proofs.Around.{state_from, kept_from, kept_of}
use Rattle.committed_log.specs.declared.region.Region.{Region}
use Rattle.region_steps.specs.Steps.{IsFold, part_of, region_in}
use Rattle.region_steps.proofs.Folding.{write_is_fold, install_is_fold}
use Rattle.region_steps.proofs.Unions.{none_in}

-- a region that a store has is kept
kept_has : (s : Store) (r : Region) (t : State) → region_in s r ≡ Some t → kept_from s r ≡ Some (kept.There t)
kept_has s Unborn t is = absurd (cc is)
kept_has s (Live d) t is = (let same : part_of s d None ≡ t = cc is in ap (λ x. Some (kept.There x)) same)
kept_has s (Prepared d target) t is = (let same : part_of s d (Some target) ≡ t = cc is in ap (λ x. Some (kept.There x)) same)
kept_has s (Gone index) t is = absurd (cc is)

module _ (log : Log) (lawful : IsLawful log) (p : ℕ) where
  -- where a region is to be born the families have nothing
  pub bare_range : (range : HandleRange) → birth_fault (at log p).regions range ≡ None → (values_in range (at log p).values ≡ []) × (locks_in range (at log p).locks ≡ [])
  bare_range range fine = (
    none_in (λ (x : (ℤ × ℕ) × List ℕ). x.0.0) range (at log p).values (λ h inside. sym (bare_born (at log p) (lies_at log lawful p) range fine h inside).values),
    none_in (λ (x : ℤ × Lock). x.0) range (at log p).locks (λ h inside. sym (bare_born (at log p) (lies_at log lawful p) range fine h inside).locks),
  )

  module _ (e : Entry) (here : slice_get log.entries p ≡ Some e) where
    -- an entry with ops makes of its region the fold of its changes, which lie in its range
    pub written : (d : Descriptor) → region (at log p).regions e.region ≡ Live d → (ops : List Op) → e.body ≡ body.Write ops →
        (list_all (lies_in d.range) (changes log p ops) ≡ true) × (kept_of (at log (suc p)) e.region ≡ Some (kept.There (folded (state_from (at log p) d None) e.index (changes log p ops)))) × (versions_of log.schema (state_from (at log p) d None) (changes log p ops) ≡ added log p)
    written d live ops is =
        let fold : IsFold log p e (part_of (at log p) d None) (changes log p ops) = write_is_fold log lawful p e here ops is (part_of (at log p) d None) (ap (region_in (at log p)) live) in
        (fold.within, kept_has (at log (suc p)) (region (at log (suc p)).regions e.region) _ fold.state, fold.versions)

    pub installed : (conf_ver version : ℕ) (low : ℤ) (high : Option ℤ) (ops : List Op) → e.body ≡ body.Install conf_ver version low high ops →
        (list_all (lies_in (record { low = low; high = high })) (changes log p ops) ≡ true)
        × (kept_of (at log (suc p)) e.region ≡ Some (kept.There (folded (born (record { low = low; high = high }) (record { conf_ver = conf_ver; version = version }) e.index) e.index (changes log p ops))))
        × (versions_of log.schema (born (record { low = low; high = high }) (record { conf_ver = conf_ver; version = version }) e.index) (changes log p ops) ≡ added log p)
    installed conf_ver version low high ops is =
        let range : HandleRange = record { low = low; high = high } in
        let fold : IsFold log p e (born range (record { conf_ver = conf_ver; version = version }) e.index) (changes log p ops) = install_is_fold log lawful p e here conf_ver version low high ops is in
        (fold.within, kept_has (at log (suc p)) (region (at log (suc p)).regions e.region) _ fold.state, fold.versions)
