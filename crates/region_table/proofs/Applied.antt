-- A table at a set of applied entries becomes, by a ready entry, that at the set with it.
use Rattle.std.proofs.Common.{◌≡◌, ◌∙◌, refl, sym, ap, subst, ℕ, ◌+◌, ◌<◌, ◌^◌, Bool, true, false, true≢false, Some, None, slice_get, arith, nat_lt}
use Rattle.std.specs.Prelude.{◌==◌}
use Rattle.std.specs.List.{list_any, list_all}
use Rattle.log_codec.specs.declared.entry.Body.{Body}
use Rattle.log_codec.specs.declared.entry.Body.TheVariants as body
use Rattle.log_codec.specs.declared.entry.Entry.{Entry}
use Rattle.committed_log.specs.declared.region.Descriptor.{Descriptor}
use Rattle.committed_log.specs.declared.region.Region.{Region}
use Rattle.committed_log.specs.declared.region.Region.TheVariants.{Unborn, Live, Prepared, Gone}
use Rattle.committed_log.specs.Applied.{acts_at, applied, IsClosed, is_ready, with_position}
use Rattle.committed_log.specs.Lawful.{IsLawful}
use Rattle.committed_log.specs.Laws.{AreBelow}
use Rattle.committed_log.specs.Log.{Log, at}
use Rattle.committed_log.specs.Owned.{IsFilled}
use Rattle.committed_log.specs.Regions.{region, acts_on, also_acted, makes_region}
use Rattle.committed_log.proofs.Bounds.{below_at}
use Rattle.committed_log.proofs.Closed.{same_is}
use Rattle.committed_log.proofs.Entries.{head_next}
use Rattle.committed_log.proofs.Faults.{IsFine, or_first, or_second}
use Rattle.committed_log.proofs.Filled.{filled_at}
use Rattle.committed_log.proofs.Ranks.{of_live, of_unborn, no_entry}
use Rattle.raft_apply.specs.Entries.{command_of, changes}
use Rattle.region_state.specs.Folding.{lies_in}
use Rattle.region_table.specs.Steps.{Keeps, kept_after, CanBeDone, CanRise, CanSplit, CanMerge, IfThere}
use Rattle.region_table.specs.Table.{kept_at}
use Rattle.region_table.proofs.Around.{state_from, kept_from, kept_of, kept_before, kept_then, kept_still}
use Rattle.region_table.proofs.Commands.{apart, source_is, source_apart, source_touches, new, within, done_at}
use Rattle.region_table.proofs.Families.{written, installed}
use Rattle.region_table.proofs.Locals.{is_acted, local, elsewhere}

module _ (log : Log) (lawful : IsLawful log) (A : ℕ → Bool) (closed : IsClosed log A) (p : ℕ) (e : Entry) (here : slice_get log.entries p ≡ Some e) (ready : is_ready log A p ≡ true)
    (f : Keeps) (keeps : (r : ℕ) → f r ≡ kept_at log r (applied log A r)) where
  acts_is : (q : ℕ) → acts_at log q p ≡ is_acted e.region e.body q
  acts_is q = ap (λ o. elim o [ None ↦ false | Some e ↦ acts_on q e ]) here

  before : (q : ℕ) → is_acted e.region e.body q ≡ true → f q ≡ kept_of (at log p) q
  before q acts = keeps q ∙ kept_before log lawful q A closed p ready (acts_is q ∙ acts)

  pub after : (q : ℕ) → kept_after f e.region e.index (command_of log p e.body) q ≡ kept_at log q (applied log (with_position A p) q)
  after q = by (is_acted e.region e.body q) refl
    where
      by : (b : Bool) → is_acted e.region e.body q ≡ b → kept_after f e.region e.index (command_of log p e.body) q ≡ kept_at log q (applied log (with_position A p) q)
      by true acts = local log p e.region e.index f (kept_of (at log p)) e.body before q acts ∙ done_at log lawful p e here q acts ∙ sym (kept_then log lawful q A closed p ready (acts_is q ∙ acts))
      by false out = elsewhere log p e.region e.index f e.body q out ∙ keeps q ∙ sym (kept_still log lawful q A closed p ready (acts_is q ∙ out))

  -- ---- it can be done

  fine : IsFine p (at log p).regions e
  fine = head_next log p e here lawful

  own_acts : is_acted e.region e.body e.region ≡ true
  own_acts = or_first (e.region == e.region) (list_any (λ acted. acted == e.region) (also_acted e.body)) (same_is e.region)

  pub own : (st : Region) → region (at log p).regions e.region ≡ st → f e.region ≡ kept_from (at log p) st
  own st is = before e.region own_acts ∙ ap (kept_from (at log p)) is

  rises : (d : Descriptor) (r : ℕ) → AreBelow (2 ^ 63) (2 ^ 62 + p) (Live d) → CanRise d.epoch
  rises d r below = let low = few p fine.count in record { conf_ver = (let b = below.1.conf_ver in omega (arith, b, low)); version = (let b = below.1.version in omega (arith, b, low)) }
    where
      few : (p : ℕ) → nat_lt p (2 ^ 20) ≡ true → p < 2 ^ 20
      few p e = grind arith

  can_live : (d : Descriptor) → region (at log p).regions e.region ≡ Live d → (b : Body) → e.body ≡ b → makes_region b ≡ false → CanBeDone f e.region (command_of log p b)
  can_live d live (body.Open conf_ver version low high) is m = absurd (true≢false m)
  can_live d live (body.Install conf_ver version low high ops) is m = absurd (true≢false m)
  can_live d live (body.Write ops) is m = subst (λ o. IfThere o (λ s. list_all (lies_in s.descriptor.range) (changes log p ops) ≡ true)) (sym (own (Live d) live)) (written log lawful p e here d live ops is).0
  can_live d live (body.Split middle child) is m = (
    apart log lawful p e here d live middle child is,
    before child (acts_child is) ∙ ap (kept_from (at log p)) (new log lawful p e here d live middle child is),
    subst (λ o. IfThere o (λ s. CanSplit s middle)) (sym (own (Live d) live)) (record { above = (within log lawful p e here d live middle child is).0; inside = (within log lawful p e here d live middle child is).1; rises = rises d e.region (subst (AreBelow (2 ^ 63) (2 ^ 62 + p)) live (below_at log lawful p e.region)) }),
  )
    where
      acts_child : e.body ≡ body.Split middle child → is_acted e.region e.body child ≡ true
      acts_child is = or_second (e.region == child) (list_any (λ acted. acted == child) (also_acted e.body)) (ap (λ b. list_any (λ acted. acted == child) (also_acted b)) is ∙ or_first (child == child) false (same_is child))
  can_live d live (body.Prepare target) is m = subst (λ o. IfThere o (λ s. CanRise s.descriptor.epoch)) (sym (own (Live d) live)) (rises d e.region (subst (AreBelow (2 ^ 63) (2 ^ 62 + p)) live (below_at log lawful p e.region)))
  can_live d live (body.Commit source) is m = (
    source_apart log lawful p e here d live source is,
    subst (λ o. IfThere o (λ s. IfThere (f source) (λ other. CanMerge s other))) (sym (own (Live d) live)) (subst (λ o. IfThere o (λ other. CanMerge (state_from (at log p) d None) other)) (sym (before source (acts_source is) ∙ ap (kept_from (at log p)) there.1.1)) (record {
      touch = source_touches log lawful p e here d live source is;
      filled = subst IsFilled live (filled_at log lawful p e.region);
      other_filled = subst IsFilled there.1.1 (filled_at log lawful p source);
      rises = rises d e.region (subst (AreBelow (2 ^ 63) (2 ^ 62 + p)) live (below_at log lawful p e.region));
      other_rises = rises there.0 source (subst (AreBelow (2 ^ 63) (2 ^ 62 + p)) there.1.1 (below_at log lawful p source));
    })),
  )
    where
      there : (c : Descriptor) × ((target : ℕ) × (region (at log p).regions source ≡ Prepared c target))
      there = source_is log lawful p e here d live source is

      acts_source : e.body ≡ body.Commit source → is_acted e.region e.body source ≡ true
      acts_source is = or_second (e.region == source) (list_any (λ acted. acted == source) (also_acted e.body)) (ap (λ b. list_any (λ acted. acted == source) (also_acted b)) is ∙ or_first (source == source) false (same_is source))
  can_live d live body.Remove is m = tt
  can_live d live body.Empty is m = tt

  can_born : (b : Body) → e.body ≡ b → makes_region b ≡ true → CanBeDone f e.region (command_of log p b)
  can_born (body.Open conf_ver version low high) is m = tt
  can_born (body.Install conf_ver version low high ops) is m = (installed log lawful p e here conf_ver version low high ops is).0
  can_born (body.Write ops) is m = absurd (true≢false (sym m))
  can_born (body.Split middle child) is m = absurd (true≢false (sym m))
  can_born (body.Prepare target) is m = absurd (true≢false (sym m))
  can_born (body.Commit source) is m = absurd (true≢false (sym m))
  can_born body.Remove is m = absurd (true≢false (sym m))
  can_born body.Empty is m = absurd (true≢false (sym m))

  pub can : CanBeDone f e.region (command_of log p e.body)
  can = by (region (at log p).regions e.region) refl
    where
      by : (st : Region) → region (at log p).regions e.region ≡ st → CanBeDone f e.region (command_of log p e.body)
      by Unborn is = can_born e.body refl (of_unborn p (at log p).regions e fine is)
      by (Live d) is = can_live d is e.body refl (of_live p (at log p).regions e fine d is)
      by (Prepared d target) is = absurd (no_entry p (at log p).regions e fine (Prepared d target) is refl refl)
      by (Gone last) is = absurd (no_entry p (at log p).regions e fine (Gone last) is refl refl)
