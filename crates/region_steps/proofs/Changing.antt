-- What an entry without ops makes of the regions.
use Rattle.std.proofs.Common.{◌≡◌, ◌≢◌, ◌∙◌, refl, sym, ap, ℕ, suc, ◌<◌, ℤ, Bool, true, false, true≢false, cond, not, ◌&&◌, List, [], ◌∷◌, slice_get, filter, Option, Some, None, int_lt, int_le, arith}
use Rattle.std.proofs.lemmas.Int.{ints}
use Rattle.std.proofs.lemmas.List.{append-nil}
use Rattle.std.proofs.lemmas.List.Elements.{All-filter}
use Rattle.std.specs.List.{All}
use Rattle.flash_types.specs.Ranges.{holds, is_below}
use Rattle.flash_types.specs.declared.range.HandleRange.{HandleRange}
use Rattle.log_codec.specs.declared.entry.Body.{Body}
use Rattle.log_codec.specs.declared.entry.Body.TheVariants as body
use Rattle.log_codec.specs.declared.entry.Entry.{Entry}
use Rattle.committed_log.specs.Admission.{own_fault, other_fault, range_fault, birth_fault, unless, state_of, is_live, is_unborn}
use Rattle.committed_log.specs.Applied.{acts_at}
use Rattle.committed_log.specs.Lawful.{IsLawful}
use Rattle.committed_log.specs.Log.{Log, at}
use Rattle.committed_log.specs.Owned.{only, IsBare}
use Rattle.committed_log.specs.Regions.{region, range_of, regions_after, regions_step, live_after, born_after, with_region, lower_part, upper_part, raised}
use Rattle.committed_log.specs.Store.{Store, families_after}
use Rattle.committed_log.specs.declared.region.Descriptor.{Descriptor}
use Rattle.committed_log.specs.declared.region.Region.{Region}
use Rattle.committed_log.specs.declared.region.Region.TheVariants.{Unborn, Live, Prepared, Gone}
use Rattle.committed_log.specs.declared.store.Commit.{Commit}
use Rattle.committed_log.specs.declared.store.Lock.{Lock}
use Rattle.committed_log.specs.declared.unlawful.Unlawful.TheVariants as unlawful
use Rattle.committed_log.proofs.Acting.{left_alone}
use Rattle.committed_log.proofs.Entries.{at_next, head_next}
use Rattle.committed_log.proofs.Faults.{unless_ok, is_unborn_is, both_true}
use Rattle.committed_log.proofs.Local.{same_within}
use Rattle.committed_log.proofs.Lying.{lies_at, bare_born}
use Rattle.committed_log.proofs.Ranks.{region_here, region_there}
use Rattle.committed_log.proofs.Within.{filter-filter}
use Rattle.good_replica.specs.Effect.{added}
use Rattle.good_replica.proofs.Commits.{from_at}
use Rattle.region_state.specs.Folding.{folded}
use Rattle.region_state.specs.State.{State, values_in, locks_in, born, prepared, lower_of, upper_of}
use Rattle.region_steps.specs.Steps.{has, region_in, part_of, HasNoOps}
use Rattle.region_steps.proofs.Folding.{live_state, added_placed}

-- ---- parts of a range

below_at : (at h : ℤ) (high : Option ℤ) → is_below at high ≡ true → int_lt h at ≡ true → is_below h high ≡ true
below_at at h None inside less = refl
below_at at h (Some high) inside less = grind (arith, ints)

module _ (range : HandleRange) (at : ℤ) (above : int_lt range.low at ≡ true) (inside : holds range at ≡ true) where
  in_lower : (h : ℤ) → holds (record { low = range.low; high = Some at }) h ≡ true → holds range h ≡ true
  in_lower h here =
      let parts = both_true (int_le range.low h) (int_lt h at) here in
      let below = below_at at h range.high (both_true (int_le range.low at) (is_below at range.high) inside).1 parts.1 in
      (λ i. parts.0 i && below i)

  from_at_on : (h : ℤ) → int_le at h ≡ true → int_le range.low h ≡ true
  from_at_on h here = grind (arith, ints)

  in_upper : (h : ℤ) → holds (record { low = at; high = range.high }) h ≡ true → holds range h ≡ true
  in_upper h here =
      let parts = both_true (int_le at h) (is_below h range.high) here in
      (λ i. from_at_on h parts.0 i && parts.1 i)

part_of_part : (s : Store) (range part : HandleRange) → ((h : ℤ) → holds part h ≡ true → holds range h ≡ true) → values_in part s.values ≡ values_in part (values_in range s.values)
part_of_part s range part inside = sym (filter-filter (λ (e : (ℤ × ℕ) × List ℕ). holds part e.0.0) (λ e. holds range e.0.0) (λ e. inside e.0.0) s.values)

locks_of_part : (s : Store) (range part : HandleRange) → ((h : ℤ) → holds part h ≡ true → holds range h ≡ true) → locks_in part s.locks ≡ locks_in part (locks_in range s.locks)
locks_of_part s range part inside = sym (filter-filter (λ (e : ℤ × Lock). holds part e.0) (λ e. holds range e.0) (λ e. inside e.0) s.locks)

-- ---- entries

module _ (log : Log) (lawful : IsLawful log) (p : ℕ) (e : Entry) (is : slice_get log.entries p ≡ Some e) where
  abbrev s : Store
  s = at log p

  abbrev own : Region
  own = region s.regions e.region

  -- the regions after the entry of a live region with this body
  pub live_next : (d : Descriptor) → own ≡ Live d → (b : Body) → e.body ≡ b → (q : ℕ) → region (at log (suc p)).regions q ≡ region (live_after e.region d e.index b s.regions) q
  live_next d there b same q = ap (λ (u : Store). region u.regions q) (at_next log p e is)
      ∙ ap (λ (r : Region). region (regions_step r e s.regions) q) there
      ∙ ap (λ (b : Body). region (live_after e.region d e.index b s.regions) q) same

  module _ (t : State) (had : has log p e.region ≡ Some t) where
    -- what the log has of a region that becomes live, where the families stay
    becomes : (live : is_live own ≡ true) (b : Body) → e.body ≡ b → (made : Descriptor → Descriptor)
        → ((d : Descriptor) → own ≡ Live d → region (at log (suc p)).regions e.region ≡ Live (made d))
        → ((d : Descriptor) → own ≡ Live d → families_after log.table p (Some d.range) b s ≡ s)
        → (d : Descriptor) × (part_of s d None ≡ t) × (has log (suc p) e.region ≡ Some (part_of s (made d) None))
    becomes live b same made next stays =
        let found = live_state s own t live had in
        let after = at_next log p e is ∙ (λ i. record (families_after log.table p (range_of (found.1 i)) (same i) s) { regions = regions_after s.regions e }) in (
          found.0,
          found.2,
          ap (region_in (at log (suc p))) (next found.0 found.1)
              ∙ ap (λ (u : Store). Some (part_of u (made found.0) None)) after ∙ ap (λ (u : Store). Some (part_of u (made found.0) None)) (stays found.0 found.1),
        )

  -- ---- a Split

  module _ (middle : ℤ) (child : ℕ) (splits : e.body ≡ body.Split middle child) (t : State) (had : has log p e.region ≡ Some t) where
    split_live : is_live own ≡ true
    split_live = unless_ok (is_live own) (unlawful.Region e.region (state_of own)) (sym (ap (own_fault s.regions e.region) splits) ∙ (head_next log p e is lawful).own)

    child_unborn : region s.regions child ≡ Unborn
    child_unborn = is_unborn_is (region s.regions child) (unless_ok (is_unborn (region s.regions child)) (unlawful.Region child (state_of (region s.regions child))) (sym (ap (other_fault s.regions e.region) splits) ∙ (head_next log p e is lawful).other))

    found : (d : Descriptor) × (own ≡ Live d) × (part_of s d None ≡ t)
    found = live_state s own t split_live had

    abbrev d : Descriptor
    d = found.0

    child_other : child ≢ e.region
    child_other same = cc (sym (sym child_unborn ∙ ap (region s.regions) same ∙ found.1))

    fits : (int_lt d.range.low middle && holds d.range middle) ≡ true
    fits = unless_ok (int_lt d.range.low middle && holds d.range middle) (unlawful.Range middle)
        (sym (ap (λ (r : Region). elim (range_of r) [ None ↦ None | Some range ↦ unless (int_lt range.low middle && holds range middle) (unlawful.Range middle) ]) found.1) ∙ sym (ap (range_fault s.regions e.region) splits) ∙ (head_next log p e is lawful).range)

    above : int_lt d.range.low middle ≡ true
    above = (both_true (int_lt d.range.low middle) (holds d.range middle) fits).0

    inside : holds d.range middle ≡ true
    inside = (both_true (int_lt d.range.low middle) (holds d.range middle) fits).1

    split_stays : at log (suc p) ≡ record s { regions = regions_after s.regions e }
    split_stays = at_next log p e is ∙ (λ i. record (families_after log.table p (range_of (found.1 i)) (splits i) s) { regions = regions_after s.regions e })

    lower_has : has log (suc p) e.region ≡ Some (part_of s (lower_part d middle e.index) None)
    lower_has = ap (region_in (at log (suc p))) (live_next d found.1 (body.Split middle child) splits e.region ∙ region_here (with_region child (Live (upper_part d middle)) s.regions) e.region (Live (lower_part d middle e.index)))
        ∙ ap (λ (u : Store). Some (part_of u (lower_part d middle e.index) None)) split_stays

    upper_has : has log (suc p) child ≡ Some (part_of s (upper_part d middle) None)
    upper_has = ap (region_in (at log (suc p))) (live_next d found.1 (body.Split middle child) splits child ∙ region_there (with_region child (Live (upper_part d middle)) s.regions) e.region (Live (lower_part d middle e.index)) child child_other ∙ region_here s.regions child (Live (upper_part d middle)))
        ∙ ap (λ (u : Store). Some (part_of u (upper_part d middle) None)) split_stays

    lower_is : part_of s (lower_part d middle e.index) None ≡ lower_of (part_of s d None) middle e.index
    lower_is = λ i. record {
      descriptor = lower_part d middle e.index;
      target = None;
      values = part_of_part s d.range (lower_part d middle e.index).range (in_lower d.range middle above inside) i;
      locks = locks_of_part s d.range (lower_part d middle e.index).range (in_lower d.range middle above inside) i;
    }

    upper_is : part_of s (upper_part d middle) None ≡ upper_of (part_of s d None) middle
    upper_is = λ i. record {
      descriptor = upper_part d middle;
      target = None;
      values = part_of_part s d.range (upper_part d middle).range (in_upper d.range middle above inside) i;
      locks = locks_of_part s d.range (upper_part d middle).range (in_upper d.range middle above inside) i;
    }

    pub split_lower : has log (suc p) e.region ≡ Some (lower_of t middle e.index)
    split_lower = lower_has ∙ ap Some lower_is ∙ ap (λ (t : State). Some (lower_of t middle e.index)) found.2

    pub split_upper : has log (suc p) child ≡ Some (upper_of t middle)
    split_upper = upper_has ∙ ap Some upper_is ∙ ap (λ (t : State). Some (upper_of t middle)) found.2

  -- ---- a Prepare

  module _ (target : ℕ) (prepares : e.body ≡ body.Prepare target) (t : State) (had : has log p e.region ≡ Some t) where
    prepare_live : is_live own ≡ true
    prepare_live = unless_ok (is_live own) (unlawful.Region e.region (state_of own)) (sym (ap (own_fault s.regions e.region) prepares) ∙ (head_next log p e is lawful).own)

    pub prepare_has : has log (suc p) e.region ≡ Some (prepared t target e.index)
    prepare_has =
        let found = live_state s own t prepare_live had in
        let d : Descriptor = found.0 in
        let next : Descriptor = record { range = d.range; epoch = raised d.epoch 1 1; index = e.index } in
        let stays : at log (suc p) ≡ record s { regions = regions_after s.regions e } = at_next log p e is ∙ (λ i. record (families_after log.table p (range_of (found.1 i)) (prepares i) s) { regions = regions_after s.regions e }) in
        ap (region_in (at log (suc p))) (live_next d found.1 (body.Prepare target) prepares e.region ∙ region_here s.regions e.region (Prepared next target))
        ∙ ap (λ (u : Store). Some (part_of u next (Some target))) stays ∙ ap (λ (t : State). Some (prepared t target e.index)) found.2

  -- ---- a Remove

  module _ (removes : e.body ≡ body.Remove) where
    remove_live : is_live own ≡ true
    remove_live = unless_ok (is_live own) (unlawful.Region e.region (state_of own)) (sym (ap (own_fault s.regions e.region) removes) ∙ (head_next log p e is lawful).own)

    gone : (r : Region) → own ≡ r → is_live r ≡ true → region (at log (suc p)).regions e.region ≡ Gone e.index
    gone Unborn there live = absurd (true≢false (sym live))
    gone (Live d) there live = live_next d there body.Remove removes e.region ∙ region_here s.regions e.region (Gone e.index)
    gone (Prepared d target) there live = absurd (true≢false (sym live))
    gone (Gone index) there live = absurd (true≢false (sym live))

    pub remove_has : has log (suc p) e.region ≡ None
    remove_has = ap (region_in (at log (suc p))) (gone own refl remove_live)

  -- ---- an Empty

  module _ (empties : e.body ≡ body.Empty) (t : State) (had : has log p e.region ≡ Some t) where
    empty_live : is_live own ≡ true
    empty_live = unless_ok (is_live own) (unlawful.Region e.region (state_of own)) (sym (ap (own_fault s.regions e.region) empties) ∙ (head_next log p e is lawful).own)

    pub empty_has : has log (suc p) e.region ≡ Some (folded t e.index [])
    empty_has =
        let found = live_state s own t empty_live had in
        let d : Descriptor = found.0 in
        let next : Descriptor = record d { index = e.index } in
        let stays : at log (suc p) ≡ record s { regions = regions_after s.regions e } = at_next log p e is ∙ (λ i. record (families_after log.table p (range_of (found.1 i)) (empties i) s) { regions = regions_after s.regions e }) in
        ap (region_in (at log (suc p))) (live_next d found.1 body.Empty empties e.region ∙ region_here s.regions e.region (Live next))
        ∙ ap (λ (u : Store). Some (part_of u next None)) stays ∙ ap (λ (t : State). Some (folded t e.index [])) found.2

  -- ---- an Open

  only_holds : (h : ℤ) → holds (only h) h ≡ true
  only_holds h = grind (arith, ints)

  nothing_there : {E : Type 0} (f : E → ℤ) (range : HandleRange) (es : List E) → ((h : ℤ) → holds range h ≡ true → filter (λ x. holds (only h) (f x)) es ≡ []) → filter (λ x. holds range (f x)) es ≡ []
  nothing_there f range [] none = refl
  nothing_there {E} f range (x ∷ es) none = by (nothing_there f range es) (holds range (f x)) refl
    where
      rest_none : (h : ℤ) (b : Bool) → cond b (x ∷ filter (λ x. holds (only h) (f x)) es) (filter (λ x. holds (only h) (f x)) es) ≡ [] → filter (λ x. holds (only h) (f x)) es ≡ []
      rest_none h true all = cc all
      rest_none h false all = all

      by : (((h : ℤ) → holds range h ≡ true → filter (λ x. holds (only h) (f x)) es ≡ []) → filter (λ x. holds range (f x)) es ≡ []) → (b : Bool) → holds range (f x) ≡ b → cond b (x ∷ filter (λ x. holds range (f x)) es) (filter (λ x. holds range (f x)) es) ≡ []
      by later true here = cc (sym (ap (λ b. cond b (x ∷ filter (λ y. holds (only (f x)) (f y)) es) (filter (λ y. holds (only (f x)) (f y)) es)) (only_holds (f x))) ∙ none (f x) here)
      by later false here = later (λ h inside. rest_none h (holds (only h) (f x)) (none h inside))

  module _ (conf_ver version : ℕ) (low : ℤ) (high : Option ℤ) (opens : e.body ≡ body.Open conf_ver version low high) where
    abbrev range : HandleRange
    range = record { low = low; high = high }

    abbrev new : State
    new = born range (record { conf_ver = conf_ver; version = version }) e.index

    open_unborn : own ≡ Unborn
    open_unborn = is_unborn_is own (unless_ok (is_unborn own) (unlawful.Region e.region (state_of own)) (sym (ap (own_fault s.regions e.region) opens) ∙ (head_next log p e is lawful).own))

    open_free : birth_fault s.regions range ≡ None
    open_free = sym (ap (range_fault s.regions e.region) opens) ∙ (head_next log p e is lawful).range

    bare : (h : ℤ) → holds range h ≡ true → IsBare h s
    bare = bare_born s (lies_at log lawful p) range open_free

    open_stays : at log (suc p) ≡ record s { regions = regions_after s.regions e }
    open_stays = at_next log p e is ∙ (λ i. record (families_after log.table p (range_of (open_unborn i)) (opens i) s) { regions = regions_after s.regions e })

    open_live : region (at log (suc p)).regions e.region ≡ Live new.descriptor
    open_live = ap (λ (u : Store). region u.regions e.region) (at_next log p e is)
        ∙ ap (λ (r : Region). region (regions_step r e s.regions) e.region) open_unborn
        ∙ ap (λ (b : Body). region (born_after e.region e.index b s.regions) e.region) opens
        ∙ region_here s.regions e.region (Live new.descriptor)

    pub open_has : has log (suc p) e.region ≡ Some new
    open_has = ap (region_in (at log (suc p))) open_live ∙ ap (λ (u : Store). Some (part_of u new.descriptor None)) open_stays ∙ (λ i. Some (record {
      descriptor = new.descriptor;
      target = None;
      values = nothing_there (λ (v : (ℤ × ℕ) × List ℕ). v.0.0) range s.values (λ h inside. sym (bare h inside).values) i;
      locks = nothing_there (λ (l : ℤ × Lock). l.0) range s.locks (λ h inside. sym (bare h inside).locks) i;
    }))

-- ---- the others

module _ (log : Log) (lawful : IsLawful log) (p r : ℕ) (apart : acts_at log r p ≡ false) where
  other_part : (R : Region) → region (at log p).regions r ≡ R → region_in (at log (suc p)) R ≡ region_in (at log p) R
  other_part Unborn is = refl
  other_part (Live d) is = let same = same_within log lawful p r d.range (ap range_of is) apart in (λ i. Some (record { descriptor = d; target = None; values = sym same.values i; locks = sym same.locks i }))
  other_part (Prepared d target) is = let same = same_within log lawful p r d.range (ap range_of is) apart in (λ i. Some (record { descriptor = d; target = Some target; values = sym same.values i; locks = sym same.locks i }))
  other_part (Gone index) is = refl

  pub other_stays : has log (suc p) r ≡ has log p r
  other_stays = ap (region_in (at log (suc p))) (left_alone log r p apart) ∙ other_part (region (at log p).regions r) refl

-- ---- what is added

pub early_left : (table : ℤ) (p : ℕ) (there : Option HandleRange) (b : Body) (s : Store) → HasNoOps b → All (λ (c : Commit). c.position < p) s.commits → (before : List Commit) × (All (λ (c : Commit). c.position < p) before) × ((families_after table p there b s).commits ≡ before)
early_left table p None (body.Open conf_ver version low high) s none early = (s.commits, early, refl)
early_left table p None (body.Split middle child) s none early = (s.commits, early, refl)
early_left table p None (body.Prepare target) s none early = (s.commits, early, refl)
early_left table p None (body.Commit source) s none early = (s.commits, early, refl)
early_left table p None body.Empty s none early = (s.commits, early, refl)
early_left table p None body.Remove s none early = (s.commits, early, refl)
early_left table p None (body.Write ops) s none early = absurd none
early_left table p None (body.Install conf_ver version low high ops) s none early = absurd none
early_left table p (Some range) (body.Open conf_ver version low high) s none early = (s.commits, early, refl)
early_left table p (Some range) (body.Split middle child) s none early = (s.commits, early, refl)
early_left table p (Some range) (body.Prepare target) s none early = (s.commits, early, refl)
early_left table p (Some range) (body.Commit source) s none early = (s.commits, early, refl)
early_left table p (Some range) body.Empty s none early = (s.commits, early, refl)
early_left table p (Some range) body.Remove s none early = (filter (λ (c : Commit). not (holds range c.handle)) s.commits, All-filter (λ (c : Commit). not (holds range c.handle)) (λ (c : Commit). c.position < p) s.commits early, refl)
early_left table p (Some range) (body.Write ops) s none early = absurd none
early_left table p (Some range) (body.Install conf_ver version low high ops) s none early = absurd none

pub nothing_added : (log : Log) (p : ℕ) (e : Entry) → slice_get log.entries p ≡ Some e → HasNoOps e.body → added log p ≡ []
nothing_added log p e is none =
    let left = early_left log.table p (range_of (region (at log p).regions e.region)) e.body (at log p) none (from_at log p) in
    sym (added_placed log p left.0 [] left.1 (ap (λ (u : Store). u.commits) (at_next log p e is) ∙ left.2 ∙ sym (append-nil left.0)))
