-- Edits that put some segments in the place of a run.
use Rattle.std.proofs.Common.{◌≡◌, ◌≢◌, ◌⊎◌, inl, inr, ℕ, ℤ, ◌<◌, ◌≤◌, Bool, true, false, eqb, ltb, List, [], ◌∷◌, ◌++◌, Some, None, refl, sym, ap, subst, ◌∙◌, arith}
use Rattle.std.specs.Prelude.{◌&&◌, not, cond, int_lt, if◌then◌else◌}
use Rattle.std.specs.List.{list_all}
use Rattle.manifest_form.specs.declared.state.StoredSegment.{StoredSegment}
use Rattle.manifest_form.specs.declared.state.State.{State}
use Rattle.manifest_form.specs.declared.state.Edit.{Edit}
use Rattle.manifest_form.specs.declared.state.Edit.TheVariants.{Next, Segment, Drop, High, SafePoint, Regions, Count}
use Rattle.flash_types.specs.Ranges.{least_handle}
use Rattle.manifest_form.specs.States.{placed, without, done, all_done, cover_from, name_below, file_below, segment_below, all_below, is_formed}
use Rattle.manifest_form.specs.Whole.{HasNone, IdsDiffer}
use Rattle.manifest_form.proofs.Differ.{all_done_differ}
use Rattle.manifest_laws.specs.Changes.{put_by, ids_of, IsOther, PutOnce, TouchNone, HasId, EachFree, EachGoes, EachBelow, Runs, TakesOver}
use Rattle.manifest_laws.specs.Laws.{HasRun, TakeTheRun}
use Rattle.manifest_laws.proofs.Facts.{and_both, both_and, lt_true, true_lt, name_more, segments_more, all_parts, all_join}
use Rattle.manifest_laws.proofs.Placing.{Sorted, rising_sorted, placed_sorted, without_sorted, out, put_all, out_placed, out_parts, out_none, out_all, HasNoneOf, put_between}
use Rattle.manifest_laws.proofs.Running.{cover_runs, runs_cover, runs_parts, runs_join, run_rises, rising_parts, under_parts}

-- ---- edits in order are: all ids out, and then all that is put

pub edits_done : (s : State) (edits : List Edit) → PutOnce edits → Sorted s.segments → (all_done s edits).segments ≡ put_all (put_by edits) (out (ids_of edits) s.segments)
edits_done s [] once o = refl
edits_done s (Next file ∷ edits) once o = edits_done (done s (Next file)) edits once o
edits_done s (Segment x ∷ edits) once o =
    let less = without x.id s.segments in
    let less_sorted = without_sorted x.id s.segments o in
    edits_done (done s (Segment x)) edits once.1 (placed_sorted x less less_sorted) ∙ ap (put_all (put_by edits)) (out_placed (ids_of edits) x less once.0 less_sorted)
edits_done s (Drop id ∷ edits) once o = edits_done (done s (Drop id)) edits once (without_sorted id s.segments o)
edits_done s (High entries chain ∷ edits) once o = edits_done (done s (High entries chain)) edits once o
edits_done s (SafePoint ts ∷ edits) once o = edits_done (done s (SafePoint ts)) edits once o
edits_done s (Regions file ∷ edits) once o = edits_done (done s (Regions file)) edits once o
edits_done s (Count entries ∷ edits) once o = edits_done (done s (Count entries)) edits once o

-- ---- the ids of others

pub none_parts : (id : ℕ) (xs ys : List StoredSegment) → HasNone id (xs ++ ys) → HasNone id xs × HasNone id ys
none_parts id [] ys none = (tt, none)
none_parts id (x ∷ xs) ys none = let p = none_parts id xs ys none.1 in ((none.0, p.0), p.1)

pub differ_behind : (xs ys : List StoredSegment) → IdsDiffer (xs ++ ys) → IdsDiffer ys
differ_behind [] ys differ = differ
differ_behind (x ∷ xs) ys differ = differ_behind xs ys differ.1

not_in : (id : ℕ) (s : StoredSegment) (xs : List StoredSegment) → HasId id xs → HasNone s.id xs → s.id ≢ id
not_in id s [] has none = absurd has
not_in id s (x ∷ xs) (inl same) none = λ is. none.0 (same ∙ sym is)
not_in id s (x ∷ xs) (inr has) none = not_in id s xs has none.1

none_before : (id : ℕ) (before olds after : List StoredSegment) → HasId id olds → IdsDiffer (before ++ (olds ++ after)) → HasNone id before
none_before id [] olds after has differ = tt
none_before id (x ∷ before) olds after has differ =
    (not_in id x olds has (none_parts x.id olds after (none_parts x.id before (olds ++ after) differ.0).1).0, none_before id before olds after has differ.1)

none_same : (a b : ℕ) (xs : List StoredSegment) → a ≡ b → HasNone a xs → HasNone b xs
none_same a b xs same none = subst (λ n. HasNone n xs) same none

none_after : (id : ℕ) (olds after : List StoredSegment) → HasId id olds → IdsDiffer (olds ++ after) → HasNone id after
none_after id [] after has differ = absurd has
none_after id (x ∷ olds) after (inl same) differ = none_same x.id id after same (none_parts x.id olds after differ.0).1
none_after id (x ∷ olds) after (inr has) differ = none_after id olds after has differ.1

other_id : (a next id : ℕ) → next ≤ id → ltb a next ≡ true → a ≢ id
other_id a next id le lt is = absurd (omega (arith, le, true_lt a next lt, is))

none_above : (next id : ℕ) (xs : List StoredSegment) → next ≤ id → list_all (segment_below next) xs ≡ true → HasNone id xs
none_above next id [] le below = tt
none_above next id (x ∷ xs) le below =
    let b = and_both (segment_below next x) (list_all (segment_below next) xs) below in
    let c = and_both (ltb x.id next) (name_below next x.stable && list_all (file_below next) x.delta) b.0 in
    (other_id x.id next id le c.0, none_above next id xs le b.1)

module _ (before olds after : List StoredSegment) (differ : IdsDiffer (before ++ (olds ++ after))) where
  one_free : (id : ℕ) → HasId id olds ⊎ HasNone id (before ++ (olds ++ after)) → HasNone id before × HasNone id after
  one_free id (inl has) = (none_before id before olds after has differ, none_after id olds after has (differ_behind before (olds ++ after) differ))
  one_free id (inr none) =
      let p = none_parts id before (olds ++ after) none in
      (p.0, (none_parts id olds after p.1).1)

  all_free : (ids : List ℕ) → EachFree (before ++ (olds ++ after)) olds ids → HasNoneOf ids before × HasNoneOf ids after
  all_free [] free = (tt, tt)
  all_free (id ∷ ids) free =
      let one = one_free id free.0 in
      let rest = all_free ids free.1 in
      ((one.0, rest.0), (one.1, rest.1))

-- ---- a formed state

pub record IsFormed (file : ℕ) (s : State) : Type 0 where
  pub own : file < s.next
  pub regions : name_below s.next s.regions ≡ true
  pub segments : list_all (segment_below s.next) s.segments ≡ true
  pub runs : Runs (Some least_handle) s.segments None

pub formed_parts : (file : ℕ) (s : State) → is_formed file s ≡ true → IsFormed file s
formed_parts file s h =
    let a = and_both (all_below s.next file s) (cover_from (Some least_handle) s.segments) h in
    let b = and_both (ltb file s.next) (name_below s.next s.regions && list_all (segment_below s.next) s.segments) a.0 in
    let c = and_both (name_below s.next s.regions) (list_all (segment_below s.next) s.segments) b.1 in
    record { own = true_lt file s.next b.0; regions = c.0; segments = c.1; runs = cover_runs (Some least_handle) s.segments a.1 }

pub parts_formed : (file : ℕ) (s : State) → IsFormed file s → is_formed file s ≡ true
parts_formed file s f =
    both_and (all_below s.next file s) (cover_from (Some least_handle) s.segments)
    (both_and (ltb file s.next) (name_below s.next s.regions && list_all (segment_below s.next) s.segments) (lt_true file s.next f.own)
    (both_and (name_below s.next s.regions) (list_all (segment_below s.next) s.segments) f.regions f.segments))
    (runs_cover (Some least_handle) s.segments f.runs)

-- an id from Next on is no segment's
pub none_given : (file : ℕ) (s : State) (id : ℕ) → is_formed file s ≡ true → s.next ≤ id → HasNone id s.segments
none_given file s id h le = none_above s.next id s.segments le (formed_parts file s h).segments

-- ---- the segments

runs_over : (low : ℤ) (before olds after news : List StoredSegment) → TakesOver olds news → Runs (Some low) (before ++ (olds ++ after)) None → Runs (Some low) (before ++ (news ++ after)) None
runs_over low before olds after news over r =
    let one = runs_parts (Some low) None before (olds ++ after) r in
    let two = runs_parts one.0 None olds after one.2 in
    runs_join (Some low) one.0 None before (news ++ after) one.1 (runs_join one.0 two.0 None news after (over one.0 two.0 two.1) two.2)

put_in_run : (low : ℤ) (before news after : List StoredSegment) → Runs (Some low) (before ++ (news ++ after)) None → put_all news (before ++ after) ≡ before ++ (news ++ after)
put_in_run low before news after r =
    let p = rising_parts before (news ++ after) (run_rises (Some low) None (before ++ (news ++ after)) r) in
    let q = rising_parts news after p.second in
    put_between before news after (under_parts before news after p.under) q.first q.under

out_run : (ids : List ℕ) (before olds after : List StoredSegment) → HasNoneOf ids before → HasNoneOf ids after → EachGoes ids olds → out ids (before ++ (olds ++ after)) ≡ before ++ after
out_run ids before olds after none none' goes =
    out_parts ids before (olds ++ after) ∙ (λ i. out_none ids before none i ++ (out_parts ids olds after ∙ (λ j. out_all ids olds goes j ++ out_none ids after none' j)) i)

module _ (file : ℕ) (s : State) (before olds after : List StoredSegment) (edits : List Edit) (h : HasRun file s before olds after) (once : PutOnce edits) (free : EachFree s.segments olds (ids_of edits)) (gone : EachGoes (ids_of edits) olds) where
  old : IsFormed file s
  old = formed_parts file s h.formed

  -- all that is put stands among the others
  pub put_done : (all_done s edits).segments ≡ put_all (put_by edits) (before ++ after)
  put_done =
      let free' = all_free before olds after (subst IdsDiffer h.stands h.differ) (ids_of edits) (subst (λ (l : List StoredSegment). EachFree l olds (ids_of edits)) h.stands free) in
      let sorted = rising_sorted s.segments (run_rises (Some least_handle) None s.segments old.runs) in
      edits_done s edits once sorted
      ∙ ap (λ (l : List StoredSegment). put_all (put_by edits) (out (ids_of edits) l)) h.stands
      ∙ ap (put_all (put_by edits)) (out_run (ids_of edits) before olds after free'.0 free'.1 gone)

  pub new_runs : (news : List StoredSegment) → TakesOver olds news → Runs (Some least_handle) (before ++ (news ++ after)) None
  new_runs news over = runs_over least_handle before olds after news over (subst (λ (l : List StoredSegment). Runs (Some least_handle) l None) h.stands old.runs)

  pub old_below : (next : ℕ) → s.next ≤ next → (list_all (segment_below next) before ≡ true) × (list_all (segment_below next) after ≡ true)
  old_below next risen =
      let below : list_all (segment_below s.next) (before ++ (olds ++ after)) ≡ true = subst (λ (l : List StoredSegment). list_all (segment_below s.next) l ≡ true) h.stands old.segments in
      let all = all_parts (segment_below next) before (olds ++ after) (segments_more s.next next (before ++ (olds ++ after)) risen below) in
      (all.0, (all_parts (segment_below next) olds after all.1).1)

-- ---- the numbers

pub put_below : (next : ℕ) (edits : List Edit) → EachBelow next edits → list_all (segment_below next) (put_by edits) ≡ true
put_below next [] below = refl
put_below next (Next file ∷ edits) below = put_below next edits below.1
put_below next (Segment x ∷ edits) below = both_and (segment_below next x) (list_all (segment_below next) (put_by edits)) below.0 (put_below next edits below.1)
put_below next (Drop id ∷ edits) below = put_below next edits below.1
put_below next (High entries chain ∷ edits) below = put_below next edits below.1
put_below next (SafePoint ts ∷ edits) below = put_below next edits below.1
put_below next (Regions file ∷ edits) below = put_below next edits below.1
put_below next (Count entries ∷ edits) below = put_below next edits below.1

regions_below : (next : ℕ) (s : State) (edits : List Edit) → name_below next s.regions ≡ true → EachBelow next edits → name_below next (all_done s edits).regions ≡ true
regions_below next s [] is below = is
regions_below next s (Next file ∷ edits) is below = regions_below next (done s (Next file)) edits is below.1
regions_below next s (Segment x ∷ edits) is below = regions_below next (done s (Segment x)) edits is below.1
regions_below next s (Drop id ∷ edits) is below = regions_below next (done s (Drop id)) edits is below.1
regions_below next s (High entries chain ∷ edits) is below = regions_below next (done s (High entries chain)) edits is below.1
regions_below next s (SafePoint ts ∷ edits) is below = regions_below next (done s (SafePoint ts)) edits is below.1
regions_below next s (Regions file ∷ edits) is below = regions_below next (done s (Regions file)) edits (lt_true file next below.0) below.1
regions_below next s (Count entries ∷ edits) is below = regions_below next (done s (Count entries)) edits is below.1

-- the form of a state with other segments, that run and have small numbers
pub formed_by : (file : ℕ) (s : State) (edits : List Edit) (segments : List StoredSegment) → is_formed file s ≡ true → s.next ≤ (all_done s edits).next → EachBelow (all_done s edits).next edits
    → (all_done s edits).segments ≡ segments → list_all (segment_below (all_done s edits).next) segments ≡ true → Runs (Some least_handle) segments None → is_formed file (all_done s edits) ≡ true
formed_by file s edits segments formed risen below is small runs =
    let now = all_done s edits in
    let f = formed_parts file s formed in
    parts_formed file now (record {
      own = omega (arith, f.own, risen);
      regions = regions_below now.next s edits (name_more s.next now.next s.regions risen f.regions) below;
      segments = subst (λ (l : List StoredSegment). list_all (segment_below now.next) l ≡ true) (sym is) small;
      runs = subst (λ (l : List StoredSegment). Runs (Some least_handle) l None) (sym is) runs;
    })

-- ---- puts in order

module _ (file : ℕ) (s : State) (before olds after : List StoredSegment) (edits : List Edit) (h : HasRun file s before olds after) (t : TakeTheRun s olds edits) where
  runs : Runs (Some least_handle) (before ++ (put_by edits ++ after)) None
  runs = new_runs file s before olds after edits h t.once t.free t.gone (put_by edits) t.over

  pub run_taken : (all_done s edits).segments ≡ before ++ (put_by edits ++ after)
  run_taken = put_done file s before olds after edits h t.once t.free t.gone ∙ put_in_run least_handle before (put_by edits) after runs

  pub run_formed : s.next ≤ (all_done s edits).next → EachBelow (all_done s edits).next edits → is_formed file (all_done s edits) ≡ true
  run_formed risen below =
      let next = (all_done s edits).next in
      let b = old_below file s before olds after edits h t.once t.free t.gone next risen in
      let small = all_join (segment_below next) before (put_by edits ++ after) b.0 (all_join (segment_below next) (put_by edits) after (put_below next edits below) b.1) in
      formed_by file s edits (before ++ (put_by edits ++ after)) h.formed risen below run_taken small runs

  -- the next run of the state then
  pub run_goes_on : s.next ≤ (all_done s edits).next → EachBelow (all_done s edits).next edits → (front others back : List StoredSegment) → before ++ (put_by edits ++ after) ≡ front ++ (others ++ back) → HasRun file (all_done s edits) front others back
  run_goes_on risen below front others back same = record { stands = run_taken ∙ same; formed = run_formed risen below; differ = all_done_differ s edits h.differ }

-- ---- an id that edits don't name

none_without : (id other : ℕ) (xs : List StoredSegment) → HasNone id xs → HasNone id (without other xs)
none_without id other [] none = tt
none_without id other (x ∷ xs) none = by (not (eqb x.id other)) (none_without id other xs none.1)
  where
    by : (b : Bool) → HasNone id (without other xs) → HasNone id (cond b (x ∷ without other xs) (without other xs))
    by true m = (none.0, m)
    by false m = m

none_placed : (id : ℕ) (s : StoredSegment) (xs : List StoredSegment) → s.id ≢ id → HasNone id xs → HasNone id (placed s xs)
none_placed id s [] other none = (other, tt)
none_placed id s (x ∷ xs) other none = by (int_lt s.range.low x.range.low) (none_placed id s xs other none.1)
  where
    by : (b : Bool) → HasNone id (placed s xs) → HasNone id (if b then s ∷ x ∷ xs else x ∷ placed s xs)
    by true m = (other, none)
    by false m = (none.0, m)

pub stays_free : (s : State) (edits : List Edit) (id : ℕ) → HasNone id s.segments → IsOther id (ids_of edits) → HasNone id (all_done s edits).segments
stays_free s [] id none other = none
stays_free s (Next file ∷ edits) id none other = stays_free (done s (Next file)) edits id none other
stays_free s (Segment x ∷ edits) id none other = stays_free (done s (Segment x)) edits id (none_placed id x (without x.id s.segments) (λ is. other.0 (sym is)) (none_without id x.id s.segments none)) other.1
stays_free s (Drop gone ∷ edits) id none other = stays_free (done s (Drop gone)) edits id (none_without id gone s.segments none) other.1
stays_free s (High entries chain ∷ edits) id none other = stays_free (done s (High entries chain)) edits id none other
stays_free s (SafePoint ts ∷ edits) id none other = stays_free (done s (SafePoint ts)) edits id none other
stays_free s (Regions file ∷ edits) id none other = stays_free (done s (Regions file)) edits id none other
stays_free s (Count entries ∷ edits) id none other = stays_free (done s (Count entries)) edits id none other

-- ---- edits that touch no segment

pub none_touched : (s : State) (edits : List Edit) → TouchNone edits → (all_done s edits).segments ≡ s.segments
none_touched s [] none = refl
none_touched s (Next file ∷ edits) none = none_touched (done s (Next file)) edits none
none_touched s (Segment x ∷ edits) none = absurd none
none_touched s (Drop id ∷ edits) none = absurd none
none_touched s (High entries chain ∷ edits) none = none_touched (done s (High entries chain)) edits none
none_touched s (SafePoint ts ∷ edits) none = none_touched (done s (SafePoint ts)) edits none
none_touched s (Regions file ∷ edits) none = none_touched (done s (Regions file)) edits none
none_touched s (Count entries ∷ edits) none = none_touched (done s (Count entries)) edits none

pub none_formed : (file : ℕ) (s : State) (edits : List Edit) → TouchNone edits → is_formed file s ≡ true → s.next ≤ (all_done s edits).next → EachBelow (all_done s edits).next edits → is_formed file (all_done s edits) ≡ true
none_formed file s edits none formed risen below =
    let f = formed_parts file s formed in
    formed_by file s edits s.segments formed risen below (none_touched s edits none) (segments_more s.next (all_done s edits).next s.segments risen f.segments) f.runs

with_true : (a b : Bool) → b ≡ true → (a && b) ≡ a
with_true true b h = h
with_true false b h = refl

-- only the numbers count then
pub none_told : (file : ℕ) (s : State) (edits : List Edit) → TouchNone edits → is_formed file s ≡ true → is_formed file (all_done s edits) ≡ all_below (all_done s edits).next file (all_done s edits)
none_told file s edits none formed =
    let now = all_done s edits in
    let runs : Runs (Some least_handle) now.segments None = subst (λ (l : List StoredSegment). Runs (Some least_handle) l None) (sym (none_touched s edits none)) (formed_parts file s formed).runs in
    with_true (all_below now.next file now) (cover_from (Some least_handle) now.segments) (runs_cover (Some least_handle) now.segments runs)

-- ---- edits in two parts

pub done_parts : (s : State) (edits more : List Edit) → all_done s (edits ++ more) ≡ all_done (all_done s edits) more
done_parts s [] more = refl
done_parts s (edit ∷ edits) more = done_parts (done s edit) edits more
