-- Ids differ in every state that edits made.
use Rattle.std.proofs.Common.{◌≡◌, ◌≢◌, ℕ, zero, suc, ◌-◌, Bool, true, false, eqb, List, [], ◌∷◌, length, Option, Some, None, Result, Ok, Err, refl, sym, subst}
use Rattle.std.specs.Prelude.{not, cond, int_lt, if◌then◌else◌, ◌&&◌}
use Rattle.std.specs.List.{list_any}
use Rattle.std.proofs.lemmas.Bool.{eqb-false}
use Rattle.manifest_form.specs.declared.fault.Fault.{Fault}
use Rattle.manifest_form.specs.declared.fault.Fault.TheVariants.{At}
use Rattle.manifest_form.specs.declared.state.StoredSegment.{StoredSegment}
use Rattle.manifest_form.specs.declared.state.State.{State}
use Rattle.manifest_form.specs.declared.state.Edit.{Edit}
use Rattle.manifest_form.specs.declared.state.Edit.TheVariants.{Next, Segment, Drop, High, SafePoint, Regions, Count}
use Rattle.manifest_form.specs.Fields.{here}
use Rattle.manifest_form.specs.Edits.{edits_of}
use Rattle.manifest_form.specs.States.{placed, without, done, all_done, nothing, is_high, is_safe_point, is_formed, changed, formed, after_record}
use Rattle.manifest_form.specs.Walk.{record_at, walk, walk_on, manifest_step, state_of}
use Rattle.manifest_form.specs.Whole.{HasNone, IdsDiffer}
use Rattle.manifest_form.proofs.Fronts.{bind_ok, ok_same}

-- ---- a segment taken out

other_id : (a b : ℕ) → not (eqb a b) ≡ true → a ≢ b
other_id a b h = eqb-false a b (cases (eqb a b) h)
  where
    cases : (t : Bool) → not t ≡ true → t ≡ false
    cases true h = absurd (cc h)
    cases false h = refl

none_kept : (id : ℕ) (s : StoredSegment) (rest : List StoredSegment) (b : Bool) → (b ≡ true → s.id ≢ id) → HasNone id rest → HasNone id (cond b (s ∷ rest) rest)
none_kept id s rest true other none = (other refl, none)
none_kept id s rest false other none = none

pub without_none : (id : ℕ) (segments : List StoredSegment) → HasNone id (without id segments)
without_none id [] = tt
without_none id (s ∷ rest) = none_kept id s (without id rest) (not (eqb s.id id)) (other_id s.id id) (without_none id rest)

none_without : (id other : ℕ) (segments : List StoredSegment) → HasNone other segments → HasNone other (without id segments)
none_without id other [] none = tt
none_without id other (s ∷ rest) none = none_kept other s (without id rest) (not (eqb s.id id)) (λ is. none.0) (none_without id other rest none.1)

differ_kept : (s : StoredSegment) (rest : List StoredSegment) (b : Bool) → HasNone s.id rest → IdsDiffer rest → IdsDiffer (cond b (s ∷ rest) rest)
differ_kept s rest true none differ = (none, differ)
differ_kept s rest false none differ = differ

without_differ : (id : ℕ) (segments : List StoredSegment) → IdsDiffer segments → IdsDiffer (without id segments)
without_differ id [] differ = tt
without_differ id (s ∷ rest) differ = differ_kept s (without id rest) (not (eqb s.id id)) (none_without id s.id rest differ.0) (without_differ id rest differ.1)

-- ---- a segment put in its place

none_here : (id : ℕ) (s first : StoredSegment) (rest others : List StoredSegment) (b : Bool) → s.id ≢ id → first.id ≢ id → HasNone id rest → HasNone id others → HasNone id (if b then s ∷ first ∷ rest else first ∷ others)
none_here id s first rest others true one two none none' = (one, (two, none))
none_here id s first rest others false one two none none' = (two, none')

none_placed : (id : ℕ) (s : StoredSegment) (segments : List StoredSegment) → s.id ≢ id → HasNone id segments → HasNone id (placed s segments)
none_placed id s [] other none = (other, tt)
none_placed id s (first ∷ rest) other none = none_here id s first rest (placed s rest) (int_lt s.range.low first.range.low) other none.0 none.1 (none_placed id s rest other none.1)

differ_here : (s first : StoredSegment) (rest others : List StoredSegment) (b : Bool) → IdsDiffer (s ∷ first ∷ rest) → IdsDiffer (first ∷ others) → IdsDiffer (if b then s ∷ first ∷ rest else first ∷ others)
differ_here s first rest others true one two = one
differ_here s first rest others false one two = two

placed_differ : (s : StoredSegment) (segments : List StoredSegment) → HasNone s.id segments → IdsDiffer segments → IdsDiffer (placed s segments)
placed_differ s [] none differ = (tt, tt)
placed_differ s (first ∷ rest) none differ =
    differ_here s first rest (placed s rest) (int_lt s.range.low first.range.low) (none, differ) (none_placed first.id s rest (λ is. none.0 (sym is)) differ.0, placed_differ s rest none.1 differ.1)

-- ---- edits

done_differ : (s : State) (edit : Edit) → IdsDiffer s.segments → IdsDiffer (done s edit).segments
done_differ s (Next file) differ = differ
done_differ s (Segment segment) differ = placed_differ segment (without segment.id s.segments) (without_none segment.id s.segments) (without_differ segment.id s.segments differ)
done_differ s (Drop id) differ = without_differ id s.segments differ
done_differ s (High entries chain) differ = differ
done_differ s (SafePoint ts) differ = differ
done_differ s (Regions file) differ = differ
done_differ s (Count entries) differ = differ

pub all_done_differ : (s : State) (edits : List Edit) → IdsDiffer s.segments → IdsDiffer (all_done s edits).segments
all_done_differ s [] differ = differ
all_done_differ s (edit ∷ edits) differ = all_done_differ (done s edit) edits (done_differ s edit differ)

-- ---- records

-- in the state, if there is one
abbrev pub AllDiffer : Option State → Type 0
AllDiffer None = Unit {0}
AllDiffer (Some s) = IdsDiffer s.segments

if_some : (b : Bool) (s : State) → IdsDiffer s.segments → AllDiffer (if b then Some s else None)
if_some true s differ = differ
if_some false s differ = tt

changed_differ : (before : Option State) (edits : List Edit) → AllDiffer before → AllDiffer (changed before edits)
changed_differ (Some s) edits differ = differ
changed_differ None edits differ = if_some (list_any is_high edits && list_any is_safe_point edits) nothing tt

elim_differ : (file : ℕ) (o : Option State) (edits : List Edit) → AllDiffer o → AllDiffer (elim o [ None ↦ None | Some s ↦ formed file (all_done s edits) ])
elim_differ file None edits differ = tt
elim_differ file (Some s) edits differ = if_some (is_formed file (all_done s edits)) (all_done s edits) (all_done_differ s edits differ)

after_differ : (file : ℕ) (before : Option State) (edits : List Edit) → AllDiffer before → AllDiffer (after_record file before edits)
after_differ file before edits differ = elim_differ file (changed before edits) edits (changed_differ before edits differ)

answered : (gate : ℕ) (o after : Option State) → AllDiffer o → ◌≡◌ {A = Result (Option State) Fault} (elim o [ None ↦ Err (At gate) | Some s ↦ Ok (Some s) ]) (Ok after) → AllDiffer after
answered gate None after differ h = absurd (cc h)
answered gate (Some s) after differ h = let same : Some s ≡ after = cc h in subst AllDiffer same differ

step_differ : (file gate stop : ℕ) (before after : Option State) (bytes : List ℕ) → AllDiffer before → manifest_step file gate stop before bytes ≡ Ok after → AllDiffer after
unfolding manifest_step
step_differ file gate stop before after bytes differ h =
    let edits = bind_ok (edits_of stop bytes) _ after h in
    answered gate (after_record file before edits.0) after (after_differ file before edits.0 differ) edits.2

walk_on_differ : (file end gate : ℕ) (on : Option State → List ℕ → Result (Option State) Fault) → ((s after : Option State) (rest : List ℕ) → AllDiffer s → on s rest ≡ Ok after → AllDiffer after)
    → (before after : Option State) (found : Option (List ℕ × List ℕ)) → AllDiffer before → walk_on (manifest_step file) on end gate before found ≡ Ok after → AllDiffer after
walk_on_differ file end gate on each before after None differ h = let same : before ≡ after = ok_same h in subst AllDiffer same differ
walk_on_differ file end gate on each before after (Some (r, rest)) differ h =
    let next = bind_ok (manifest_step file gate (end - length rest) before r) _ after h in
    each next.0 after rest (step_differ file gate (end - length rest) before next.0 r differ next.1) next.2

walk_differ : (file end most : ℕ) (before after : Option State) (bytes : List ℕ) → AllDiffer before → walk (manifest_step file) None end most before bytes ≡ Ok after → AllDiffer after
unfolding walk
walk_differ file end zero before after bytes differ h = absurd (cc h)
walk_differ file end (suc most) before after bytes differ h =
    let found = bind_ok (record_at None end bytes) _ after h in
    walk_on_differ file end (end - length bytes) (walk (manifest_step file) None end most) (λ s t rest one is. walk_differ file end most s t rest one is) before after found.0 differ found.2

pub state_differ : (file end : ℕ) (bytes : List ℕ) (s : State) → state_of file end bytes ≡ Ok s → IdsDiffer s.segments
unfolding state_of
state_differ file end bytes s h =
    let found = bind_ok (walk (manifest_step file) None end (length bytes) None bytes) _ s h in
    last found.0 (walk_differ file end (length bytes) None found.0 bytes tt found.1) found.2
  where
    last : (found : Option State) → AllDiffer found → ◌≡◌ {A = Result State Fault} (elim found [ None ↦ Err (here end bytes) | Some s ↦ Ok s ]) (Ok s) → IdsDiffer s.segments
    last None differ h = absurd (cc h)
    last (Some x) differ h = let same : x ≡ s = cc h in subst (λ (y : State). IdsDiffer y.segments) same differ
