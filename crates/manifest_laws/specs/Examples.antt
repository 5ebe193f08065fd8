-- Worked examples: a split and a merge, and what goes wrong where a premise is left out.
use Rattle.std.specs.Prelude.{◌≡◌, ℕ, ℤ, true, false, List, [], ◌∷◌, replicate, Option, Some, None, pos}
use Rattle.std.proofs.Common.{refl}
use Rattle.manifest_form.specs.declared.state.StoredSegment.{StoredSegment}
use Rattle.manifest_form.specs.declared.state.State.{State}
use Rattle.manifest_form.specs.declared.state.Edit.TheVariants.{Next, Segment, Drop}
use Rattle.flash_types.specs.Ranges.{least_handle}
use Rattle.manifest_form.specs.States.{all_done, is_formed}

abbrev part : ℕ → ℤ → Option ℤ → StoredSegment
part id low high = record { id = id; range = record { low = low; high = high }; stable = None; delta = [] }

-- a state with these segments
abbrev having : ℕ → List StoredSegment → State
having next segments = record { next = next; segments = segments; high = 0; chain = replicate 32 7; safe_point = 0; regions = None; count = None }

-- three segments, cut at 0 and at 10
abbrev low : StoredSegment
low = part 2 least_handle (Some (pos 0))

abbrev mid : StoredSegment
mid = part 3 (pos 0) (Some (pos 10))

abbrev high : StoredSegment
high = part 4 (pos 10) None

abbrev three : State
three = having 5 (low ∷ mid ∷ high ∷ [])

three_are_formed : is_formed 1 three ≡ true
three_are_formed = refl

the_lower_keeps_its_id : all_done three (Next 6 ∷ Segment (part 3 (pos 0) (Some (pos 4))) ∷ Segment (part 5 (pos 4) (Some (pos 10))) ∷ []) ≡ having 6 (low ∷ part 3 (pos 0) (Some (pos 4)) ∷ part 5 (pos 4) (Some (pos 10)) ∷ high ∷ [])
the_lower_keeps_its_id = refl

two_become_one : all_done three (Next 6 ∷ Segment (part 3 (pos 0) None) ∷ Drop 4 ∷ []) ≡ having 6 (low ∷ part 3 (pos 0) None ∷ [])
two_become_one = refl

-- ---- what goes wrong

-- The lower one has the old id, and that is dropped later.
a_half_is_lost : all_done three (Next 6 ∷ Segment (part 3 (pos 0) (Some (pos 4))) ∷ Segment (part 5 (pos 4) (Some (pos 10))) ∷ Drop 3 ∷ []) ≡ having 6 (low ∷ part 5 (pos 4) (Some (pos 10)) ∷ high ∷ [])
a_half_is_lost = refl

-- The upper one has the id of another segment.
another_is_lost : all_done three (Next 6 ∷ Segment (part 3 (pos 0) (Some (pos 4))) ∷ Segment (part 4 (pos 4) (Some (pos 10))) ∷ []) ≡ having 6 (low ∷ part 3 (pos 0) (Some (pos 4)) ∷ part 4 (pos 4) (Some (pos 10)) ∷ [])
another_is_lost = refl

-- Neither has the old id, and that isn't dropped.
the_old_one_stays : is_formed 1 (all_done three (Next 7 ∷ Segment (part 5 (pos 0) (Some (pos 4))) ∷ Segment (part 6 (pos 4) (Some (pos 10))) ∷ [])) ≡ false
the_old_one_stays = refl

-- A state is formed where two segments have one id, and then both go where one is replaced.
abbrev twins : State
twins = having 5 (part 2 least_handle (Some (pos 0)) ∷ part 2 (pos 0) None ∷ [])

twins_are_formed : is_formed 1 twins ≡ true
twins_are_formed = refl

both_twins_go : all_done twins (Segment (part 2 (pos 0) None) ∷ []) ≡ having 5 (part 2 (pos 0) None ∷ [])
both_twins_go = refl

-- Next is raised to the new id alone.
the_id_is_next : is_formed 1 (all_done three (Next 5 ∷ Segment (part 3 (pos 0) (Some (pos 4))) ∷ Segment (part 5 (pos 4) (Some (pos 10))) ∷ [])) ≡ false
the_id_is_next = refl

-- Next falls.
an_id_is_above_next : is_formed 1 (all_done three (Next 4 ∷ [])) ≡ false
an_id_is_above_next = refl

-- Next may be raised last, and the halves may be put in the other order.
in_another_order : all_done three (Segment (part 5 (pos 4) (Some (pos 10))) ∷ Segment (part 3 (pos 0) (Some (pos 4))) ∷ Next 6 ∷ []) ≡ having 6 (low ∷ part 3 (pos 0) (Some (pos 4)) ∷ part 5 (pos 4) (Some (pos 10)) ∷ high ∷ [])
in_another_order = refl
