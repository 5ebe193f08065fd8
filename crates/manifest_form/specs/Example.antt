-- A worked example: a new store, then a flush, and what its files have.
use Rattle.std.specs.Prelude.{◌≡◌, ℕ, List, [], ◌∷◌, ◌++◌, replicate, Some, None, Ok, Err}
use Rattle.std.proofs.Common.{refl}
use Rattle.manifest_form.specs.declared.state.StoredFile.{StoredFile}
use Rattle.manifest_form.specs.declared.state.StoredFile.TheVariants.{Tiny}
use Rattle.manifest_form.specs.declared.state.StoredSegment.{StoredSegment}
use Rattle.manifest_form.specs.declared.state.State.{State}
use Rattle.manifest_form.specs.declared.state.Edit.{Edit}
use Rattle.manifest_form.specs.declared.state.Edit.TheVariants.{Next, Segment, High, SafePoint, Regions, Count}
use Rattle.manifest_form.specs.declared.fault.Fault.TheVariants.{At}
use Rattle.manifest_form.specs.States.{least_handle, after_record}
use Rattle.manifest_form.specs.Whole.{with_next, whole_edits}
use Rattle.flash_list.specs.Fields.{number_at}
use Rattle.manifest_form.specs.Walk as walking
use Rattle.manifest_form.specs.Edits as reading
use Rattle.manifest_form.specs.Spelling as spelling
use Rattle.manifest_form.specs.Fields.{byte_in}

-- all handles, in one segment with these files
abbrev pub whole : ℕ → List StoredFile → StoredSegment
whole id delta = record { id = id; range = record { low = least_handle; high = None }; stable = None; delta = delta }

abbrev chain : List ℕ
chain = replicate 32 7

-- the first record of a new store
abbrev new_store : List Edit
new_store = Next 2 ∷ Segment (whole 0 []) ∷ High 0 chain ∷ SafePoint 0 ∷ []

abbrev new_state : State
new_state = record { next = 2; segments = whole 0 [] ∷ []; high = 0; chain = chain; safe_point = 0; regions = None; count = None }

a_new_store_is_formed : after_record 1 None new_store ≡ Some new_state
a_new_store_is_formed = refl

-- A flush of file 2, which Next has to pass.
a_flush_names_its_file : after_record 1 (Some new_state) (Next 3 ∷ Segment (whole 0 (Tiny 2 ∷ [])) ∷ [])
    ≡ Some (record { next = 3; segments = whole 0 (Tiny 2 ∷ []) ∷ []; high = 0; chain = chain; safe_point = 0; regions = None; count = None })
a_flush_names_its_file = refl

a_file_at_next_is_refused : after_record 1 (Some new_state) (Segment (whole 0 (Tiny 2 ∷ [])) ∷ []) ≡ None
a_file_at_next_is_refused = refl

two_segments_on_all_handles_are_refused : after_record 1 (Some new_state) (Segment (whole 1 []) ∷ []) ≡ None
two_segments_on_all_handles_are_refused = refl

-- A roll writes the whole state to file 2, with Next raised.
a_state_told_whole_is_made_again : after_record 2 None (whole_edits 3 new_state) ≡ Some (with_next 3 new_state)
a_state_told_whole_is_made_again = refl

-- A checkpoint names its region file, and how many entries are applied there.
abbrev checkpoint : List Edit
checkpoint = Next 3 ∷ Regions 2 ∷ Count 5 ∷ []

abbrev checked : State
checked = record { next = 3; segments = whole 0 [] ∷ []; high = 0; chain = chain; safe_point = 0; regions = Some 2; count = Some 5 }

a_checkpoint_has_a_count : after_record 1 (Some new_state) checkpoint ≡ Some checked
a_checkpoint_has_a_count = refl

-- Stores that were written before the count was kept have none.
without_a_count : after_record 1 (Some new_state) (Next 3 ∷ Regions 2 ∷ []) ≡ Some (record checked { count = None })
without_a_count = refl

the_count_is_told_again : after_record 3 None (whole_edits 4 checked) ≡ Some (with_next 4 checked)
the_count_is_told_again = refl

-- its kind, and the number in 8 bytes
the_count_as_bytes : spelling.edit (Count 258) ≡ 7 ∷ 0 ∷ 0 ∷ 0 ∷ 0 ∷ 0 ∷ 0 ∷ 1 ∷ 2 ∷ []
unfolding spelling.edit
the_count_as_bytes = refl

-- No edit has the kind 8.
a_later_kind_is_refused : reading.edit_at 9 (8 ∷ 0 ∷ []) ≡ Err (At 7)
unfolding reading.edit_at byte_in
a_later_kind_is_refused = refl

-- ---- a root

-- the number of a manifest's file as a record behind an open gate
abbrev naming : ℕ → List ℕ
naming file = 1 ∷ 0 ∷ 0 ∷ 0 ∷ 0 ∷ 0 ∷ 0 ∷ 0 ∷ 4 ∷ 0 ∷ 0 ∷ 0 ∷ file ∷ []

nothing_was_committed : (walking.root_of [] ≡ Ok None) × (walking.root_of (1 ∷ []) ≡ Ok None) × (walking.root_of (0 ∷ 1 ∷ []) ≡ Ok None)
unfolding walking.root_of walking.walk walking.record_at
nothing_was_committed = (refl, refl, refl)

-- Behind a closed gate anything may stand.
the_last_record_counts : walking.root_of (naming 1 ++ naming 5 ++ 9 ∷ 1 ∷ []) ≡ Ok (Some 5)
unfolding walking.root_of walking.walk walking.record_at walking.sized_at number_at
the_last_record_counts = refl

-- The file ends where a gate should be.
a_gate_is_missing : walking.root_of (naming 1) ≡ Err (At 13)
unfolding walking.root_of walking.walk walking.record_at walking.sized_at number_at
a_gate_is_missing = refl
