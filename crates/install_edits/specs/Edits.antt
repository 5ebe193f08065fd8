-- The edits of slots that give way to others.
use Rattle.std.specs.Prelude.{ℕ, Bool, ◌==◌, List, ◌++◌, map, Option, Some, None, if◌then◌else◌}
use Rattle.std.specs.List.{filter_map, list_any}
use Rattle.manifest_form.specs.declared.state.Edit.{Edit}
use Rattle.manifest_form.specs.declared.state.Edit.TheVariants as edit
use Rattle.segment_list.specs.Slots.{Slotted}
use Rattle.segment_flush.specs.Flushing.{segment_edits}
use Rattle.segment_flush.specs.Names.{stored_of}

module _ {G : Type 0} where
  -- one of the slots has this number
  abbrev pub has_number : ℕ → List (Slotted G) → Bool
  has_number id slots = list_any (λ (s : Slotted G). s.id == id) slots

  -- a segment goes, unless one of the new ones has its number
  abbrev pub drop_of : List (Slotted G) → Slotted G → Option Edit
  drop_of news s = if has_number s.id news then None else Some (edit.Drop s.id)

  -- those that go, and then those that are put
  abbrev pub change_edits : List (Slotted G) → List (Slotted G) → List Edit
  change_edits olds news = filter_map (drop_of news) olds ++ segment_edits (map stored_of news)
