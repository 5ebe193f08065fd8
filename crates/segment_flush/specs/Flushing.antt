-- The flush of some of a replica's slots.
use Rattle.std.specs.Prelude.{ℕ, Bool, List, [], ◌∷◌, ◌==◌, length, map, nat_lt, Option, Some, None, if◌then◌else◌}
use Rattle.manifest_form.specs.declared.state.Edit.{Edit}
use Rattle.manifest_form.specs.declared.state.Edit.TheVariants as edit
use Rattle.manifest_form.specs.declared.state.StoredSegment.{StoredSegment}
use Rattle.segment_list.specs.Flushes.{after_files, flushed_files, flushed_slot}
use Rattle.segment_list.specs.Slots.{Slotted}
use Rattle.segment_list.specs.declared.flush.Flush.{Flush}
use Rattle.segment_flush.specs.Names.{stored_of}

-- the edits that put segments
abbrev pub segment_edits : List StoredSegment → List Edit
segment_edits segments = map (λ (s : StoredSegment). edit.Segment s) segments

-- a segment in front of others, if it is put
abbrev pub with_put : Bool → StoredSegment → List StoredSegment → List StoredSegment
with_put b s ss = if b then s ∷ ss else ss

module _ {G : Type 0} where
  -- the manifest doesn't name all files of its delta
  abbrev pub has_more : Slotted G → Bool
  has_more s = nat_lt 0 (length s.tags)

  -- its number is this one
  abbrev pub is_slot : ℕ → Slotted G → Bool
  is_slot id s = s.id == id

  -- ---- those that pass a test are flushed, the numbers of their blocks from n on

  abbrev pub one_flushed : Bool → ℕ → Slotted G → Slotted G
  one_flushed b n s = if b then flushed_slot n s else s

  -- the first number that is free then
  abbrev pub after_one : Bool → ℕ → Slotted G → ℕ
  after_one b n s = if b then after_files n s.files else n

  abbrev pub flushed_slots : (Slotted G → Bool) → ℕ → List (Slotted G) → List (Slotted G)
  flushed_slots p n [] = []
  flushed_slots p n (s ∷ ss) = one_flushed (p s) n s ∷ flushed_slots p (after_one (p s) n s) ss

  abbrev pub after_slots : (Slotted G → Bool) → ℕ → List (Slotted G) → ℕ
  after_slots p n [] = n
  after_slots p n (s ∷ ss) = after_slots p (after_one (p s) n s) ss

  -- what the manifest has to name for them
  abbrev pub puts_of : (Slotted G → Bool) → ℕ → List (Slotted G) → List StoredSegment
  puts_of p n [] = []
  puts_of p n (s ∷ ss) = with_put (p s) (stored_of (flushed_slot n s)) (puts_of p (after_one (p s) n s) ss)

  -- ---- their plans, none for a slot that isn't flushed

  abbrev pub plan_for : ℕ → Slotted G → Flush
  plan_for n s = record { layer = flushed_files n s.files; from = n; next = after_files n s.files }

  abbrev pub plan_of : Bool → ℕ → Slotted G → Option Flush
  plan_of b n s = if b then Some (plan_for n s) else None

  abbrev pub plans_of : (Slotted G → Bool) → ℕ → List (Slotted G) → List (Option Flush)
  plans_of p n [] = []
  plans_of p n (s ∷ ss) = plan_of (p s) n s ∷ plans_of p (after_one (p s) n s) ss

-- the first number that a plan leaves free
abbrev pub next_of : ℕ → Option Flush → ℕ
next_of n None = n
next_of n (Some flush) = flush.next
