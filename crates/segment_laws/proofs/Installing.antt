-- What was built takes the place of its segments in a replica's list, at each count.
use Rattle.std.proofs.Common.{refl, ℕ, ◌≤◌, Bool, List, ◌∷◌, ◌++◌, map}
use Rattle.column_block.specs.declared.cell.Version.{Version}
use Rattle.flash_types.specs.declared.range.HandleRange.{HandleRange}
use Rattle.committed_log.specs.Lawful.{IsLawful}
use Rattle.committed_log.specs.Log.{Log}
use Rattle.good_replica.specs.Good.{AreGood}
use Rattle.delta_layer.specs.declared.built.Piece.{Piece}
use Rattle.prefix_laws.specs.Prefixes.{ArePrefixesGood, AreSteps}
use Rattle.prefix_laws.specs.Tagged.{Tagged, TaggedSegment, content, file_in, tagged_of}
use Rattle.prefix_laws.specs.Views.{AreBy, IsTakenAt, Side, behind, segment_of}
use Rattle.prefix_laws.proofs.Counts.{delta_merge, delta_merge_once, merge, merge_once, split, split_once}
use Rattle.prefix_laws.proofs.Replica.{changed, changed_once, merged, merged_once, parted, parted_once}
use Rattle.segment_laws.specs.Given.{HasBothOf, HasCollected, HasHalves, both_of, half_of}

-- ---- at each count
module _ (log : Log) (lawful : IsLawful log) (S : ℕ → ℕ → Bool) (m safe from last : ℕ) (steps : AreSteps S m last) (before after : List TaggedSegment) where
  pub delta_merge_installs : (range : HandleRange) (stable : List Version) (taken rest : List Tagged) (at at_safe : ℕ) (pieces : List Piece) → IsTakenAt from last at taken rest → at_safe ≤ safe → (has : HasCollected at_safe range stable (map file_in taken) pieces) →
      ArePrefixesGood log S m safe from last (before ++ (tagged_of range stable (taken ++ rest) ∷ after)) → ArePrefixesGood log S m safe from last (before ++ (tagged_of range has.piece.versions rest ∷ after))
  delta_merge_installs range stable taken rest at at_safe pieces view under has =
      changed log S m safe from last before (tagged_of range stable (taken ++ rest)) (tagged_of range has.piece.versions rest) after refl
      (delta_merge log lawful S m safe from last steps range stable has.piece.versions taken rest at at_safe view.begins view.ends view.by view.later under has.collected)

  pub split_installs : (range : HandleRange) (stable : List Version) (taken rest : List Tagged) (at : ℕ) (pieces : List Piece) → IsTakenAt from last at taken rest → (has : HasHalves range stable (map file_in taken) pieces) →
      ArePrefixesGood log S m safe from last (before ++ (tagged_of range stable (taken ++ rest) ∷ after)) → ArePrefixesGood log S m safe from last (before ++ (half_of has.low rest ∷ half_of has.high rest ∷ after))
  split_installs range stable taken rest at pieces view has =
      parted log S m safe from last (tagged_of range stable (taken ++ rest)) (half_of has.low rest) (half_of has.high rest) has.parted.begins has.parted.meets has.parted.ends has.parted.below has.parted.above
      (split log lawful S m safe from last steps range has.low.range stable has.low.versions taken rest at view.begins view.ends view.by view.later has.low_inside has.low_has)
      (split log lawful S m safe from last steps range has.high.range stable has.high.versions taken rest at view.begins view.ends view.by view.later has.high_inside has.high_has)
      before after

  pub merge_installs : (l r : Side) (left_at right_at : ℕ) (pieces : List Piece) → IsTakenAt from last left_at l.taken (behind l) → IsTakenAt from last right_at r.taken (behind r) → (has : HasBothOf l r pieces) →
      ArePrefixesGood log S m safe from last (before ++ (segment_of l ∷ segment_of r ∷ after)) → ArePrefixesGood log S m safe from last (before ++ (both_of l r has.piece ∷ after))
  merge_installs l r left_at right_at pieces a b has =
      merged log S m safe from last (segment_of l) (segment_of r) (both_of l r has.piece) has.begins has.ends
      (merge log lawful S m safe from last steps l.range r.range has.piece.range l.stable r.stable has.piece.versions l.taken l.named l.more r.taken r.named r.more left_at right_at a.begins a.ends b.begins b.ends a.by b.by a.later b.later has.one_of has.left_has has.right_has)
      before after

-- ---- at one count, for any set and mark
module _ (log : Log) (lawful : IsLawful log) (A : ℕ → Bool) (m safe k : ℕ) (before after : List TaggedSegment) where
  abbrev All : List TaggedSegment → Type 0
  All segments = AreGood log A m safe (map (content k) segments)

  pub delta_merge_installs_once : (range : HandleRange) (stable : List Version) (taken rest : List Tagged) (at_safe : ℕ) (pieces : List Piece) → AreBy k taken → at_safe ≤ safe → (has : HasCollected at_safe range stable (map file_in taken) pieces) →
      All (before ++ (tagged_of range stable (taken ++ rest) ∷ after)) → All (before ++ (tagged_of range has.piece.versions rest ∷ after))
  delta_merge_installs_once range stable taken rest at_safe pieces by under has =
      changed_once log A m safe k before (tagged_of range stable (taken ++ rest)) (tagged_of range has.piece.versions rest) after refl
      (delta_merge_once log lawful A m safe k range stable has.piece.versions taken rest at_safe by under has.collected)

  pub split_installs_once : (range : HandleRange) (stable : List Version) (taken rest : List Tagged) (pieces : List Piece) → AreBy k taken → (has : HasHalves range stable (map file_in taken) pieces) →
      All (before ++ (tagged_of range stable (taken ++ rest) ∷ after)) → All (before ++ (half_of has.low rest ∷ half_of has.high rest ∷ after))
  split_installs_once range stable taken rest pieces by has =
      parted_once log A m safe k (tagged_of range stable (taken ++ rest)) (half_of has.low rest) (half_of has.high rest) has.parted.begins has.parted.meets has.parted.ends has.parted.below has.parted.above
      (split_once log lawful A m safe k range has.low.range stable has.low.versions taken rest by has.low_inside has.low_has)
      (split_once log lawful A m safe k range has.high.range stable has.high.versions taken rest by has.high_inside has.high_has)
      before after

  pub merge_installs_once : (l r : Side) (pieces : List Piece) → AreBy k l.taken → AreBy k r.taken → (has : HasBothOf l r pieces) →
      All (before ++ (segment_of l ∷ segment_of r ∷ after)) → All (before ++ (both_of l r has.piece ∷ after))
  merge_installs_once l r pieces by_left by_right has =
      merged_once log A m safe k (segment_of l) (segment_of r) (both_of l r has.piece) has.begins has.ends
      (merge_once log lawful A m safe k l.range r.range has.piece.range l.stable r.stable has.piece.versions l.taken l.named l.more r.taken r.named r.more by_left by_right has.one_of has.left_has has.right_has)
      before after
