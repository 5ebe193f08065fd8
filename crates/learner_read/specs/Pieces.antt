-- The pieces of a snapshot, and which of them a read needs.
use Rattle.std.specs.Prelude.{◌≡◌, ℤ, Bool, true, false, ◌&&◌, Some, None, List, int_le}
use Rattle.std.specs.List.{AllPairs, list_any}
use Rattle.flash_types.specs.Ranges.{holds, is_below}
use Rattle.flash_types.specs.declared.range.HandleRange.{HandleRange}
use Rattle.flash_types.specs.declared.refusal.Cut.{Cut}
use Rattle.delta_layer.specs.declared.view.SegmentView.{SegmentView}

-- the first range ends where the other begins, or before
abbrev pub ends_before : HandleRange → HandleRange → Bool
ends_before a b = elim a.high [ None ↦ false | Some high ↦ int_le high b.low ]

-- the pieces' ranges rise and are disjoint
abbrev pub PiecesRise : {G : Type 0} → List (SegmentView G) → Type 0
PiecesRise {G} pieces = AllPairs (λ (a b : SegmentView G). ends_before a.range b.range ≡ true) pieces

-- the cuts' ranges are disjoint
abbrev pub CutsAreApart : List Cut → Type 0
CutsAreApart cuts = AllPairs (λ (a b : Cut). (h : ℤ) → holds a.range h ≡ true → holds b.range h ≡ false) cuts

-- each range begins below the other's end, as where they have a handle in common
abbrev pub meets : HandleRange → HandleRange → Bool
meets a b = is_below a.low b.high && is_below b.low a.high

-- whether a read may ask for handles of a piece: its range meets the clip and the range of a cut
abbrev pub is_needed : HandleRange → List Cut → HandleRange → Bool
is_needed clip cuts range = meets range clip && list_any (λ (cut : Cut). meets range cut.range) cuts
