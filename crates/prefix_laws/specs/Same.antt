-- Segments that say the same of each of their handles.
use Rattle.std.specs.Prelude.{◌≡◌, ◌⊎◌, ℤ, true, List, [], ◌∷◌}
use Rattle.flash_types.specs.Ranges.{holds}
use Rattle.good_replica.specs.Trail.{Trail, Segment, trail}

-- the second has the range of the first, and the trails of its handles
pub record IsSame (s t : Segment) : Type 0 where
  pub range : t.range ≡ s.range
  pub trails : (h : ℤ) → holds s.range h ≡ true → trail h t ≡ trail h s

-- one for one
abbrev pub AreSame : List Segment → List Segment → Type 0
AreSame [] [] = Unit {0}
AreSame [] (t ∷ ts) = ⊥
AreSame (s ∷ ss) [] = ⊥
AreSame (s ∷ ss) (t ∷ ts) = IsSame s t × AreSame ss ts

-- one of the segments holds the handle, and this is its trail there
abbrev pub HasTrail : ℤ → Trail → List Segment → Type 0
HasTrail h t [] = ⊥
HasTrail h t (s ∷ ss) = ((holds s.range h ≡ true) × (trail h s ≡ t)) ⊎ HasTrail h t ss
