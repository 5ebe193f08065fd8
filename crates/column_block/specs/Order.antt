-- The order of versions: by handle, and by timestamp where the handles are equal.
use Rattle.std.specs.Prelude.{◌≡◌, ℕ, ℤ, Bool, true, false, ◌||◌, ◌&&◌, nat_lt, int_lt, List, [], ◌∷◌}
use Rattle.std.specs.List.{AllPairs}
use Rattle.std.specs.Ordering.{int_eq, int_cmp, nat_cmp, ordering_then}
use Rattle.std.specs.declared.cmp.Ordering.{Ordering}
use Rattle.std.specs.declared.cmp.Ordering.TheVariants.{Less}
use Rattle.column_block.specs.declared.cell.Version.{Version}

-- handles with timestamps
abbrev pub key_cmp : ℤ × ℕ → ℤ × ℕ → Ordering
key_cmp a b = ordering_then (int_cmp a.0 b.0) (nat_cmp a.1 b.1)

abbrev pub version_cmp : Version → Version → Ordering
version_cmp v w = key_cmp (v.handle, v.ts) (w.handle, w.ts)

-- the versions rise by handle and timestamp, each pair of these once
abbrev pub Rise : List Version → Type 0
Rise versions = AllPairs (λ (v w : Version). version_cmp v w ≡ Less) versions

-- ---- the same order, as it is computed

abbrev pub is_before : Version → Version → Bool
is_before v w = int_lt v.handle w.handle || (int_eq v.handle w.handle && nat_lt v.ts w.ts)

abbrev pub rise_after : Version → List Version → Bool
rise_after v [] = true
rise_after v (w ∷ ws) = is_before v w && rise_after w ws

-- there is one, and each stands before the next
abbrev pub rise : List Version → Bool
rise [] = false
rise (v ∷ vs) = rise_after v vs

-- there is none, or each stands before the next
abbrev pub rises : List Version → Bool
rises [] = true
rises (v ∷ vs) = rise (v ∷ vs)
