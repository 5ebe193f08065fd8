-- Which versions of a block a collection keeps.
use Rattle.std.specs.Prelude.{ℕ, Bool, not, ◌||◌, List, [], ◌∷◌, nat_lt, if◌then◌else◌}
use Rattle.std.specs.Ordering.{int_eq}
use Rattle.column_block.specs.declared.cell.Version.{Version}
pub use Rattle.column_block.specs.Order.{version_cmp, Rise}

-- Whether a version is kept, where these come after it in the order of handle and timestamp: above the safe point each is; at or below it the row's newest is, if it is a put or newer ones are kept beside it.
abbrev pub is_kept : ℕ → Version → List Version → Bool
is_kept safe v [] = nat_lt safe v.ts || not v.gone
is_kept safe v (w ∷ ws) = nat_lt safe v.ts || (if int_eq w.handle v.handle then nat_lt safe w.ts else not v.gone)

abbrev pub keep : ℕ → List Version → List Version
keep safe [] = []
keep safe (v ∷ vs) = if is_kept safe v vs then v ∷ keep safe vs else keep safe vs
