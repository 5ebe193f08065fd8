-- Whether a version is kept.
use Rattle.std.proofs.Common.{◌≡◌, ◌∙◌, refl, sym, ap, Bool, true, false, cond, ◌||◌, List, [], ◌∷◌}
use Rattle.std.specs.Prelude.{filter, is_some}
use Rattle.std.specs.List.{list_any}
use Rattle.column_block.specs.declared.cell.Version.{Version}
use Rattle.segment_list.specs.Slots.{block_file}

pub any_kept : (p : Version → Bool) (vs : List Version) → list_any p vs ≡ is_some (block_file (filter p vs))
any_kept p [] = refl
any_kept p (v ∷ vs) = by (p v) refl (any_kept p vs)
  where
    by : (t : Bool) → p v ≡ t → list_any p vs ≡ is_some (block_file (filter p vs)) → (p v || list_any p vs) ≡ is_some (block_file (cond (p v) (v ∷ filter p vs) (filter p vs)))
    by true e rest = ap (λ (b : Bool). b || list_any p vs) e ∙ sym (ap (λ (b : Bool). is_some (block_file (cond b (v ∷ filter p vs) (filter p vs)))) e)
    by false e rest = ap (λ (b : Bool). b || list_any p vs) e ∙ rest ∙ sym (ap (λ (b : Bool). is_some (block_file (cond b (v ∷ filter p vs) (filter p vs)))) e)
