-- Entries that are put into a list part by part.
use Rattle.std.proofs.Common.{◌≡◌, ◌∙◌, refl, ap, ℕ, ℤ, List, [], ◌∷◌, ◌++◌}
use Rattle.std.proofs.lemmas.List.Sums.{fold-append}
use Rattle.std.specs.declared.cmp.Ordering.TheVariants.{Less, Equal, Greater}
use Rattle.std.specs.Ordering.{match_ordering}
use Rattle.delta_index.specs.Indexes.{Entry, put}
use Rattle.column_block.specs.Order.{key_cmp}
use Rattle.delta_index.specs.Chunks.{AreAbove, AreBelow}
use Rattle.delta_index.proofs.Puts.{put_all, put_by, head_stays}

below_put : (r : ℤ × ℕ) (f : Entry) (es : List Entry) → key_cmp f.0 r ≡ Less → AreBelow r es → AreBelow r (put es f)
below_put r f [] less b = (less, tt)
below_put r f (e ∷ es) less b =
    elim (key_cmp f.0 e.0) as (λ o. AreBelow r (match_ordering o (f ∷ e ∷ es) ((e.0, f.1) ∷ es) (e ∷ put es f))) [
      | Less ↦ (less, b)
      | Equal ↦ b
      | Greater ↦ (b.0, below_put r f es less b.1)
    ]

pub below_all_puts : (r : ℤ × ℕ) (es fs : List Entry) → AreBelow r es → AreBelow r fs → AreBelow r (put_all es fs)
below_all_puts r es [] b b' = b
below_all_puts r es (f ∷ fs) b b' = below_all_puts r (put es f) fs (below_put r f es b'.0 b) b'.1

-- one that is below what stands behind is put into the front
put_front : (es : List Entry) (f r : Entry) (rs : List Entry) → key_cmp f.0 r.0 ≡ Less → put (es ++ (r ∷ rs)) f ≡ put es f ++ (r ∷ rs)
put_front [] f r rs less = put_by r f rs Less less
put_front (e ∷ es) f r rs less =
    elim (key_cmp f.0 e.0) as (λ o. match_ordering o (f ∷ e ∷ (es ++ (r ∷ rs))) ((e.0, f.1) ∷ (es ++ (r ∷ rs))) (e ∷ put (es ++ (r ∷ rs)) f) ≡ match_ordering o (f ∷ e ∷ es) ((e.0, f.1) ∷ es) (e ∷ put es f) ++ (r ∷ rs)) [
      | Less ↦ refl
      | Equal ↦ refl
      | Greater ↦ ap (λ t. e ∷ t) (put_front es f r rs less)
    ]

puts_front : (es fs : List Entry) (r : Entry) (rs : List Entry) → AreBelow r.0 fs → put_all (es ++ (r ∷ rs)) fs ≡ put_all es fs ++ (r ∷ rs)
puts_front es [] r rs b = refl
puts_front es (f ∷ fs) r rs b = ap (λ t. put_all t fs) (put_front es f r rs b.0) ∙ puts_front (put es f) fs r rs b.1

-- those that are above all of the front are put behind it
puts_behind : (es rest fs : List Entry) (r : ℤ × ℕ) → AreBelow r es → ((k : ℤ × ℕ) → key_cmp k r ≡ Less → AreAbove k fs) → put_all (es ++ rest) fs ≡ es ++ put_all rest fs
puts_behind [] rest fs r b a = refl
puts_behind (e ∷ es) rest fs r b a = head_stays e (es ++ rest) fs (a e.0 b.0) ∙ ap (λ t. e ∷ t) (puts_behind es rest fs r b.1 a)

-- a part of a list takes those that are below what stands behind it, and what stands behind takes the others
pub in_parts : (es fs gs : List Entry) (r : Entry) (rs : List Entry) → AreBelow r.0 es → AreBelow r.0 fs → ((k : ℤ × ℕ) → key_cmp k r.0 ≡ Less → AreAbove k gs)
    → put_all (es ++ (r ∷ rs)) (fs ++ gs) ≡ put_all es fs ++ put_all (r ∷ rs) gs
in_parts es fs gs r rs b b' a =
    fold-append put (es ++ (r ∷ rs)) fs gs ∙ ap (λ t. put_all t gs) (puts_front es fs r rs b') ∙ puts_behind (put_all es fs) (r ∷ rs) gs r.0 (below_all_puts r.0 es fs b b') a
