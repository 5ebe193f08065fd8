-- One step of merging two lists.
use Rattle.std.proofs.Common.{◌≡◌, length, arith, ◌∙◌, refl, sym, ap, ap₂, subst, List, [], ◌∷◌, ◌++◌, append_assoc, fold}
use Rattle.std.specs.declared.cmp.Ordering.TheVariants.{Less, Equal, Greater}
use Rattle.delta_index.specs.Indexes.{Entry, put, AreRising}
use Rattle.column_block.specs.Order.{key_cmp}
use Rattle.delta_index.proofs.Puts.{merge_keeps, merge_adds, merge_replaces, rising_stays, rising_tail}

carried : (made made' rest whole total : List Entry) (e : Entry) → made ++ whole ≡ total → whole ≡ e ∷ rest → made' ≡ made ++ e ∷ [] → made' ++ rest ≡ total
carried made made' rest whole total e so_far is is' = ap (λ t. t ++ rest) is' ∙ append_assoc made (e ∷ []) rest ∙ ap (λ t. made ++ t) (sym is) ∙ so_far

module _ (total made made' olds others news more : List Entry) (so_far : made ++ fold put olds news ≡ total) (up : AreRising news) where
  pub keeps : (first next : Entry) → olds ≡ first ∷ others → news ≡ next ∷ more → key_cmp first.0 next.0 ≡ Less → made' ≡ made ++ first ∷ [] → made' ++ fold put others news ≡ total
  keeps first next a b less is =
      carried made made' (fold put others news) (fold put olds news) total first so_far
      (ap₂ (fold put) a b ∙ merge_keeps first next others more (subst AreRising b up) less ∙ ap (λ t. first ∷ fold put others t) (sym b)) is

  pub replaces : (first next : Entry) → olds ≡ first ∷ others → news ≡ next ∷ more → key_cmp first.0 next.0 ≡ Equal → made' ≡ made ++ (first.0, next.1) ∷ [] → made' ++ fold put others more ≡ total
  replaces first next a b same is =
      carried made made' (fold put others more) (fold put olds news) total (first.0, next.1) so_far
      (ap₂ (fold put) a b ∙ merge_replaces first next others more (subst AreRising b up) same) is

  pub adds : (first next : Entry) → olds ≡ first ∷ others → news ≡ next ∷ more → key_cmp first.0 next.0 ≡ Greater → made' ≡ made ++ next ∷ [] → made' ++ fold put olds more ≡ total
  adds first next a b after is =
      carried made made' (fold put olds more) (fold put olds news) total next so_far
      (ap₂ (fold put) a b ∙ merge_adds first next others more (subst AreRising b up) after ∙ ap (λ t. next ∷ fold put t more) (sym a)) is

  pub adds_rest : (next : Entry) → olds ≡ [] → news ≡ next ∷ more → made' ≡ made ++ next ∷ [] → made' ++ fold put olds more ≡ total
  adds_rest next a b is =
      let tail : AreRising more = rising_tail next more (subst AreRising b up) in
      carried made made' (fold put olds more) (fold put olds news) total next so_far
      (ap₂ (fold put) a b ∙ rising_stays (next ∷ more) (subst AreRising b up) ∙ ap (λ t. next ∷ t) (sym (ap (λ t. fold put t more) a ∙ rising_stays more tail))) is

pub rising_rest : (news more : List Entry) (next : Entry) → AreRising news → news ≡ next ∷ more → AreRising more
rising_rest news more next up b = rising_tail next more (subst AreRising b up)

pub no_items : (es : List Entry) → length es ≡ 0 → es ≡ []
no_items [] none = refl
no_items (e ∷ es) none = absurd (omega (arith, none))
