-- What stable versions and newer ones make together.
use Rattle.std.proofs.Common.{◌≡◌, ◌∙◌, refl, sym, ap, subst, ℕ, suc, ℤ, ◌+◌, Bool, true, false, cond, List, [], ◌∷◌, ◌++◌, take, drop, Option, Some, None, arith}
use Rattle.std.specs.Option.{option_or}
use Rattle.std.specs.List.{AllByRecursion}
use Rattle.std.specs.Ordering.{is_eq}
use Rattle.std.specs.declared.cmp.Ordering.TheVariants.{Less, Equal}
use Rattle.std.proofs.lemmas.List.{take-append-drop}
use Rattle.column_block.specs.declared.cell.Version.{Version}
use Rattle.column_block.specs.Order.{key_cmp, is_before, version_cmp}
use Rattle.column_block.proofs.Ordered.{key_cmp_total, key, before_less, neither, Above, Up, above_more, each_both, each_left, each_right, up_left, up_right, up_cross, up_both}
use Rattle.good_replica.proofs.Facts.{or_none_right}
use Rattle.delta_layer.specs.Overlay.{count_before, own, merged}
use Rattle.delta_layer.proofs.Order.{is_at_key, at, at_both, key_is, none_above}

abbrev front : Version → List Version → List Version
front v news = take (count_before v news) news

abbrev back : Version → List Version → List Version
back v news = drop (count_before v news) news

whole : (v : Version) (news : List Version) → front v news ++ back v news ≡ news
whole v news = take-append-drop (count_before v news) news

one_more : (n : ℕ) → 1 + n ≡ suc n
one_more n = omega arith

abbrev IsFirstNotBefore : Version → List Version → Type 0
IsFirstNotBefore v [] = Unit {0}
IsFirstNotBefore v (w ∷ ws) = is_before w v ≡ false

front_before : (v : Version) (news : List Version) → AllByRecursion (λ (w : Version). is_before w v ≡ true) (front v news)
front_before v [] = tt
front_before v (w ∷ ws) = by (is_before w v) refl (front_before v ws)
  where
    by : (b : Bool) → is_before w v ≡ b → AllByRecursion (λ (w : Version). is_before w v ≡ true) (front v ws) → AllByRecursion (λ (w : Version). is_before w v ≡ true) (take (cond b (1 + count_before v ws) 0) (w ∷ ws))
    by true is rest = subst (λ n. AllByRecursion (λ (w : Version). is_before w v ≡ true) (take n (w ∷ ws))) (sym (one_more (count_before v ws))) (is, rest)
    by false is rest = tt

back_first : (v : Version) (news : List Version) → IsFirstNotBefore v (back v news)
back_first v [] = tt
back_first v (w ∷ ws) = by (is_before w v) refl (back_first v ws)
  where
    by : (b : Bool) → is_before w v ≡ b → IsFirstNotBefore v (back v ws) → IsFirstNotBefore v (drop (cond b (1 + count_before v ws) 0) (w ∷ ws))
    by true is rest = subst (λ n. IsFirstNotBefore v (drop n (w ∷ ws))) (sym (one_more (count_before v ws))) rest
    by false is rest = is

-- ---- what holds of each

module _ (P : Version → Type 0) where
  each_own : (v : Version) (ws : List Version) → P v → AllByRecursion P (own v ws)
  each_own v [] p = (p, tt)
  each_own v (w ∷ ws) p = elim (is_before v w) as (λ b. AllByRecursion P (cond b (v ∷ []) [])) [ true ↦ (p, tt) | false ↦ tt ]

  pub each_merged : (olds news : List Version) → AllByRecursion P olds → AllByRecursion P news → AllByRecursion P (merged olds news)
  each_merged [] news a b = b
  each_merged (v ∷ olds) news a b =
      let parts = subst (AllByRecursion P) (sym (whole v news)) b in
      each_both P (front v news) (own v (back v news) ++ merged olds (back v news)) (each_left P (front v news) (back v news) parts)
      (each_both P (own v (back v news)) (merged olds (back v news)) (each_own v (back v news) a.0) (each_merged olds (back v news) a.1 (each_right P (front v news) (back v news) parts)))

-- ---- the order

own_up : (v : Version) (ws rest : List Version) → Up ws → Above v rest → Up rest → Up (own v ws ++ rest)
own_up v [] rest up above up_rest = (above, up_rest)
own_up v (w ∷ ws) rest up above up_rest = elim (is_before v w) as (λ b. Up (cond b (v ∷ []) [] ++ rest)) [ true ↦ (above, up_rest) | false ↦ up_rest ]

-- behind a version that isn't replaced all is above it; behind one that is, nothing is claimed of it
rest_up : (v : Version) (ws olds : List Version) → Up (v ∷ olds) → Up ws → IsFirstNotBefore v ws → Up (merged olds ws) → Up (own v ws ++ merged olds ws)
rest_up v [] olds up up_news first rest = (each_merged (λ (w : Version). version_cmp v w ≡ Less) olds [] up.0 tt, rest)
rest_up v (w ∷ ws) olds up up_news first rest = by (is_before v w) refl
  where
    by : (b : Bool) → is_before v w ≡ b → Up (cond b (v ∷ []) [] ++ merged olds (w ∷ ws))
    by true is = (let less = before_less v w is in (each_merged (λ (x : Version). version_cmp v x ≡ Less) olds (w ∷ ws) up.0 (less, above_more v w ws less up_news.0), rest))
    by false is = rest

pub up_merged : (olds news : List Version) → Up olds → Up news → Up (merged olds news)
up_merged [] news up up_news = up_news
up_merged (v ∷ olds) news up up_news =
    let parts = subst Up (sym (whole v news)) up_news in
    let tail = up_right (front v news) (back v news) parts in
    up_both (front v news) (own v (back v news) ++ merged olds (back v news)) (up_left (front v news) (back v news) parts)
    (rest_up v (back v news) olds up tail (back_first v news) (up_merged olds (back v news) up.1 tail))
    (cross (front v news) (front_before v news) (up_cross (front v news) (back v news) parts))
  where
    above : (x : Version) → is_before x v ≡ true → Above x (back v news) → Above x (own v (back v news) ++ merged olds (back v news))
    above x before a =
        let less = before_less x v before in
        let below : Version → Type 0 = λ w. version_cmp x w ≡ Less in
        each_both below (own v (back v news)) (merged olds (back v news)) (each_own below v (back v news) less) (each_merged below olds (back v news) (above_more x v olds less up.0) a)

    cross : (xs : List Version) → AllByRecursion (λ (w : Version). is_before w v ≡ true) xs → AllByRecursion (λ (x : Version). Above x (back v news)) xs → AllByRecursion (λ (x : Version). Above x (own v (back v news) ++ merged olds (back v news))) xs
    cross [] a b = tt
    cross (x ∷ xs) a b = (above x a.0 b.0, cross xs a.1 b.1)

-- ---- the version of a handle at a timestamp

or_assoc : (a b c : Option Version) → option_or (option_or a b) c ≡ option_or a (option_or b c)
or_assoc None b c = refl
or_assoc (Some x) b c = refl

module _ (h : ℤ) (ts : ℕ) where
  own_at : (v : Version) (ws : List Version) → Up ws → IsFirstNotBefore v ws → (o : Option Version) → option_or (at h ts (own v ws)) (option_or (at h ts ws) o) ≡ option_or (at h ts ws) (cond (is_at_key h ts v) (Some v) o)
  own_at v [] up first o = elim (is_at_key h ts v) as (λ b. option_or (cond b (Some v) None) o ≡ cond b (Some v) o) [ true ↦ refl | false ↦ refl ]
  own_at v (w ∷ ws) up first o = by (is_before v w) (is_at_key h ts v) refl refl
    where
      all : Option Version
      all = at h ts (w ∷ ws)

      by : (b c : Bool) → is_before v w ≡ b → is_at_key h ts v ≡ c → option_or (at h ts (cond b (v ∷ []) [])) (option_or (at h ts (w ∷ ws)) o) ≡ option_or (at h ts (w ∷ ws)) (cond c (Some v) o)
      by true true is here =
          let less = before_less v w is in
          let none = none_above h ts v (w ∷ ws) here (less, above_more v w ws less up.0) in
          ap (λ c. option_or (cond c (Some v) None) (option_or (at h ts (w ∷ ws)) o)) here ∙ sym (ap (λ x. option_or x (Some v)) none)
      by true false is here = ap (λ c. option_or (cond c (Some v) None) (option_or (at h ts (w ∷ ws)) o)) here
      by false true is here =
          let same : key_cmp (h, ts) (key w) ≡ Equal = key_cmp_total.congr (h, ts) (key v) (key w) (key_is h ts v here) ∙ neither v w is first in
          let found : at h ts (w ∷ ws) ≡ Some w = ap (λ x. cond (is_eq x) (Some w) (at h ts ws)) same in
          ap (λ x. option_or x o) found ∙ sym (ap (λ x. option_or x (Some v)) found)
      by false false is here = refl

  pub at_merged : (olds news : List Version) → Up olds → Up news → at h ts (merged olds news) ≡ option_or (at h ts news) (at h ts olds)
  at_merged [] news up up_news = sym (or_none_right (at h ts news))
  at_merged (v ∷ olds) news up up_news =
      let parts = subst Up (sym (whole v news)) up_news in
      let tail = up_right (front v news) (back v news) parts in
      at_both h ts (front v news) (own v (back v news) ++ merged olds (back v news))
      ∙ ap (option_or (at h ts (front v news)))
      (at_both h ts (own v (back v news)) (merged olds (back v news))
      ∙ ap (option_or (at h ts (own v (back v news)))) (at_merged olds (back v news) up.1 tail)
      ∙ own_at v (back v news) tail (back_first v news) (at h ts olds))
      ∙ sym (or_assoc (at h ts (front v news)) (at h ts (back v news)) (at h ts (v ∷ olds)))
      ∙ ap (λ x. option_or x (at h ts (v ∷ olds))) (sym (at_both h ts (front v news) (back v news)) ∙ ap (at h ts) (whole v news))
