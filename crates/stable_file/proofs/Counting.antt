-- How many versions packs have, one pack after the other.
use Rattle.std.proofs.Common.{◌≡◌, ◌∙◌, sym, ap, ℕ, ◌+◌, ◌-◌, ◌^◌, ◌<◌, min, true, false, cond, List, [], ◌∷◌, ◌++◌, length, take, get_or, filter, arith}
use Rattle.std.specs.List.{sum_by}
use Rattle.std.proofs.lemmas.List.{take_more}
use Rattle.std.proofs.lemmas.List.Sums.{sum_by-cons}
use Rattle.flash_types.specs.declared.range.HandleRange.{HandleRange}
use Rattle.stable_file.specs.declared.pack.Pack.{Pack}
use Rattle.stable_file.specs.Opened.{is_met, count_in}

abbrev counted : HandleRange → List Pack → ℕ
counted range packs = sum_by (λ (pack : Pack). pack.count) (filter (is_met range) packs)

one : HandleRange → Pack → ℕ
one range pack = cond (is_met range pack) pack.count 0

zero_plus : (n : ℕ) → n ≡ 0 + n
zero_plus n = omega arith

cons_is : (range : HandleRange) (x : Pack) (xs : List Pack) → counted range (x ∷ xs) ≡ one range x + counted range xs
unfolding one
cons_is range x xs = elim (is_met range x) as (λ b. sum_by (λ (pack : Pack). pack.count) (cond b (x ∷ filter (is_met range) xs) (filter (is_met range) xs)) ≡ cond b x.count 0 + counted range xs) [ true ↦ sum_by-cons (λ (pack : Pack). pack.count) x (filter (is_met range) xs) | false ↦ zero_plus (counted range xs) ]

more : (range : HandleRange) (xs : List Pack) (y : Pack) → counted range (xs ++ y ∷ []) ≡ counted range xs + one range y
more range [] y = (let n = cons_is range y [] in omega (arith, n))
more range (x ∷ xs) y = (let a = cons_is range x (xs ++ y ∷ []) in let b = cons_is range x xs in let c = more range xs y in omega (arith, a, b, c))

module _ (range : HandleRange) (packs : List Pack) (i : ℕ) (pack : Pack) (lt : i < length packs) (at : pack ≡ get_or packs i pack) where
  next : counted range (take (i + 1) packs) ≡ counted range (take i packs) + one range pack
  next = ap (counted range) (take_more packs i pack lt) ∙ more range (take i packs) (get_or packs i pack) ∙ ap (λ (p : Pack). counted range (take i packs) + one range p) (sym at)

  pub counts_one : (total now : ℕ) → is_met range pack ≡ true → total ≡ count_in range (take i packs) → now ≡ min (total + pack.count) (2 ^ 64 - 1) → now ≡ count_in range (take (i + 1) packs)
  unfolding one
  counts_one total now met so_far is =
      let n = next in
      let m : cond (is_met range pack) pack.count 0 ≡ pack.count = ap (λ b. cond b pack.count 0) met in
      omega (arith, n, m, so_far, is)

  pub passes_over : (total : ℕ) → is_met range pack ≡ false → total ≡ count_in range (take i packs) → total ≡ count_in range (take (i + 1) packs)
  unfolding one
  passes_over total met so_far =
      let n = next in
      let m : cond (is_met range pack) pack.count 0 ≡ 0 = ap (λ b. cond b pack.count 0) met in
      omega (arith, n, m, so_far)
