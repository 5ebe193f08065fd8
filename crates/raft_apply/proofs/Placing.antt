-- What the parsing of an entry rests on.
use Rattle.std.proofs.Common.{◌≡◌, ◌∙◌, refl, ap, subst, ℕ, zero, suc, ◌+◌, List, [], ◌∷◌, ◌++◌, Option, Some, None, slice_get, arith}
use Rattle.std.proofs.lemmas.List.Elements.{filter_map-append}
use Rattle.std.specs.List.{filter_map, cons_option}
use Rattle.std.specs.Option.{option_to_list}
use Rattle.log_codec.specs.declared.entry.Entry.{Entry}
use Rattle.committed_log.specs.Applied.{first_numbers}
use Rattle.committed_log.specs.Lawful.{AllWritable, IsWritable}

one_of : {X : Type 0} (f : ℕ → Option X) (o : Option X) (k : ℕ) → f k ≡ o → filter_map f (k ∷ []) ≡ option_to_list o
one_of f None k is = ap (λ o. cons_option o []) is
one_of f (Some x) k is = ap (λ o. cons_option o []) is

-- what a test of numbers gives of one number more
pub one_more : {X : Type 0} (f : ℕ → Option X) (k : ℕ) → filter_map f (first_numbers (k + 1)) ≡ filter_map f (first_numbers k) ++ option_to_list (f k)
one_more f k =
    let next : k + 1 ≡ suc k = omega arith in
    ap (λ n. filter_map f (first_numbers n)) next ∙ filter_map-append f (first_numbers k) (k ∷ []) ∙ ap (λ found. filter_map f (first_numbers k) ++ found) (one_of f (f k) k refl)

-- each entry of a lawful log is one that a file can hold
pub writable_at : (es : List Entry) (p : ℕ) (e : Entry) → slice_get es p ≡ Some e → AllWritable es → IsWritable e
writable_at [] p e there all = absurd (none p there)
  where
    none_at : List Entry
    none_at = []

    none : (p : ℕ) → slice_get none_at p ≡ Some e → ⊥
    none zero there = cc there
    none (suc p) there = cc there
writable_at (x ∷ es) zero e there all = subst IsWritable (the_first x e there) all.0
  where
    the_first : (x e : Entry) → Some x ≡ Some e → x ≡ e
    the_first x e there = cc there
writable_at (x ∷ es) (suc p) e there all = writable_at es p e there all.1
