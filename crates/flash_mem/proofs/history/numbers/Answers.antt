use Rattle.std.proofs.Common.{rules, ◌≡◌, ℕ, List, Option, Some, None, refl, subst, sym, true, false}
use Rattle.std.specs.Prelude.{IsSome, Contains}
use Rattle.std.specs.Option.{option_map}
use Rattle.std.specs.BTreeMap.{keys, get}
use Rattle.std.specs.Ordering.{nat_cmp}
use Rattle.flash_mem.specs.Files.{Content, bytes_of}
use Rattle.std.proofs.lemmas.Cmp.{nat_cmp_total}
use Rattle.std.proofs.lemmas.List.{append-nil}
use Rattle.std.proofs.lemmas.Map.Lookups.{exact_unsigned}
use Rattle.std.proofs.lemmas.Map.Views.{btree_map_contains_key_iff}
use Rattle.flash_mem.proofs.history.numbers.Goals as goal

there_from : (o : Option Content) → IsSome o → (x : List ℕ) × (option_map bytes_of o ≡ Some x)
there_from (Some v) some = (bytes_of v, refl)
there_from None some = absurd (clash some)
  where
    clash : false ≡ true → ⊥
    clash e = cc

some_from : (o : Option Content) → (x : List ℕ) × (option_map bytes_of o ≡ Some x) → IsSome o
some_from (Some v) there = refl
some_from None (x, there) = absurd (clash there)
  where
    clash : {x : List ℕ} → None ≡ Some x → ⊥
    clash e = cc

pub returns-clause-each : goal.returns-clause-each
returns-clause-each c f =
    let m = c.args.files.now in
    let iff = btree_map_contains_key_iff nat_cmp_total exact_unsigned m f in
    let is : c.loop-file.list.items ≡ keys m = search (rules, append-nil) in
    (λ has. there_from (get nat_cmp m f) (iff.1 (subst (λ l. Contains l f) is has)), λ there. subst (λ l. Contains l f) (sym is) (iff.0 (some_from (get nat_cmp m f) there)))
