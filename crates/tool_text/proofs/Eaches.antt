-- Lists whose items are read one after the other.
use Rattle.std.proofs.Common.{◌≡◌, ℕ, suc, ◌+◌, ◌<◌, ◌≤◌, List, [], ◌∷◌, ◌++◌, length, drop, map, get_or, Result, Ok, Err, refl, sym, subst, ap, Bool, true, false, nat_le, Some, ◌∙◌, append_assoc, arith}
use Rattle.std.proofs.lemmas.List.{append-nil, drop_more, drop_all}
use Rattle.std.proofs.lemmas.List.{length-map}
use Rattle.std.specs.Prelude.{if◌then◌else◌}
use Rattle.std.specs.Fmt.{decimal}
use Rattle.flash_list.specs.Steps.{◌>>=◌}
use Rattle.serde_json.specs.Data.{Data}
use Rattle.serde_json.specs.View.{items_of, view}
use Rattle.serde_json.specs.declared.value.Value.{Value}
use Rattle.tool_text.specs.Misfits.{Fails, Gives, IsAt, IsInside}
use Rattle.tool_text.specs.declared.misfit.Misfit.{Misfit}
use Rattle.tool_text.specs.declared.misfit.Misfit.TheVariants.{At, Memory}
use Rattle.tool_text.proofs.Failing.{at_fails}
use Rattle.tool_text.specs.Reading.{listed, each, at_most, below}

pub listed_items : (values : List Data) → listed (items_of values) ≡ values
listed_items [] = refl
listed_items (value ∷ values) = ap (λ vs. value ∷ vs) (listed_items values)

-- what is read of the values from this place on stands behind these items
abbrev pub behind : {A : Type 0} → (Data → Result A (List ℕ)) → ℕ → List Data → List A → Result (List A) (List ℕ)
behind reading place values items = each reading place values >>= λ others. Ok (items ++ others)

module _ {A : Type 0} (reading : Data → Result A (List ℕ)) where
  ok_nothing : (r : Result (List A) (List ℕ)) → r ≡ (r >>= λ others. Ok ([] ++ others))
  ok_nothing (Ok xs) = refl
  ok_nothing (Err e) = refl

  pub starts : (values : List Data) → each reading 0 values ≡ behind reading 0 values []
  starts values = ok_nothing (each reading 0 values)

  shift : (x : A) (items : List A) (r : Result (List A) (List ℕ)) → ((r >>= λ others. Ok (x ∷ others)) >>= λ others. Ok (items ++ others)) ≡ (r >>= λ others. Ok ((items ++ x ∷ []) ++ others))
  shift x items (Ok xs) = ap Ok (simp append_assoc)
  shift x items (Err e) = refl

  pub goes_on : (place : ℕ) (value : Data) (values : List Data) (items : List A) (x : A) → reading value ≡ Ok x → behind reading place (value ∷ values) items ≡ behind reading (suc place) values (items ++ x ∷ [])
  unfolding each
  goes_on place value values items x is = rw is (shift x items (each reading (suc place) values))

  pub fails : (place : ℕ) (value : Data) (values : List Data) (items : List A) (path : List ℕ) → reading value ≡ Err path → behind reading place (value ∷ values) items ≡ below (decimal place) (Err path)
  unfolding each
  fails place value values items path is = rw is refl

  -- the values from a place on are the one there and those behind it
  seam : (values : List Value) (place : ℕ) (value : Value) → place < length values → value ≡ get_or values place value → map view (drop place values) ≡ view value ∷ map view (drop (place + 1) values)
  seam values place value lt is = ap (map view) (drop_more values place value lt) ∙ ap (λ v. view v ∷ map view (drop (place + 1) values)) (sym is)

  pub one_more : (values : List Value) (place : ℕ) (value : Value) (items : List A) (x : A) → place < length values → value ≡ get_or values place value → reading (view value) ≡ Ok x
      → each reading 0 (map view values) ≡ behind reading place (map view (drop place values)) items → each reading 0 (map view values) ≡ behind reading (place + 1) (map view (drop (place + 1) values)) (items ++ x ∷ [])
  one_more values place value items x lt is read before =
      let next : suc place ≡ place + 1 = omega arith in
      before ∙ ap (λ vs. behind reading place vs items) (seam values place value lt is) ∙ goes_on place (view value) (map view (drop (place + 1) values)) items x read ∙ ap (λ n. behind reading n (map view (drop (place + 1) values)) (items ++ x ∷ [])) next

  refused : (place : ℕ) (value : Data) (values : List Data) (items : List A) (misfit around : Misfit) → Fails misfit (reading value) → IsInside (decimal place) misfit around → Fails around (behind reading place (value ∷ values) items)
  refused place value values items Memory Memory failed inside = tt {0}
  refused place value values items Memory (At at) failed inside = absurd inside
  refused place value values items (At path) Memory failed inside = tt {0}
  refused place value values items (At path) (At at) failed inside = fails place value values items path failed ∙ ap Err (sym inside)

  pub fails_here : (values : List Value) (place : ℕ) (value : Value) (items : List A) (misfit around : Misfit) → place < length values → value ≡ get_or values place value → Fails misfit (reading (view value)) → IsInside (decimal place) misfit around
      → each reading 0 (map view values) ≡ behind reading place (map view (drop place values)) items → Fails around (each reading 0 (map view values))
  fails_here values place value items misfit around lt is failed inside before =
      subst (Fails around) (sym (before ∙ ap (λ vs. behind reading place vs items) (seam values place value lt is))) (refused place (view value) (map view (drop (place + 1) values)) items misfit around failed inside)

  nothing_more : (place : ℕ) (items : List A) → behind reading place [] items ≡ Ok items
  unfolding each
  nothing_more place items = ap Ok (append-nil items)

  pub is_all : (values : List Value) (place : ℕ) (items : List A) → length values ≤ place → each reading 0 (map view values) ≡ behind reading place (map view (drop place values)) items → each reading 0 (map view values) ≡ Ok items
  is_all values place items past before = before ∙ ap (λ (vs : List Value). behind reading place (map view vs) items) (drop_all place values past) ∙ nothing_more place items

  within : (values : List Value) (most : ℕ) (b : Bool) → nat_le (length values) most ≡ b → at_most most reading (Some (items_of (map view values))) ≡ (if b then each reading 0 (map view values) else Err [])
  within values most b is = rw (listed_items (map view values)) (rw (length-map values view) (rw is refl))

  pub too_long : (values : List Value) (most : ℕ) (misfit : Misfit) → most < length values → IsAt [] misfit → Fails misfit (at_most most reading (Some (items_of (map view values))))
  too_long values most misfit lt at =
      let past : nat_le (length values) most ≡ false = grind (arith, lt) in
      at_fails [] misfit (at_most most reading (Some (items_of (map view values)))) (within values most false past) at

  pub not_too_long : (values : List Value) (most : ℕ) (result : Result (List A) Misfit) → length values ≤ most → Gives result (each reading 0 (map view values)) → Gives result (at_most most reading (Some (items_of (map view values))))
  not_too_long values most result le given =
      let short : nat_le (length values) most ≡ true = grind (arith, le) in
      subst (Gives result) (sym (within values most true short)) given

pub ruleset bounds = (too_long, not_too_long)
