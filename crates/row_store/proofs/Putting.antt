-- A value that is put into a list of entries.
use Rattle.std.proofs.Common.{OnOk, Result, Ok, Err, ◌≡◌, ℕ, zero, suc, ◌<◌, Bool, true, false, List, [], ◌∷◌, ◌++◌, length, take, drop, get_or, slice_set, refl, sym, ap, ◌∙◌, arith}
use Rattle.std.specs.BTreeMap.{insert_entry}
use Rattle.std.specs.Ordering.{is_eq, is_gt, match_ordering}
use Rattle.std.specs.declared.cmp.Ordering.{Ordering}
use Rattle.std.specs.declared.cmp.Ordering.TheVariants.{Less, Equal, Greater}
use Rattle.std.proofs.lemmas.Bool.{true≢false, false≢true}
use Rattle.row_store.specs.Stands.{stands}

less : {X : Type 0} (o : Ordering) (a b c : X) → is_eq o ≡ false → is_gt o ≡ false → match_ordering o a b c ≡ a
less Less a b c e g = refl
less Equal a b c e g = absurd (true≢false e)
less Greater a b c e g = absurd (true≢false g)

equal : {X : Type 0} (o : Ordering) (a b c : X) → is_eq o ≡ true → match_ordering o a b c ≡ b
equal Less a b c e = absurd (false≢true e)
equal Equal a b c e = refl
equal Greater a b c e = absurd (false≢true e)

module _ {K X : Type 0} (cmp : K → K → Ordering) (k : K) (v : X) where
  -- the list begins behind the key
  pub put_before : (es : List (K × X)) (at : ℕ) → stands cmp k es at ≡ false → ((d : K × X) → at < length es → is_gt (cmp k (get_or es at d).0) ≡ false) → insert_entry cmp (drop at es) k v ≡ (k, v) ∷ drop at es
  put_before [] zero s g = refl
  put_before [] (suc at) s g = refl
  put_before (e ∷ es) zero s g = less (cmp k e.0) _ _ _ s (g e (omega arith))
  put_before (e ∷ es) (suc at) s g = put_before es at s (λ d lt. g d (omega (arith, lt)))

  -- the list begins with the key
  pub put_over : (es : List (K × X)) (at : ℕ) (d : K × X) → at < length es → d ≡ get_or es at d → stands cmp k es at ≡ true → take at es ++ insert_entry cmp (drop at es) k v ≡ slice_set es at (d.0, v)
  put_over [] at d lt is s = absurd (omega (arith, lt))
  put_over (e ∷ es) zero d lt is s = rw is (equal (cmp k e.0) _ _ _ s)
  put_over (e ∷ es) (suc at) d lt is s = ap (λ rest. e ∷ rest) (put_over es at d (omega (arith, lt)) is s)

  below_here : (one items : List (K × X)) (at : ℕ) → one ≡ items → ((w : X) → insert_entry cmp one k w ≡ take at one ++ insert_entry cmp (drop at one) k w) → insert_entry cmp items k v ≡ take at items ++ insert_entry cmp (drop at items) k v
  below_here one items at same below = ap (λ xs. insert_entry cmp xs k v) (sym same) ∙ (below v ∙ ap (λ xs. take at xs ++ insert_entry cmp (drop at xs) k v) same)

  -- the same of lists that are seen in two places
  pub put_over_seen : (one two items : List (K × X)) (at : ℕ) (d : K × X) (b : Bool) → one ≡ items → two ≡ items → ((w : X) → insert_entry cmp one k w ≡ take at one ++ insert_entry cmp (drop at one) k w)
      → at < length two → d ≡ get_or items at d → b ≡ stands cmp k two at → b ≡ true → slice_set items at (d.0, v) ≡ insert_entry cmp items k v
  put_over_seen one two items at d b same same_too below lt is seen holds =
      let s : stands cmp k items at ≡ true = ap (λ xs. stands cmp k xs at) (sym same_too) ∙ (sym seen ∙ holds) in
      let within : at < length items = omega (arith, lt, ap length same_too) in
      sym (below_here one items at same below ∙ put_over items at d within is s)

  pub put_before_seen : (one two items new : List (K × X)) (at : ℕ) (b : Bool) → one ≡ items → two ≡ items → ((w : X) → insert_entry cmp one k w ≡ take at one ++ insert_entry cmp (drop at one) k w)
      → ((d : K × X) → at < length one → is_gt (cmp k (get_or one at d).0) ≡ false) → b ≡ stands cmp k two at → b ≡ false → new ≡ take at items ++ (k, v) ∷ drop at items → new ≡ insert_entry cmp items k v
  put_before_seen one two items new at b same same_too below stops seen fails put =
      let s : stands cmp k items at ≡ false = ap (λ xs. stands cmp k xs at) (sym same_too) ∙ (sym seen ∙ fails) in
      let behind = put_before items at s (λ d lt. ap (λ xs. is_gt (cmp k (get_or xs at d).0)) (sym same) ∙ stops d (omega (arith, lt, ap length same))) in
      put ∙ sym (below_here one items at same below ∙ ap (λ rest. take at items ++ rest) behind)

pub ok_so : {T E : Type 0} {P Q : Type 0} (r : Result T E) → (P → Q) → OnOk r P → OnOk r Q
ok_so (Ok x) f p = f p
ok_so (Err e) f p = tt
