-- The files of a list that nothing names.
use Rattle.std.proofs.Common.{ℕ, ◌≡◌, ◌∙◌, refl, sym, ap, zero, suc, Bool, true, false, not, cond, List, [], ◌∷◌, filter, arith}
use Rattle.std.specs.List.{Contains}
use Rattle.manifest_form.specs.declared.state.State.{State}
use Rattle.manifest.specs.declared.store.Manifest.{Manifest}
use Rattle.replica_store.specs.Naming.{is_stray}

behind : {X : Type 0} (y : X) (ys : List X) (x : X) → Contains ys x → Contains (y ∷ ys) x
behind y ys x h = (let less = h.1 in (suc h.0, omega arith, h.2))

module _ {X : Type 0} (p : X → Bool) where
  in_rest : (y : X) (ys : List X) (x : X) → (Contains (filter p ys) x → Contains ys x × (p x ≡ true)) → (b : Bool) → p y ≡ b → Contains (cond b (y ∷ filter p ys) (filter p ys)) x → Contains (y ∷ ys) x × (p x ≡ true)
  in_rest y ys x rest true passes (zero, less, is) = ((0, omega arith, is), ap p (sym is) ∙ passes)
  in_rest y ys x rest true passes (suc k, less, is) = (let later = rest (k, omega (arith, less), is) in (behind y ys x later.0, later.1))
  in_rest y ys x rest false fails h = (let later = rest h in (behind y ys x later.0, later.1))

  pub in_filter : (xs : List X) (x : X) → Contains (filter p xs) x → Contains xs x × (p x ≡ true)
  in_filter [] x (k, less, is) = absurd (omega (arith, less))
  in_filter (y ∷ ys) x h = in_rest y ys x (in_filter ys x) (p y) refl h

  has_rest : (y : X) (ys : List X) (x : X) → p x ≡ true → (Contains ys x → Contains (filter p ys) x) → (b : Bool) → p y ≡ b → Contains (y ∷ ys) x → Contains (cond b (y ∷ filter p ys) (filter p ys)) x
  has_rest y ys x passes rest true is (zero, less, same) = (0, omega arith, same)
  has_rest y ys x passes rest true is (suc k, less, same) = behind y (filter p ys) x (rest (k, omega (arith, less), same))
  has_rest y ys x passes rest false is (zero, less, same) = absurd (cc (sym is ∙ ap p same ∙ passes))
  has_rest y ys x passes rest false is (suc k, less, same) = rest (k, omega (arith, less), same)

  pub filter_has : (xs : List X) (x : X) → Contains xs x → p x ≡ true → Contains (filter p xs) x
  filter_has [] x (k, less, is) passes = absurd (omega (arith, less))
  filter_has (y ∷ ys) x h passes = has_rest y ys x passes (λ h. filter_has ys x h passes) (p y) refl h

-- the same manifest has the same strays
pub same_strays : (new old : Manifest) (file : ℕ) (state : State) (retired files : List ℕ) → new ≡ old → file ≡ new.file → state ≡ new.state → filter (is_stray file state retired) files ≡ filter (is_stray old.file old.state retired) files
same_strays new old file state retired files same is_file is_state =
    ap (λ (f : ℕ). filter (is_stray f state retired) files) (is_file ∙ ap (λ (m : Manifest). m.file) same)
    ∙ ap (λ (s : State). filter (is_stray old.file s retired) files) (is_state ∙ ap (λ (m : Manifest). m.state) same)
