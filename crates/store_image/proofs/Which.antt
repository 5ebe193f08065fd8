-- Which store an image has.
use Rattle.std.proofs.Common.{◌≡◌, ◌∙◌, inl, inr, ℕ, Some, Result, Ok, sym, ap, subst}
use Rattle.flash_io.specs.Image.{Image}
use Rattle.manifest_form.specs.declared.recover.Recovered.{Recovered}
use Rattle.manifest_form.specs.Walk.{root_of, manifest_of}
use Rattle.manifest.specs.Stores.{IsNew, HasStore, Names}

pub some_same : {X : Type 0} {a b : X} → Some a ≡ Some b → a ≡ b
some_same e = cc

pub ok_same : {X E : Type 0} {a b : X} → ◌≡◌ {A = Result X E} (Ok a) (Ok b) → a ≡ b
ok_same e = cc

pub same_name : (c : Image) (f g : ℕ) → Names c f → Names c g → f ≡ g
same_name c f g a b =
    let roots : a.0 ≡ b.0 = some_same (sym a.1 ∙ b.1) in
    some_same (ok_same (sym a.2 ∙ ap root_of roots ∙ b.2))

same_here : (c : Image) (f : ℕ) (has other : Recovered) → HasStore c f has → HasStore c f other → has ≡ other
same_here c f has other a b =
    let contents : a.content ≡ b.content = some_same (sym a.is ∙ b.is) in
    ok_same (sym a.reads ∙ ap (manifest_of f) contents ∙ b.reads)

-- an image has one store at most
pub same_file : (c : Image) (f g : ℕ) (has other : Recovered) → HasStore c f has → HasStore c g other → f ≡ g
same_file c f g has other a b = same_name c f g a.names b.names

pub same_store : (c : Image) (f g : ℕ) (has other : Recovered) → HasStore c f has → HasStore c g other → has ≡ other
same_store c f g has other a b = same_here c g has other (subst (λ n. HasStore c n has) (same_file c f g has other a b) a) b

-- and where nothing was committed none
pub not_new : (c : Image) (f : ℕ) (has : Recovered) → HasStore c f has → IsNew c → ⊥
not_new c f has store (inl none) = absurd (cc (sym (none 0) ∙ store.names.1))
not_new c f has store (inr root) =
    let roots : store.names.0 ≡ root.0 = some_same (sym store.names.1 ∙ root.1) in
    absurd (cc (ok_same (sym store.names.2 ∙ ap root_of roots ∙ root.2)))
