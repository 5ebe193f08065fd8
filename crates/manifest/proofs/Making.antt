-- A root that is made ready.
use Rattle.std.proofs.Common.{◌≡◌, ℕ, ◌+◌, ◌≤◌, false, true, ltb, List, [], ◌∷◌, ◌++◌, length, take, drop, Some, None, Ok, inl, inr, ⊎_elim, refl, sym, ap, ◌∙◌, subst, arith}
use Rattle.std.specs.Prelude.{Bool, ◌⊎◌, if◌then◌else◌}
use Rattle.std.proofs.lemmas.Bool.{cases_eq}
use Rattle.flash_io.specs.Image.{Image, Holds}
use Rattle.flash_io.specs.Crash.{TornBytes, Durable, NoNew, Created, Torn}
use Rattle.manifest_form.specs.Walk.{walk, root_step, root_of}
use Rattle.manifest_form.specs.Takes.{ClosedAt}
use Rattle.manifest_form.proofs.Taking.{none, ends}
use Rattle.manifest.specs.Gated.{IsSteady}
use Rattle.manifest.specs.Stores.{IsNew}
use Rattle.manifest.specs.Made.{HasShortRoot, IsBare, LacksGate, HasGate, MadeReady, IsUnmade, Apart, OldOrNone}

pub overwritten_short : (content : List ℕ) → length content ≤ 1 → take 0 content ++ 0 ∷ [] ++ drop (0 + 1) content ≡ 0 ∷ []
overwritten_short [] le = refl
overwritten_short (x ∷ []) le = refl
overwritten_short (x ∷ y ∷ rest) le = absurd (omega (arith, le))

some_same : {a b : List ℕ} → Some a ≡ Some b → a ≡ b
some_same e = cc

pub lacks_short : (root : List ℕ) → LacksGate root → length root ≤ 1
lacks_short root (inl is) = omega (arith, ap length is)
lacks_short root (inr is) = omega (arith, ap length is)

pub written_short : (old mid : Image) → (root : List ℕ) × Holds old 0 root × LacksGate root → (content : List ℕ) × Holds old 0 content × Holds mid 0 (take 0 content ++ 0 ∷ [] ++ drop (0 + 1) content) → Holds mid 0 (0 ∷ [])
written_short old mid short written =
    let same : written.0 ≡ short.0 = some_same (sym written.1 ∙ short.1) in
    let le : length written.0 ≤ 1 = subst (λ (l : List ℕ). length l ≤ 1) (sym same) (lacks_short short.0 short.2) in
    written.2 ∙ ap Some (overwritten_short written.0 le)

-- one closed gate alone
pub shut_gate : (outcomes : Image → Type 0) → Durable 0 (0 ∷ []) outcomes → IsSteady 0 [] outcomes
shut_gate outcomes durable = (0 ∷ [], record { gate = 0; rest = []; is = refl; closed = λ e. cc }, durable)

pub same_image : (files : Image) (old : Image → Type 0) (c : Image) → old c → MadeReady files old c
same_image files old c now = inl now

pub carried : (files files' : Image) (old mid : Image → Type 0) → files' ≡ files → NoNew old mid → (c : Image) → MadeReady files' mid c → MadeReady files old c
carried files files' old mid same none_new c made = subst (λ (image : Image). MadeReady image old c) same (weaker made)
  where
    weaker : MadeReady files' mid c → MadeReady files' old c
    weaker (inl now) = inl (none_new c now)
    weaker (inr (d, now, how)) = inr (d, none_new d now, how)

pub torn_image : (files : Image) (old : Image → Type 0) → ((d : Image) → old d → (root : List ℕ) × Holds files 0 root × LacksGate root) → (c : Image) → (d : Image) × old d × Torn 0 0 1 d c → MadeReady files old c
torn_image files old lacks c torn = inr (torn.0, torn.1, inr (lacks torn.0 torn.1, torn.2))

pub made_image : (files : Image) (old : Image → Type 0) → ((d : Image) → old d → files 0 ≡ None) → (c : Image) → (d : Image) × old d × Created 0 1 d c → MadeReady files old c
made_image files old absent c made = inr (made.0, made.1, inl (absent made.0 made.1, made.2))

-- ---- a root in which nothing was committed

short_root : (root : List ℕ) → length root ≤ 1 → root_of root ≡ Ok None
unfolding root_of
short_root [] le = refl
short_root (x ∷ []) le = refl
short_root (x ∷ y ∷ rest) le = absurd (omega (arith, le))

closed_walk : (root : List ℕ) → ClosedAt [] root → walk root_step (Some 4) (length root) (length root) None root ≡ Ok None
closed_walk root shut = ends root_step (Some 4) 0 None None [] root (length root) (none root_step (Some 4) 0 None) shut (omega arith)

pub closed_root : (root : List ℕ) → ClosedAt [] root → root_of root ≡ Ok None
unfolding root_of
closed_root root shut = if_same (ltb (length root) 2) (Ok None) (walk root_step (Some 4) (length root) (length root) None root) (closed_walk root shut)
  where
    if_same : {X : Type 0} (b : Bool) (x y : X) → y ≡ x → (if b then x else y) ≡ x
    if_same true x y h = refl
    if_same false x y h = h

new_root : (c : Image) (root : List ℕ) → Holds c 0 root → root_of root ≡ Ok None → IsNew c
new_root c root held is = inr (root, held, is)

pub short_new : (c : Image) → HasShortRoot c → IsNew c
short_new c short = new_root c short.0 short.1 (short_root short.0 short.2)

pub bare_new : (c : Image) → IsBare c → IsNew c
bare_new c (others, inl gone) = inl (λ file. elim (cases_eq file 0) [ inl is ↦ subst (λ f. c f ≡ None) (sym is) gone | inr other ↦ others file other ])
bare_new c (others, inr short) = short_new c short

-- ---- images of a root that is made, or torn in its first byte

short_torn : (c d : Image) → HasShortRoot d → Torn 0 0 1 d c → HasShortRoot c
short_torn c d short torn = go torn.1
  where
    go : (c 0 ≡ d 0) ⊎ ((before : List ℕ) × (after : List ℕ) × (d 0 ≡ Some before) × (c 0 ≡ Some after) × TornBytes 0 1 before after) → HasShortRoot c
    go (inl same) = (short.0, same ∙ short.1, short.2)
    go (inr (before, after, was, is, bytes)) =
        let same : before ≡ short.0 = some_same (sym was ∙ short.1) in
        (after, is, omega (arith, bytes.no_longer, ap length same, short.2))

absent_torn : (c d : Image) → d 0 ≡ None → Torn 0 0 1 d c → c 0 ≡ None
absent_torn c d gone torn = go torn.1
  where
    go : (c 0 ≡ d 0) ⊎ ((before : List ℕ) × (after : List ℕ) × (d 0 ≡ Some before) × (c 0 ≡ Some after) × TornBytes 0 1 before after) → c 0 ≡ None
    go (inl same) = same ∙ gone
    go (inr (before, after, was, is, bytes)) = absurd (cc (gone, was))

bare_torn : (c d : Image) → IsBare d → Torn 0 0 1 d c → IsBare c
bare_torn c d (others, root) torn = (λ file other. torn.0 file other ∙ others file other, ⊎_elim (λ gone. inl (absent_torn c d gone torn)) (λ short. inr (short_torn c d short torn)) root)

bare_made : (c d : Image) → IsBare d → Created 0 1 d c → IsBare c
bare_made c d (others, root) made = (λ file other. made.0 file other ∙ others file other, go made.1)
  where
    go : (c 0 ≡ None) ⊎ ((c 0 ≡ d 0) ⊎ ((bytes : List ℕ) × Holds c 0 bytes × (length bytes ≤ 1))) → (c 0 ≡ None) ⊎ HasShortRoot c
    go (inl gone) = inl gone
    go (inr (inl same)) = ⊎_elim (λ gone. inl (same ∙ gone)) (λ (short : HasShortRoot d). inr (short.0, same ∙ short.1, short.2)) root
    go (inr (inr short)) = inr short

-- ---- what is read contradicts what an image has

no_gate : (files : Image) → (root : List ℕ) × Holds files 0 root × LacksGate root → HasGate files → ⊥
no_gate files lacks gate =
    let same : lacks.0 ≡ gate.0 = some_same (sym lacks.1 ∙ gate.1) in
    gate.2 (subst LacksGate same lacks.2)

none_short : (files : Image) → files 0 ≡ None → HasShortRoot files → ⊥
none_short files gone short = absurd (cc (gone, short.1))

none_gate : (files : Image) → files 0 ≡ None → HasGate files → ⊥
none_gate files gone gate = absurd (cc (gone, gate.1))

pub closed_gate : (root : List ℕ) → ClosedAt [] root → LacksGate root → ⊥
closed_gate root shut (inl is) = absurd (cc (sym is ∙ shut.is))
closed_gate root shut (inr is) = shut.closed (first_same (sym (shut.is) ∙ is))
  where
    first_same : {a b : ℕ} {xs ys : List ℕ} → a ∷ xs ≡ b ∷ ys → a ≡ b
    first_same e = cc e

-- ---- a root that is made ready

pub ready_apart : (files : Image) (old : Image → Type 0) (c : Image) → MadeReady files old c → Apart old c
ready_apart files old c (inl now) = (c, now, λ file a b. refl)
ready_apart files old c (inr (d, now, inl (absent, made))) = (d, now, λ file a b. made.0 file a)
ready_apart files old c (inr (d, now, inr (lacks, torn))) = (d, now, λ file a b. torn.0 file a)

module _ (files : Image) (old : Image → Type 0) (reads : (d : Image) → old d → old files) where
  made_new : IsUnmade files old → (c d : Image) → old d → files 0 ≡ None → Created 0 1 d c → IsNew c
  made_new (inl bare) c d now gone made = bare_new c (bare_made c d (bare d now) made)
  made_new (inr (inl short)) c d now gone made = absurd (none_short files gone (short files (reads d now)))
  made_new (inr (inr gate)) c d now gone made = absurd (none_gate files gone (gate d now))

  torn_new : IsUnmade files old → (c d : Image) → old d → (root : List ℕ) × Holds files 0 root × LacksGate root → Torn 0 0 1 d c → IsNew c
  torn_new (inl bare) c d now lacks torn = bare_new c (bare_torn c d (bare d now) torn)
  torn_new (inr (inl short)) c d now lacks torn = short_new c (short_torn c d (short d now) torn)
  torn_new (inr (inr gate)) c d now lacks torn = absurd (no_gate files lacks (gate d now))

  -- nothing is committed while the root is made ready
  pub ready_new : IsUnmade files old → (c : Image) → MadeReady files old c → OldOrNone old c
  ready_new unmade c (inl now) = inl now
  ready_new unmade c (inr (d, now, inl (absent, made))) = inr ((d, now, λ file a b. made.0 file a), made_new unmade c d now absent made)
  ready_new unmade c (inr (d, now, inr (lacks, torn))) = inr ((d, now, λ file a b. torn.0 file a), torn_new unmade c d now lacks torn)

-- ---- where a store may be made, it may be made later

pub carried_unmade : (files files' : Image) (old new : Image → Type 0) → files' ≡ files → NoNew old new → IsUnmade files old → IsUnmade files' new
carried_unmade files files' old new same none_new (inl bare) = inl (λ c left. bare c (none_new c left))
carried_unmade files files' old new same none_new (inr (inl short)) = inr (inl (λ c left. short c (none_new c left)))
carried_unmade files files' old new same none_new (inr (inr gate)) = inr (inr (λ c left. subst HasGate (sym same) (gate c (none_new c left))))

pub torn_unmade : (files files' : Image) (old new : Image → Type 0) → ((d : Image) → old d → (root : List ℕ) × Holds files 0 root × LacksGate root)
    → ((c : Image) → new c → (d : Image) × old d × Torn 0 0 1 d c) → IsUnmade files old → IsUnmade files' new
torn_unmade files files' old new lacks each (inl bare) = inl (λ c left. let t = each c left in bare_torn c t.0 (bare t.0 t.1) t.2)
torn_unmade files files' old new lacks each (inr (inl short)) = inr (inl (λ c left. let t = each c left in short_torn c t.0 (short t.0 t.1) t.2))
torn_unmade files files' old new lacks each (inr (inr gate)) = inl (λ c left. let t = each c left in absurd (no_gate files (lacks t.0 t.1) (gate t.0 t.1)))

pub made_unmade : (files files' : Image) (old new : Image → Type 0) → ((d : Image) → old d → old files) → ((d : Image) → old d → files 0 ≡ None)
    → ((c : Image) → new c → (d : Image) × old d × Created 0 1 d c) → IsUnmade files old → IsUnmade files' new
made_unmade files files' old new reads absent each (inl bare) = inl (λ c left. let t = each c left in bare_made c t.0 (bare t.0 t.1) t.2)
made_unmade files files' old new reads absent each (inr (inl short)) = inl (λ c left. let t = each c left in absurd (none_short files (absent t.0 t.1) (short files (reads t.0 t.1))))
made_unmade files files' old new reads absent each (inr (inr gate)) = inl (λ c left. let t = each c left in absurd (none_gate files (absent t.0 t.1) (gate t.0 t.1)))

-- behind a closed gate that is on the disk
pub steady_unmade : (files : Image) (outcomes : Image → Type 0) → ((c : Image) → outcomes c → outcomes files) → IsSteady 0 [] outcomes → IsUnmade files outcomes
steady_unmade files outcomes reads steady = inr (inr (λ c left. (steady.0, steady.2 files (reads c left), closed_gate steady.0 steady.1)))

-- with one image, in which nothing was committed
pub one_new_unmade : (files : Image) (outcomes : Image → Type 0) → IsNew files → ((c : Image) → outcomes c → (file : ℕ) → c file ≡ files file) → IsUnmade files outcomes
one_new_unmade files outcomes (inl none) one = inl (λ c left. (λ file other. one c left file ∙ none file, inl (one c left 0 ∙ none 0)))
one_new_unmade files outcomes (inr ([], held, is)) one = inr (inl (λ c left. ([], one c left 0 ∙ held, omega arith)))
one_new_unmade files outcomes (inr (x ∷ [], held, is)) one = inr (inl (λ c left. (x ∷ [], one c left 0 ∙ held, omega arith)))
one_new_unmade files outcomes (inr (x ∷ y ∷ rest, held, is)) one = inr (inr (λ c left. (x ∷ y ∷ rest, held, λ lacks. absurd (omega (arith, lacks_short (x ∷ y ∷ rest) lacks)))))
