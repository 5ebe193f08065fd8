-- The text of a key, group by group.
use Rattle.std.proofs.Common.{◌≡◌, ℕ, suc, ◌+◌, ◌-◌, ◌*◌, ◌<◌, ◌≤◌, Bool, true, false, cond, ltb, List, ◌∷◌, [], ◌++◌, length, take, drop, get_or, Option, Some, None, Result, Ok, Err, refl, sym, ap, ◌∙◌, subst, inl, inr, ◌⊎◌, arith, length-take, length-drop}
use Rattle.std.proofs.lemmas.Bool.{ltb-false, ltb-true, le-ltb, lt-ltb}
use Rattle.std.proofs.lemmas.List.{take_all}
use Rattle.flash_list.specs.Steps.{◌>>=◌, seen}
use Rattle.kv_codec.specs.declared.keys.KeyError.{KeyError}
use Rattle.kv_codec.specs.declared.keys.KeyError.TheVariants.{Short, Marker}
use Rattle.kv_codec.specs.Keys.{ended, padded, last_group, first_set, text_at, unmarked}

-- what is put before a text doesn't change whether it is one
pub seen-front : {E : Type 0} (front : List ℕ) (read : Result (List ℕ) E) → seen (λ _. tt {0}) (read >>= λ text. Ok (front ++ text)) ≡ seen (λ _. tt {0}) read
seen-front front (Ok text) = refl
seen-front front (Err e) = refl

pub bind_ok : {A B : Type 0} (r : Result A KeyError) (f : A → Result B KeyError) (y : B) → (r >>= f) ≡ Ok y → (x : A) × (r ≡ Ok x) × (f x ≡ Ok y)
bind_ok (Ok x) f y e = (x, refl, e)
bind_ok (Err d) f y e = absurd cc

-- a test that did not fail
guard_ok : {A : Type 0} (b : Bool) (d : KeyError) (x : Result A KeyError) (y : A) → cond b (Err d) x ≡ Ok y → (b ≡ false) × (x ≡ Ok y)
guard_ok true d x y e = absurd cc
guard_ok false d x y e = (refl, e)

chosen : {A : Type 0} (b : Bool) (x y z : A) → cond b x y ≡ z → ((b ≡ true) × (x ≡ z)) ⊎ ((b ≡ false) × (y ≡ z))
chosen true x y z e = inl (refl, e)
chosen false x y z e = inr (refl, e)

ended_ok : (at : ℕ) (text rest found : List ℕ) → ended at text rest ≡ Ok found → (rest ≡ []) × (text ≡ found)
ended_ok at text [] found e = (refl, cc)
ended_ok at text (b ∷ rest) found e = absurd cc

padded_ok : (at : ℕ) (text : List ℕ) (pad : Option ℕ) (rest found : List ℕ) → padded at text pad rest ≡ Ok found → (rest ≡ []) × (text ≡ found)
padded_ok at text None rest found e = ended_ok (at + 9) text rest found e
padded_ok at text (Some pad) rest found e = absurd cc

-- the last group of a text
pub record IsLast (group : List ℕ) (marker : ℕ) (rest text : List ℕ) : Type 0 where
  pub nothing_else : rest ≡ []
  pub least : 247 ≤ marker
  pub below : marker < 255
  pub text_is : text ≡ take (marker - 247) group

-- a full group of a text, and the text of the others
pub record IsFull (at : ℕ) (group : List ℕ) (marker : ℕ) (rest text : List ℕ) : Type 0 where
  pub others : List ℕ
  pub read : text_at (at + 9) rest ≡ Ok others
  pub text_is : text ≡ group ++ others

pub first_group : (at a b c d e f g h marker : ℕ) (rest text : List ℕ) → text_at at (a ∷ b ∷ c ∷ d ∷ e ∷ f ∷ g ∷ h ∷ marker ∷ rest) ≡ Ok text
    → IsLast (a ∷ b ∷ c ∷ d ∷ e ∷ f ∷ g ∷ h ∷ []) marker rest text ⊎ IsFull at (a ∷ b ∷ c ∷ d ∷ e ∷ f ∷ g ∷ h ∷ []) marker rest text
unfolding text_at
first_group at a b c d e f g h marker rest text read =
    let group = a ∷ b ∷ c ∷ d ∷ e ∷ f ∷ g ∷ h ∷ [] in
    let last = last_group at group (marker - 247) rest in
    let full = text_at (at + 9) rest >>= (λ others. Ok (group ++ others)) in
    let p = guard_ok (ltb marker 247) (Marker (at + 8)) (cond (ltb marker 255) last full) text read in
    let least : 247 ≤ marker = ltb-false _ _ p.0 in
    elim (chosen (ltb marker 255) last full (Ok text) p.1) [
      | inl q ↦
          let r = padded_ok at (take (marker - 247) group) (first_set (drop (marker - 247) group)) rest text q.1 in
          inl (record { nothing_else = r.0; least = least; below = ltb-true _ _ q.0; text_is = sym r.1 })
      | inr q ↦
          let r = bind_ok (text_at (at + 9) rest) (λ others. Ok (group ++ others)) text q.1 in
          inr (record { others = r.0; read = r.1; text_is = cc r.2 })
    ]

-- How long a text is, by its last marker.
pub record Measured (bytes text : List ℕ) : Type 0 where
  pub full : ℕ
  pub left : ℕ
  pub short : left < 8
  pub bytes_len : length bytes ≡ 9 * full + 9
  pub text_len : length text ≡ 8 * full + left
  pub marker : get_or bytes (9 * full + 8) 0 ≡ left + 247

pub measured : (at : ℕ) (bytes text : List ℕ) → text_at at bytes ≡ Ok text → Measured bytes text
unfolding text_at
measured at (a ∷ b ∷ c ∷ d ∷ e ∷ f ∷ g ∷ h ∷ marker ∷ rest) text read =
    elim (first_group at a b c d e f g h marker rest text read) [
      | inl last ↦
          let len : length text ≡ marker - 247 = ap length last.text_is ∙ omega (arith, length-take (marker - 247) (a ∷ b ∷ c ∷ d ∷ e ∷ f ∷ g ∷ h ∷ []), last.below, last.least) in
          let nothing : length rest ≡ 0 = ap length last.nothing_else in
          record { full = 0; left = marker - 247; short = omega (arith, last.below, last.least); bytes_len = omega arith; text_len = omega arith; marker = omega (arith, last.least) }
      | inr group ↦
          let m = measured (at + 9) rest group.others group.read in
          let len : length text ≡ 8 + length group.others = omega (arith, ap length group.text_is) in
          let place : 9 * suc m.full + 8 ≡ suc (suc (suc (suc (suc (suc (suc (suc (suc (9 * m.full + 8))))))))) = omega arith in
          record { full = suc m.full; left = m.left; short = m.short; bytes_len = omega (arith, m.bytes_len); text_len = omega (arith, m.text_len); marker = ap (λ i. get_or (a ∷ b ∷ c ∷ d ∷ e ∷ f ∷ g ∷ h ∷ marker ∷ rest) i 0) place ∙ m.marker }
    ]
measured at bytes text read = absurd cc

-- The text is what stands between the markers, as far as it goes.
pub text_unmarked : (at : ℕ) (bytes text : List ℕ) → text_at at bytes ≡ Ok text → text ≡ take (length text) (unmarked bytes)
unfolding text_at
text_unmarked at (a ∷ b ∷ c ∷ d ∷ e ∷ f ∷ g ∷ h ∷ marker ∷ rest) text read =
    let group = a ∷ b ∷ c ∷ d ∷ e ∷ f ∷ g ∷ h ∷ [] in
    elim (first_group at a b c d e f g h marker rest text read) [
      | inl last ↦
          let len : length text ≡ marker - 247 = ap length last.text_is ∙ omega (arith, length-take (marker - 247) group, last.below, last.least) in
          let alone : unmarked (a ∷ b ∷ c ∷ d ∷ e ∷ f ∷ g ∷ h ∷ marker ∷ rest) ≡ group = ap (λ (xs : List ℕ). a ∷ b ∷ c ∷ d ∷ e ∷ f ∷ g ∷ h ∷ unmarked xs) last.nothing_else in
          last.text_is ∙ ap (λ n. take n group) (sym len) ∙ ap (take (length text)) (sym alone)
      | inr full ↦
          let whole : group ++ full.others ≡ take (length (group ++ full.others)) (unmarked (a ∷ b ∷ c ∷ d ∷ e ∷ f ∷ g ∷ h ∷ marker ∷ rest)) = ap (λ (xs : List ℕ). group ++ xs) (text_unmarked (at + 9) rest full.others full.read) in
          subst (λ (xs : List ℕ). xs ≡ take (length xs) (unmarked (a ∷ b ∷ c ∷ d ∷ e ∷ f ∷ g ∷ h ∷ marker ∷ rest))) (sym full.text_is) whole
    ]
text_unmarked at bytes text read = absurd cc

-- ---- the steps of a loop over the groups

-- what stands behind the first group, as a slice pattern names it
abbrev pub behind : List ℕ → List ℕ
behind bytes = take (length bytes - 9) (drop 9 bytes)

whole : (bytes : List ℕ) → behind bytes ≡ drop 9 bytes
whole bytes = take_all (length bytes - 9) (drop 9 bytes) (omega (arith, length-drop 9 bytes))

abbrev pub group_of : List ℕ → List ℕ
group_of bytes = get_or bytes 0 0 ∷ get_or bytes 1 0 ∷ get_or bytes 2 0 ∷ get_or bytes 3 0 ∷ get_or bytes 4 0 ∷ get_or bytes 5 0 ∷ get_or bytes 6 0 ∷ get_or bytes 7 0 ∷ []

nine_up : (bytes : List ℕ) → 9 ≤ length bytes → bytes ≡ group_of bytes ++ (get_or bytes 8 0 ∷ behind bytes)
nine_up (a ∷ b ∷ c ∷ d ∷ e ∷ f ∷ g ∷ h ∷ marker ∷ rest) long = ap (λ (xs : List ℕ). a ∷ b ∷ c ∷ d ∷ e ∷ f ∷ g ∷ h ∷ marker ∷ xs) (sym (whole (a ∷ b ∷ c ∷ d ∷ e ∷ f ∷ g ∷ h ∷ marker ∷ rest)))
nine_up bytes long = absurd (omega arith)

pub low_marker : (at : ℕ) (bytes : List ℕ) → 9 ≤ length bytes → get_or bytes 8 0 < 247 → text_at at bytes ≡ Err (Marker (at + 8))
unfolding text_at
low_marker at bytes long low = ap (text_at at) (nine_up bytes long) ∙ rw (lt-ltb _ _ low) refl

pub at_last : (at : ℕ) (bytes : List ℕ) → 9 ≤ length bytes → 247 ≤ get_or bytes 8 0 → get_or bytes 8 0 < 255 → text_at at bytes ≡ last_group at (group_of bytes) (get_or bytes 8 0 - 247) (behind bytes)
unfolding text_at
at_last at bytes long least below = ap (text_at at) (nine_up bytes long) ∙ rw (le-ltb _ _ least, lt-ltb _ _ below) refl

pub full_group : (at : ℕ) (bytes : List ℕ) → 9 ≤ length bytes → 255 ≤ get_or bytes 8 0 → seen (λ _. tt {0}) (text_at at bytes) ≡ seen (λ _. tt {0}) (text_at (at + 9) (behind bytes))
unfolding text_at
full_group at bytes long least =
    let first : 247 ≤ get_or bytes 8 0 = omega arith in
    let one : text_at at bytes ≡ (text_at (at + 9) (behind bytes) >>= λ text. Ok (group_of bytes ++ text)) = ap (text_at at) (nine_up bytes long) ∙ rw (le-ltb _ _ first, le-ltb _ _ least) refl in
    ap (seen (λ _. tt {0})) one ∙ seen-front (group_of bytes) (text_at (at + 9) (behind bytes))

pub too_short : (at : ℕ) (bytes : List ℕ) → length bytes < 9 → text_at at bytes ≡ Err (Short (at + length bytes))
unfolding text_at
too_short at (a ∷ b ∷ c ∷ d ∷ e ∷ f ∷ g ∷ h ∷ marker ∷ rest) short = absurd (omega arith)
too_short at bytes short = refl

pub behind-length : (bytes : List ℕ) → 9 ≤ length bytes → length (behind bytes) + 9 ≡ length bytes
behind-length bytes long = omega (arith, length-take (length bytes - 9) (drop 9 bytes), length-drop 9 bytes)
