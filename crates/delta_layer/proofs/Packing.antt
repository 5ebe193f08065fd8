-- The versions of a stable file, pack by pack.
use Rattle.std.proofs.Common.{◌≡◌, ◌∙◌, refl, sym, ap, subst, ℕ, zero, suc, ◌+◌, ◌-◌, ◌<◌, ◌≤◌, Bool, true, false, true≢false, ◌&&◌, List, [], ◌∷◌, ◌++◌, length, take, drop, fold, slice_get, Some, Result, Ok, Err, arith}
use Rattle.std.proofs.lemmas.List.{take_all, take-append-drop}
use Rattle.std.proofs.lemmas.List.Sums.{fold-append}
use Rattle.std.specs.List.{cons_option}
use Rattle.std.specs.Result.{IsErrOf}
use Rattle.column_block.specs.declared.column.Column.{Column}
use Rattle.column_block.specs.declared.cell.Version.{Version}
use Rattle.pack_codec.specs.declared.fault.FormError.{FormError}
use Rattle.flash_io.specs.Faults.{Rose}
use Rattle.stable_file.specs.Faults.{FailsOrDevice, HasReadCause}
use Rattle.stable_file.specs.declared.fault.ReadError.{ReadError}
use Rattle.stable_file.specs.declared.fault.ReadError.TheVariants as read
use Rattle.stable_file.specs.declared.pack.Pack.{Pack}
use Rattle.column_block.specs.Order.{is_before, rise_after, rise, rises}
use Rattle.delta_layer.specs.Stable.{with_pack, packs_in}
use Rattle.delta_layer.proofs.Places.{take_more}

-- ---- versions that rise together

and_left : (a b : Bool) → (a && b) ≡ true → a ≡ true
and_left true b e = refl
and_left false b e = e

and_right : (a b : Bool) → (a && b) ≡ true → b ≡ true
and_right true b e = e
and_right false b e = absurd (true≢false (sym e))

and_true : (a b : Bool) → b ≡ true → (a && b) ≡ a
and_true true b e = e
and_true false b e = refl

some_is : (v w : Version) → Some v ≡ Some w → v ≡ w
some_is v w e = cc e

after_join : (x : Version) (xs : List Version) (v w : Version) (ws : List Version) → rise_after x xs ≡ true → slice_get (x ∷ xs) (length xs) ≡ Some v → rise_after w ws ≡ true → rise_after x (xs ++ w ∷ ws) ≡ is_before v w
after_join x [] v w ws up last up' = and_true (is_before x w) (rise_after w ws) up' ∙ ap (λ t. is_before t w) (some_is x v last)
after_join x (y ∷ xs) v w ws up last up' =
    ap (λ b. b && rise_after y (xs ++ w ∷ ws)) (and_left (is_before x y) (rise_after y xs) up) ∙ after_join y xs v w ws (and_right (is_before x y) (rise_after y xs) up) last up'

pub rise_join : (xs ys : List Version) (v w : Version) → rises xs ≡ true → rise ys ≡ true → slice_get xs (length xs - 1) ≡ Some v → slice_get ys 0 ≡ Some w → rise (xs ++ ys) ≡ is_before v w
rise_join [] ys v w up up' last first = cc last
rise_join (x ∷ xs) [] v w up up' last first = cc first
rise_join (x ∷ xs) (y ∷ ys) v w up up' last first =
    let n : length (x ∷ xs) - 1 ≡ length xs = omega arith in
    after_join x xs v y ys up (ap (slice_get (x ∷ xs)) (sym n) ∙ last) up' ∙ ap (is_before v) (some_is y w first)

pub rise_alone : (xs ys : List Version) → length xs ≡ 0 → rise ys ≡ true → true ≡ rise (xs ++ ys)
rise_alone [] ys none up = sym up
rise_alone (x ∷ xs) ys none up = absurd (omega (arith, none))

-- ---- the packs one after the other

pub some_at : {X : Type 0} (xs : List X) (k : ℕ) → k < length xs → (x : X) × (slice_get xs k ≡ Some x)
some_at [] k lt = absurd (omega (arith, lt))
some_at (x ∷ xs) zero lt = (x, refl)
some_at (x ∷ xs) (suc k) lt = some_at xs k (omega (arith, lt))

module _ (columns : List Column) (bytes : List ℕ) where
  pub pack_step : (packs : List Pack) (k : ℕ) (pack : Pack) (all : List Version) (r : Result (List Version) FormError) → slice_get packs k ≡ Some pack → packs_in columns bytes (take k packs) ≡ Ok all → with_pack columns bytes (Ok all) pack ≡ r
      → packs_in columns bytes (take (k + 1) packs) ≡ r
  pack_step packs k pack all r at so_far is =
      ap (packs_in columns bytes) (take_more packs k ∙ ap (λ o. take k packs ++ cons_option o []) at)
      ∙ fold-append (with_pack columns bytes) (Ok []) (take k packs) (pack ∷ [])
      ∙ ap (λ x. with_pack columns bytes x pack) so_far ∙ is

  stays_failed : (packs : List Pack) (e : FormError) → fold (with_pack columns bytes) (Err e) packs ≡ Err e
  stays_failed [] e = refl
  stays_failed (pack ∷ packs) e = stays_failed packs e

  pub packs_fail : (packs : List Pack) (n : ℕ) (e : FormError) → packs_in columns bytes (take n packs) ≡ Err e → packs_in columns bytes packs ≡ Err e
  packs_fail packs n e is =
      ap (packs_in columns bytes) (sym (take-append-drop n packs)) ∙ fold-append (with_pack columns bytes) (Ok []) (take n packs) (drop n packs)
      ∙ ap (λ x. fold (with_pack columns bytes) x (drop n packs)) is ∙ stays_failed (drop n packs) e

  pub pack_fails : (packs : List Pack) (k : ℕ) (pack : Pack) (all : List Version) (e : ReadError) → slice_get packs k ≡ Some pack → packs_in columns bytes (take k packs) ≡ Ok all → FailsOrDevice e (with_pack columns bytes (Ok all) pack) → FailsOrDevice e (packs_in columns bytes packs)
  pack_fails packs k pack all read.Device at so_far fails = tt
  pack_fails packs k pack all read.Memory at so_far fails = tt
  pack_fails packs k pack all (read.Damaged place) at so_far fails = packs_fail packs (k + 1) _ (pack_step packs k pack all _ at so_far fails)

  pub packs_done : (packs : List Pack) (n : ℕ) (all : List Version) → length packs ≤ n → packs_in columns bytes (take n packs) ≡ Ok all → packs_in columns bytes packs ≡ Ok all
  packs_done packs n all le is = ap (packs_in columns bytes) (sym (take_all n packs le)) ∙ is

-- ---- why a loop over packs fails

other_err : {T U : Type 0} (e f : ReadError) → IsErrOf {T = U} (Err e) f → IsErrOf {T = T} (Err e) f
other_err e f is = ap (λ x. Err x) (same is)
  where
    same : {U : Type 0} → IsErrOf {T = U} (Err e) f → e ≡ f
    same h = cc h

pub fails_on : {T U : Type 0} (before mid now : ℕ) (e : ReadError) → mid ≡ before → HasReadCause {T = T} mid now (Err e) → HasReadCause {T = U} before now (Err e)
fails_on before mid now e same h = record {
  later = subst (λ n. n ≤ now) same h.later;
  device = λ is. subst (λ n. Rose n now) same (h.device (other_err e read.Device is));
  quiet = tt;
  damaged = λ at is. h.damaged at (other_err e (read.Damaged at) is) ∙ same;
  memory = λ is. h.memory (other_err e read.Memory is) ∙ same;
}
