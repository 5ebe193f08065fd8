-- The first work that is due, one segment more each time.
use Rattle.std.proofs.Common.{◌≡◌, ◌∙◌, refl, sym, ap, subst, ℕ, zero, suc, ◌<◌, Bool, true, false, true≢false, List, [], ◌∷◌, ◌++◌, Option, length, map, drop, get_or}
use Rattle.std.specs.Prelude.{is_some, option_map, slice_get}
use Rattle.std.proofs.Math.Seq.{drop-cons}
use Rattle.flash_types.specs.declared.settings.Settings.{Settings}
use Rattle.segment_list.specs.Slots.{Slotted}
use Rattle.segment_due.specs.declared.works.Due.{Due}
use Rattle.segment_due.specs.Infos.{info_of, total_of}
use Rattle.segment_due.specs.Works.{due_of, first_of, total_in, works_in, works_on}

-- where none of these works is due, the first one is that of the others
none_of_these : (these others : List (Bool × Due)) → is_some (first_of these) ≡ false → first_of (these ++ others) ≡ first_of others
none_of_these [] others e = refl
none_of_these ((true, w) ∷ these) others e = absurd (true≢false e)
none_of_these ((false, w) ∷ these) others e = none_of_these these others e

one_of_these : (these others : List (Bool × Due)) → is_some (first_of these) ≡ true → first_of (these ++ others) ≡ first_of these
one_of_these [] others e = absurd (true≢false (sym e))
one_of_these ((true, w) ∷ these) others e = refl
one_of_these ((false, w) ∷ these) others e = one_of_these these others e

module _ {G : Type 0} where
  -- the versions of the segment at a place, as those from it on tell it
  total_from : (slots : List (Slotted G)) (k : ℕ) → option_map total_of (slice_get slots k) ≡ option_map total_in (slice_get (map info_of (drop k slots)) 0)
  total_from [] zero = refl
  total_from [] (suc k) = refl
  total_from (s ∷ more) zero = refl
  total_from (s ∷ more) (suc k) = total_from more k

  -- the works on the segments from a place on are those on the one there, and then the others
  due_from : (settings : Settings) (slots : List (Slotted G)) (i j : ℕ) (s : Slotted G) → j ≡ suc i → i < length slots → s ≡ get_or slots i s → due_of settings (map info_of (drop i slots)) ≡ first_of (works_on settings (info_of s) (option_map total_of (slice_get slots j)) ++ works_in settings (map info_of (drop j slots)))
  due_from settings slots i j s next within e =
      let front : drop i slots ≡ s ∷ drop (suc i) slots = drop-cons slots i s within ∙ ap (λ (x : Slotted G). x ∷ drop (suc i) slots) (sym e) in
      subst (λ (k : ℕ). due_of settings (map info_of (drop i slots)) ≡ first_of (works_on settings (info_of s) (option_map total_of (slice_get slots k)) ++ works_in settings (map info_of (drop k slots)))) (sym next)
      (ap (λ (xs : List (Slotted G)). due_of settings (map info_of xs)) front
      ∙ ap (λ (n : Option ℕ). first_of (works_on settings (info_of s) n ++ works_in settings (map info_of (drop (suc i) slots)))) (sym (total_from slots (suc i))))

  pub none_here : (settings : Settings) (slots : List (Slotted G)) (i j : ℕ) (s : Slotted G) → j ≡ suc i → i < length slots → s ≡ get_or slots i s → is_some (first_of (works_on settings (info_of s) (option_map total_of (slice_get slots j)))) ≡ false → due_of settings (map info_of (drop i slots)) ≡ due_of settings (map info_of (drop j slots))
  none_here settings slots i j s next within e none = due_from settings slots i j s next within e ∙ none_of_these (works_on settings (info_of s) (option_map total_of (slice_get slots j))) (works_in settings (map info_of (drop j slots))) none

  pub one_here : (settings : Settings) (slots : List (Slotted G)) (i j : ℕ) (s : Slotted G) → j ≡ suc i → i < length slots → s ≡ get_or slots i s → is_some (first_of (works_on settings (info_of s) (option_map total_of (slice_get slots j)))) ≡ true → due_of settings (map info_of (drop i slots)) ≡ first_of (works_on settings (info_of s) (option_map total_of (slice_get slots j)))
  one_here settings slots i j s next within e one = due_from settings slots i j s next within e ∙ one_of_these (works_on settings (info_of s) (option_map total_of (slice_get slots j))) (works_in settings (map info_of (drop j slots))) one
