-- The regions and the handles of a read, one after the other.
use Rattle.std.proofs.Common.{◌≡◌, ◌∙◌, sym, ap, ℕ, ◌+◌, ◌<◌, Bool, Option, Some, None, Result, Ok, Err, List, [], ◌∷◌, ◌++◌, length, take, drop, get_or, map, ℤ, pos}
use Rattle.std.specs.Option.{option_or}
use Rattle.std.proofs.lemmas.List.{at_drop_more, take_more, map-append}
use Rattle.flash_types.specs.declared.ask.AskRegion.{AskRegion}
use Rattle.flash_types.specs.declared.refusal.Cut.{Cut}
use Rattle.flash_types.specs.declared.refusal.Refusal.{Refusal}
use Rattle.committed_log.specs.Applied.{applied, next}
use Rattle.committed_log.specs.Log.{Log}
use Rattle.committed_log.specs.Replies.{refused_at, refused_regions, cut_of, AreCuts}
use Rattle.std.specs.List.{filter_map, cons_option}
use Rattle.std.specs.Map.{keys_of}
use Rattle.std.proofs.lemmas.List.Elements.{filter_map-append}
use Rattle.row_reads.specs.Steps.{IsReadOf, option_list}

ap_some : {X : Type 0} {x y : X} → x ≡ y → Some x ≡ Some y
ap_some e = ap (λ z. Some z) e

module _ (log : Log) (ts mark : ℕ) (A : ℕ → Bool) (regions : List AskRegion) (i : ℕ) (less : i < length regions) where
  abbrev pub d : AskRegion
  d = record { region = 0; epoch = record { conf_ver = 0; version = 0 }; index = 0 }

  abbrev pub here : AskRegion
  here = get_or regions i d

  abbrev pub why : Option Refusal
  why = refused_at log ts here (next log A here.region) mark (applied log A here.region)

  abbrev pub cut : Option Cut
  cut = cut_of here.region (applied log A here.region)

  step : refused_regions log ts (drop i regions) A mark ≡ option_or why (refused_regions log ts (drop (i + 1) regions) A mark)
  step = at_drop_more (λ (rs : List AskRegion). refused_regions log ts rs A mark) regions i d less

  -- a region that can't be read ends it
  pub ends : (r : Result Cut Refusal) (found : Refusal) → IsReadOf why cut r → r ≡ Err found → refused_regions log ts regions A mark ≡ refused_regions log ts (drop i regions) A mark → refused_regions log ts regions A mark ≡ Some found
  ends (Ok c) found is same rest = absurd (cc same)
  ends (Err e) found is same rest = rest ∙ step ∙ ap (λ o. option_or o (refused_regions log ts (drop (i + 1) regions) A mark)) is ∙ ap_some (cc same)

  -- one that can be is passed
  pub passes : (r : Result Cut Refusal) (found : Cut) → IsReadOf why cut r → r ≡ Ok found → refused_regions log ts regions A mark ≡ refused_regions log ts (drop i regions) A mark → refused_regions log ts regions A mark ≡ refused_regions log ts (drop (i + 1) regions) A mark
  passes (Err e) found is same rest = absurd (cc same)
  passes (Ok c) found is same rest = rest ∙ step ∙ ap (λ o. option_or o (refused_regions log ts (drop (i + 1) regions) A mark)) is.0

  -- and has its cut
  pub cuts_more : (r : Result Cut Refusal) (found : Cut) (cuts : List Cut) → IsReadOf why cut r → r ≡ Ok found → AreCuts log A (take i regions) cuts → AreCuts log A (take (i + 1) regions) (cuts ++ found ∷ [])
  cuts_more (Err e) found cuts is same are = absurd (cc same)
  cuts_more (Ok c) found cuts is same are =
      ap (map one) (take_more regions i d less) ∙ map-append one (take i regions) (here ∷ [])
      ∙ ap (λ (front : List (Option Cut)). front ++ one here ∷ []) are ∙ ap (λ (o : Option Cut). map some cuts ++ o ∷ []) (is.1 ∙ ap some (cc same))
      ∙ sym (map-append some cuts (found ∷ []))
    where
      one : AskRegion → Option Cut
      one asked = cut_of asked.region (applied log A asked.region)

      some : Cut → Option Cut
      some c = Some c

-- ---- the rows of one more handle

abbrev no_entry : ℤ × Unit {0}
no_entry = (pos 0, tt {0})

module _ {Y : Type 0} (f : ℤ → Option Y) where
  one_row : (h : ℤ) (o : Option Y) → f h ≡ o → filter_map f (h ∷ []) ≡ option_list o
  one_row h None e = ap (λ (o : Option Y). cons_option o []) e
  one_row h (Some y) e = ap (λ (o : Option Y). cons_option o []) e

  pub row_more : (es : List (ℤ × Unit {0})) (i : ℕ) → i < length es → (found new : List Y) (row : Option Y) → new ≡ found ++ option_list row → row ≡ f (get_or es i no_entry).0 → found ≡ filter_map f (keys_of (take i es)) → new ≡ filter_map f (keys_of (take (i + 1) es))
  row_more es i less found new row added is before =
      added ∙ ap (λ (ys : List Y). ys ++ option_list row) before
      ∙ ap (λ (ys : List Y). filter_map f (keys_of (take i es)) ++ ys) (sym (one_row (get_or es i no_entry).0 row (sym is)))
      ∙ sym (filter_map-append f (keys_of (take i es)) ((get_or es i no_entry).0 ∷ []))
      ∙ ap (filter_map f) (sym (map-append (λ (e : ℤ × Unit {0}). e.0) (take i es) (get_or es i no_entry ∷ [])))
      ∙ ap (λ (xs : List (ℤ × Unit {0})). filter_map f (keys_of xs)) (sym (take_more es i no_entry less))
