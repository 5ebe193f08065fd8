-- A read that isn't refused has cuts.
use Rattle.std.proofs.Common.{◌≡◌, ◌∙◌, refl, sym, ap, subst, ℕ, ◌+◌, ◌<◌, Bool, true, false, cond, Option, Some, None, List, [], ◌∷◌, ◌++◌, length, map, take, get_or, nat_lt}
use Rattle.std.specs.Prelude.{IsSome}
use Rattle.std.specs.List.{All, AllByRecursion}
use Rattle.std.specs.Option.{option_or}
use Rattle.std.proofs.lemmas.List.{take_more, map-append}
use Rattle.std.proofs.lemmas.List.Elements.{All-from_recursion}
use Rattle.flash_types.specs.Asks.{Asked}
use Rattle.flash_types.specs.declared.ask.AskRegion.{AskRegion}
use Rattle.flash_types.specs.declared.refusal.Cut.{Cut}
use Rattle.flash_types.specs.declared.refusal.Refusal.{Refusal}
use Rattle.flash_types.specs.declared.refusal.Refusal.TheVariants as refusal
use Rattle.committed_log.specs.Applied.{applied, next}
use Rattle.committed_log.specs.Log.{Log}
use Rattle.committed_log.specs.Replies.{AreCuts, cut_of, refused, refused_at, refused_regions}
use Rattle.committed_log.specs.declared.region.Region.{Region}
use Rattle.committed_log.specs.declared.region.Region.TheVariants.{Unborn, Live, Prepared, Gone}
use Rattle.region_table.specs.Table.{Table, IsTableAt, state_in}
use Rattle.region_table.proofs.Sets.{of_table, states_are}
use Rattle.replica_state.specs.Reads.{cut_in}

first_none : {X : Type 0} (a b : Option X) → option_or a b ≡ None → a ≡ None
first_none None b h = refl
first_none (Some x) b h = absurd (cc h)

second_none : {X : Type 0} (a b : Option X) → option_or a b ≡ None → b ≡ None
second_none None b h = h
second_none (Some x) b h = absurd (cc h)

there_of : (log : Log) (ts : ℕ) (asked : AskRegion) (n : Option ℕ) (mark : ℕ) (s : Region) → refused_at log ts asked n mark s ≡ None → IsSome (cut_of asked.region s)
there_of log ts asked n mark Unborn h = absurd (cc h)
there_of log ts asked n mark (Live d) h = refl
there_of log ts asked n mark (Prepared d target) h = refl
there_of log ts asked n mark (Gone index) h = absurd (cc h)

all_there : (log : Log) (ts : ℕ) (A : ℕ → Bool) (mark : ℕ) (regions : List AskRegion) → refused_regions log ts regions A mark ≡ None → AllByRecursion (λ (asked : AskRegion). IsSome (cut_of asked.region (applied log A asked.region))) regions
all_there log ts A mark [] h = tt
all_there log ts A mark (asked ∷ regions) h =
    let one = refused_at log ts asked (next log A asked.region) mark (applied log A asked.region) in
    let others = refused_regions log ts regions A mark in
    (there_of log ts asked (next log A asked.region) mark (applied log A asked.region) (first_none one others h), all_there log ts A mark regions (second_none one others h))

late : (early : Bool) (safe : ℕ) (o : Option Refusal) → cond early (Some (refusal.BelowSafePoint safe)) o ≡ None → o ≡ None
late true safe o h = absurd (cc h)
late false safe o h = h

module _ (log : Log) (A : ℕ → Bool) (t : Table) (at : IsTableAt log A t) where
  states : state_in t.regions ≡ applied log A
  states = states_are log A t.regions (of_table log A t at)

  pub have_cuts : (ask : Asked) (safe mark : ℕ) → refused log ask A safe mark ≡ None → All (λ (asked : AskRegion). IsSome (cut_in t.regions asked)) ask.regions
  have_cuts ask safe mark h = All-from_recursion (λ (asked : AskRegion). IsSome (cut_in t.regions asked)) ask.regions
      (subst (λ (f : ℕ → Region). AllByRecursion (λ (asked : AskRegion). IsSome (cut_of asked.region (f asked.region))) ask.regions) (sym states)
      (all_there log ask.ts A mark ask.regions (late (nat_lt ask.ts safe) safe (refused_regions log ask.ts ask.regions A mark) h)))

  pub are_cuts : (regions : List AskRegion) (cuts : List Cut) → map (cut_in t.regions) regions ≡ map Some cuts → AreCuts log A regions cuts
  are_cuts regions cuts h = subst (λ (f : ℕ → Region). map (λ (asked : AskRegion). cut_of asked.region (f asked.region)) regions ≡ map Some cuts) states h

-- one cut more
pub one_more : (f : AskRegion → Option Cut) (regions : List AskRegion) (cuts : List Cut) (i : ℕ) (d : AskRegion) (cut : Cut) → i < length regions → f (get_or regions i d) ≡ Some cut → map f (take i regions) ≡ map Some cuts → map f (take (i + 1) regions) ≡ map Some (cuts ++ cut ∷ [])
one_more f regions cuts i d cut less here before =
    ap (map f) (take_more regions i d less) ∙ map-append f (take i regions) (get_or regions i d ∷ [])
    ∙ ap (λ (front : List (Option Cut)). front ++ f (get_or regions i d) ∷ []) before ∙ ap (λ (o : Option Cut). map some cuts ++ o ∷ []) here
    ∙ sym (map-append some cuts (cut ∷ []))
  where
    some : Cut → Option Cut
    some c = Some c
