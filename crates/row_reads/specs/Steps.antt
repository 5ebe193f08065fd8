-- The steps of a read, as the program goes them.
use Rattle.std.specs.Prelude.{◌≡◌, ℕ, suc, ℤ, Bool, Option, Some, None, Result, Ok, Err, List, [], ◌∷◌}
use Rattle.std.specs.Ordering.{int_cmp}
use Rattle.std.specs.BTreeMap.{insert_entry}
use Rattle.flash_types.specs.declared.ask.AskRegion.{AskRegion}
use Rattle.flash_types.specs.declared.refusal.Cut.{Cut}
use Rattle.flash_types.specs.declared.refusal.Refusal.{Refusal}
use Rattle.committed_log.specs.Applied.{place}
use Rattle.committed_log.specs.Log.{Log, at}
use Rattle.committed_log.specs.Replies.{refused_regions, AreCuts}
use Rattle.committed_log.specs.Store.{Store, empty}
use Rattle.committed_log.specs.declared.store.Commit.{Commit}

-- the store where a region has an index; that of no entries, where it never has it
abbrev pub store_at : Log → ℕ → ℕ → Store
store_at log r i = elim (place log r i) [ None ↦ empty | Some p ↦ at log (suc p) ]

-- one more handle among those of commits
abbrev pub with_handle : List (ℤ × Unit {0}) → Commit → List (ℤ × Unit {0})
with_handle found c = insert_entry int_cmp found c.handle tt

abbrev pub option_list : {X : Type 0} → Option X → List X
option_list None = []
option_list (Some x) = x ∷ []

-- the refusal, or where there is none the cut
abbrev pub IsReadOf : Option Refusal → Option Cut → Result Cut Refusal → Type 0
IsReadOf why cut (Ok found) = (why ≡ None) × (cut ≡ Some found)
IsReadOf why cut (Err found) = why ≡ Some found

abbrev pub AreReadOf : Log → ℕ → List AskRegion → (ℕ → Bool) → ℕ → Result (List Cut) Refusal → Type 0
AreReadOf log ts regions A mark (Ok cuts) = (refused_regions log ts regions A mark ≡ None) × AreCuts log A regions cuts
AreReadOf log ts regions A mark (Err why) = refused_regions log ts regions A mark ≡ Some why
