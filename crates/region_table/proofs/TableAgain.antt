-- The ranges in the table of a log have no handle in common, and so what is written of it is read again.
use Rattle.std.proofs.Common.{◌≡◌, ◌≢◌, ◌∙◌, refl, sym, ap, ℕ, Bool, true, false, true≢false, List, [], ◌∷◌, ◌++◌, Some, Ok, arith}
use Rattle.std.specs.BTreeMap.{is_at}
use Rattle.std.specs.Cmp.{nat_cmp_total}
use Rattle.std.specs.List.{All, AllPairs}
use Rattle.std.specs.Map.{keys_of}
use Rattle.std.specs.Ordering.{nat_cmp}
use Rattle.std.proofs.lemmas.List.Elements.{All-nil, All-cons}
use Rattle.std.proofs.lemmas.List.Kept.{AllPairs-cons}
use Rattle.std.proofs.lemmas.Map.Entries.{lookup_head, lookup_tail}
use Rattle.std.proofs.lemmas.Map.Keys.{sorted_tail}
use Rattle.flash_types.specs.declared.range.HandleRange.{HandleRange}
use Rattle.committed_log.specs.Lawful.{IsLawful}
use Rattle.committed_log.specs.Log.{Log}
use Rattle.committed_log.proofs.Maps.{Rise}
use Rattle.region_file.specs.declared.entry.Entry.TheVariants as kept
use Rattle.region_file.specs.Regions.{meet, range_in, ranges_of, regions_of}
use Rattle.region_file.specs.Spelling as spelling
use Rattle.region_file.specs.Spelling.{CanBeWritten, AreApart}
use Rattle.region_file.proofs.FileAgain.{file_again}
use Rattle.region_state.specs.State.{State}
use Rattle.region_table.specs.Table.{Kept, AreRegionsAt, kept_in}
use Rattle.region_table.proofs.Apart.{tables_apart}
use Rattle.region_table.proofs.Locals.{at_here}
use Rattle.region_steps.proofs.Unions.{past}

-- ---- where ids rise

first : (e : ℕ × Kept) (es : List (ℕ × Kept)) → kept_in (e ∷ es) e.0 ≡ Some e.1
first e es = lookup_head (is_at (nat_cmp e.0)) e es (at_here e.0)

module _ (e : ℕ × Kept) (es : List (ℕ × Kept)) (rise : Rise nat_cmp (e ∷ es)) where
  rest : Rise nat_cmp es
  rest = sorted_tail nat_cmp e.0 (keys_of es) rise

  not_first : (r : ℕ) (k : Kept) → kept_in es r ≡ Some k → is_at (nat_cmp r) e.0 ≡ false
  not_first r k there = by (is_at (nat_cmp r) e.0) refl
    where
      by : (b : Bool) → is_at (nat_cmp r) e.0 ≡ b → is_at (nat_cmp r) e.0 ≡ false
      by true is = absurd (cc (sym (past nat_cmp_total r e es rise is) ∙ there))
      by false is = is

  -- a region behind the first has another id, and is found under it
  behind : (r : ℕ) (k : Kept) → kept_in es r ≡ Some k → kept_in (e ∷ es) r ≡ Some k
  behind r k there = lookup_tail (is_at (nat_cmp r)) e es (not_first r k there) ∙ there

  another : (r : ℕ) (k : Kept) → kept_in es r ≡ Some k → r ≢ e.0
  another r k there same = true≢false (sym (at_here e.0) ∙ ap (λ (q : ℕ). is_at (nat_cmp q) e.0) (sym same) ∙ not_first r k there)

-- ---- the ranges of the regions that are there

module _ (P : HandleRange → Type 0) where
  of_first : (e : ℕ × Kept) (others : List HandleRange) → ((s : State) → e.1 ≡ kept.There s → P s.descriptor.range) → All P others → All P (range_in e ++ others)
  of_first (id, kept.Gone index) others one all = all
  of_first (id, kept.There s) others one all = All-cons P s.descriptor.range others (one s refl) all

  each_range : (es : List (ℕ × Kept)) → Rise nat_cmp es → ((r : ℕ) (s : State) → kept_in es r ≡ Some (kept.There s) → P s.descriptor.range) → All P (ranges_of es)
  each_range [] rise each = All-nil P
  each_range (e ∷ es) rise each =
      of_first e (ranges_of es) (λ s is. each e.0 s (first e es ∙ ap Some is))
      (each_range es (rest e es rise) (λ r s there. each r s (behind e es rise r (kept.There s) there)))

-- no later range meets that of the first, nor one another
first_apart : (e : ℕ × Kept) (others : List HandleRange) → ((s : State) → e.1 ≡ kept.There s → All (λ (b : HandleRange). meet b s.descriptor.range ≡ false) others)
    → AllPairs (λ (a b : HandleRange). meet b a ≡ false) others → AllPairs (λ (a b : HandleRange). meet b a ≡ false) (range_in e ++ others)
first_apart (id, kept.Gone index) others one apart = apart
first_apart (id, kept.There s) others one apart = AllPairs-cons (λ (a b : HandleRange). meet b a ≡ false) s.descriptor.range others (one s refl) apart

ranges_apart : (es : List (ℕ × Kept)) → Rise nat_cmp es
    → ((r q : ℕ) → r ≢ q → (s s' : State) → kept_in es r ≡ Some (kept.There s) → kept_in es q ≡ Some (kept.There s') → meet s.descriptor.range s'.descriptor.range ≡ false) → AreApart es
ranges_apart [] rise apart = λ i j d less low. absurd (omega (arith, low))
ranges_apart (e ∷ es) rise apart =
    first_apart e (ranges_of es)
    (λ s is. each_range (λ (b : HandleRange). meet b s.descriptor.range ≡ false) es (rest e es rise)
    (λ r other there. apart r e.0 (another e es rise r (kept.There other) there) other s (behind e es rise r (kept.There other) there) (first e es ∙ ap Some is)))
    (ranges_apart es (rest e es rise) (λ r q differ s s' there too. apart r q differ s s' (behind e es rise r (kept.There s) there) (behind e es rise q (kept.There s') too)))

-- ---- the file of a table

pub table_again : (log : Log) → IsLawful log → (A : ℕ → Bool) (regions : List (ℕ × Kept)) → AreRegionsAt log A regions → CanBeWritten regions → regions_of (spelling.file regions) ≡ Ok regions
table_again log lawful A regions is fits = file_again regions fits (ranges_apart regions fits.ids (tables_apart log lawful A regions is))
