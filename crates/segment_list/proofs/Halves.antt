-- Slots that stand side by side, in two halves, and what an entry says of each.
use Rattle.std.proofs.Common.{◌≡◌, ◌∙◌, refl, sym, ap, subst, ℕ, zero, suc, ◌<◌, ℤ, Bool, true, false, true≢false, cond, ◌||◌, int_le, int_lt, Option, Some, None, List, [], ◌∷◌, ◌++◌, length, map, take, drop, get_or, set, arith}
use Rattle.std.specs.Prelude.{filter, is_some}
use Rattle.std.proofs.lemmas.Bool.{false≢true}
use Rattle.std.proofs.lemmas.List.{map-append, take-append-drop}
use Rattle.std.specs.List.{AllByRecursion}
use Rattle.column_block.specs.declared.cell.Version.{Version}
use Rattle.column_file.specs.declared.file.ColumnFile.{ColumnFile}
use Rattle.column_file.specs.declared.file.ColumnFile.TheVariants.{DeleteRange}
use Rattle.flash_types.specs.Ranges.{common, has_any, is_below}
use Rattle.flash_types.specs.declared.range.HandleRange.{HandleRange}
use Rattle.segment_list.specs.Lists.{Cover, CoverTo, says_of}
use Rattle.segment_list.specs.Slots.{Slotted, absorbed, added_file, block_file, cleared_file, is_in, kept, key_of, pushed_some}
use Rattle.segment_list.proofs.Insides.{Inside, ends_by, ends_itself, ends_through, inside_lies, inside_meets, le_itself, le_trans, lt_le}
use Rattle.segment_list.proofs.Pushes.{absorbed_range}

-- ---- lists

module _ {X : Type 0} (p q : X → Bool) (narrower : (x : X) → p x ≡ true → q x ≡ true) where
  -- a narrower test over what a wider one left
  pub filter_twice : (xs : List X) → filter p (filter q xs) ≡ filter p xs
  filter_twice [] = refl
  filter_twice (x ∷ xs) = one (p x) (q x) refl refl (filter_twice xs)
    where
      one : (s t : Bool) → p x ≡ s → q x ≡ t → filter p (filter q xs) ≡ filter p xs → filter p (cond (q x) (x ∷ filter q xs) (filter q xs)) ≡ cond (p x) (x ∷ filter p xs) (filter p xs)
      one true true a b rest = ap (λ (v : Bool). filter p (cond v (x ∷ filter q xs) (filter q xs))) b ∙ ap (λ (v : Bool). cond v (x ∷ filter p (filter q xs)) (filter p (filter q xs))) a ∙ ap (λ (r : List X). x ∷ r) rest ∙ sym (ap (λ (v : Bool). cond v (x ∷ filter p xs) (filter p xs)) a)
      one true false a b rest = absurd (true≢false (sym (narrower x a) ∙ b))
      one false true a b rest = ap (λ (v : Bool). filter p (cond v (x ∷ filter q xs) (filter q xs))) b ∙ ap (λ (v : Bool). cond v (x ∷ filter p (filter q xs)) (filter p (filter q xs))) a ∙ rest ∙ sym (ap (λ (v : Bool). cond v (x ∷ filter p xs) (filter p xs)) a)
      one false false a b rest = ap (λ (v : Bool). filter p (cond v (x ∷ filter q xs) (filter q xs))) b ∙ rest ∙ sym (ap (λ (v : Bool). cond v (x ∷ filter p xs) (filter p xs)) a)

-- ---- what a slot has of an entry

none_added : (vs : List Version) → is_some (block_file vs) ≡ false → vs ≡ []
none_added [] e = refl
none_added (v ∷ vs) e = absurd (true≢false e)

none_there : {X : Type 0} (o : Option X) → is_some o ≡ false → o ≡ None
none_there None e = refl
none_there (Some x) e = absurd (true≢false e)

neither : (a b : Bool) → (a || b) ≡ false → (a ≡ false) × (b ≡ false)
neither false b e = (refl, e)
neither true b e = absurd (true≢false e)

unless_any : HandleRange → Bool → Option ColumnFile
unless_any range t = cond t (Some (DeleteRange range)) None

met_or_none : (range : HandleRange) (t : Bool) → has_any range ≡ t → is_some (cond (has_any range) (Some (DeleteRange range)) None) ≡ t
met_or_none range true e = ap (λ (v : Bool). is_some (cond v (Some (DeleteRange range)) None)) e
met_or_none range false e = ap (λ (v : Bool). is_some (cond v (Some (DeleteRange range)) None)) e

none_cleared : (range inner : HandleRange) (clears : Option HandleRange) → Inside range.low range.high inner → is_some (cleared_file range clears) ≡ false → cleared_file inner clears ≡ None
none_cleared range inner None inside e = refl
none_cleared range inner (Some other) inside e = by (has_any (common inner other)) refl
  where
    by : (t : Bool) → has_any (common inner other) ≡ t → cond (has_any (common inner other)) (Some (DeleteRange (common inner other))) None ≡ None
    by false is = ap (λ (v : Bool). cond v (Some (DeleteRange (common inner other))) None) is
    by true is = absurd (true≢false (sym (met_or_none (common range other) true (inside_meets range inner other inside is)) ∙ e))

kept_within : (range inner : HandleRange) (vs : List Version) → Inside range.low range.high inner → kept inner (kept range vs) ≡ kept inner vs
kept_within range inner vs inside = filter_twice (is_in inner) (is_in range) (λ v lies. inside_lies range.low range.high inner v inside lies) vs

module _ {G : Type 0} (range : HandleRange) (tag : ℕ) (clears : Option HandleRange) (adds : List Version) where
  pub one_silent : (s : Slotted G) → Inside range.low range.high s.range → says_of range clears adds ≡ false → absorbed tag clears adds s ≡ s
  one_silent s inside out =
      let none = neither (is_some (cleared_file range clears)) (is_some (added_file range adds)) out in
      let rows : kept s.range adds ≡ [] = sym (kept_within range s.range adds inside) ∙ ap (kept s.range) (none_added (kept range adds) none.1) in
      ap (λ (vs : List Version). pushed_some tag (block_file vs) (pushed_some tag (cleared_file s.range clears) s)) rows
      ∙ ap (λ (o : Option ColumnFile). pushed_some tag o s) (none_cleared range s.range clears inside none.0)

  one_parted : (s : Slotted G) → Inside range.low range.high s.range → absorbed tag clears (kept range adds) s ≡ absorbed tag clears adds s
  one_parted s inside = ap (λ (vs : List Version). pushed_some tag (block_file vs) (pushed_some tag (cleared_file s.range clears) s)) (kept_within range s.range adds inside)

  pub all_silent : (slots : List (Slotted G)) → AllByRecursion (λ (s : Slotted G). Inside range.low range.high s.range) slots → says_of range clears adds ≡ false → map (absorbed tag clears adds) slots ≡ slots
  all_silent [] inside out = refl
  all_silent (s ∷ ss) inside out =
      ap (λ (r : Slotted G). r ∷ map (absorbed tag clears adds) ss) (one_silent s inside.0 out)
      ∙ ap (λ (r : List (Slotted G)). s ∷ r) (all_silent ss inside.1 out)

  pub all_parted : (slots : List (Slotted G)) → AllByRecursion (λ (s : Slotted G). Inside range.low range.high s.range) slots → map (absorbed tag clears (kept range adds)) slots ≡ map (absorbed tag clears adds) slots
  all_parted [] inside = refl
  all_parted (s ∷ ss) inside =
      ap (λ (r : Slotted G). r ∷ map (absorbed tag clears (kept range adds)) ss) (one_parted s inside.0)
      ∙ ap (λ (r : List (Slotted G)). absorbed tag clears adds s ∷ r) (all_parted ss inside.1)

-- ---- slots side by side

module _ {G : Type 0} where
  further : (low at : ℤ) (high : Option ℤ) → int_le low at ≡ true → (slots : List (Slotted G)) → AllByRecursion (λ (s : Slotted G). Inside at high s.range) slots → AllByRecursion (λ (s : Slotted G). Inside low high s.range) slots
  further low at high le [] all = tt
  further low at high le (s ∷ ss) all = (record { begins = le_trans low at s.range.low le all.0.begins; ends = all.0.ends }, further low at high le ss all.1)

  first_filled : (high : Option ℤ) (low : ℤ) (s : Slotted G) (ss : List (Slotted G)) → CoverTo high low (s ∷ ss) → (s.range.low ≡ low) × (has_any s.range ≡ true)
  first_filled high low s [] c = (c.0, c.2)
  first_filled high low s (t ∷ more) c = (c.0, c.2)

  -- each lies inside the range
  pub all_inside : (high : Option ℤ) (low : ℤ) (slots : List (Slotted G)) → CoverTo high low slots → AllByRecursion (λ (s : Slotted G). Inside low high s.range) slots
  all_inside high low [] c = absurd (false≢true c)
  all_inside high low (s ∷ []) c = (
    record {
      begins = ap (int_le low) c.0 ∙ le_itself low;
      ends = ap (λ (e : Option ℤ). ends_by e high) c.1 ∙ ends_itself high;
    },
    tt,
  )
  all_inside high low (s ∷ t ∷ more) c =
      let rest : AllByRecursion (λ (u : Slotted G). Inside t.range.low high u.range) (t ∷ more) = all_inside high t.range.low (t ∷ more) c.3 in
      let reaches : int_lt s.range.low t.range.low ≡ true = sym (ap (is_below s.range.low) c.1) ∙ c.2 in
      let le : int_le low t.range.low ≡ true = lt_le low t.range.low (sym (ap (λ (x : ℤ). int_lt x t.range.low) c.0) ∙ reaches) in (
        record {
          begins = ap (int_le low) c.0 ∙ le_itself low;
          ends = ap (λ (e : Option ℤ). ends_by e high) c.1 ∙ ends_through t.range.low t.range.high high (first_filled high t.range.low t more c.3).1 rest.0.ends;
        },
        further low t.range.low high le (t ∷ more) rest,
      )

  pub lower_half : (high : Option ℤ) (low : ℤ) (m : ℕ) (slots : List (Slotted G)) (x : Slotted G) → 0 < m → m < length slots → x ≡ get_or slots m x → CoverTo high low slots → CoverTo (Some x.range.low) low (take m slots)
  lower_half high low zero slots x some within is c = absurd (omega arith)
  lower_half high low (suc m) [] x some within is c = absurd (omega arith)
  lower_half high low (suc m) (s ∷ []) x some within is c = absurd (omega arith)
  lower_half high low (suc zero) (s ∷ t ∷ more) x some within is c = (c.0, c.1 ∙ ap (λ (u : Slotted G). Some u.range.low) (sym is), c.2)
  lower_half high low (suc (suc m)) (s ∷ t ∷ more) x some within is c = (c.0, c.1, c.2, lower_half high t.range.low (suc m) (t ∷ more) x (omega arith) (omega arith) is c.3)

  pub upper_half : (high : Option ℤ) (low : ℤ) (m : ℕ) (slots : List (Slotted G)) (x : Slotted G) → 0 < m → m < length slots → x ≡ get_or slots m x → CoverTo high low slots → CoverTo high x.range.low (drop m slots)
  upper_half high low zero slots x some within is c = absurd (omega arith)
  upper_half high low (suc m) [] x some within is c = absurd (omega arith)
  upper_half high low (suc m) (s ∷ []) x some within is c = absurd (omega arith)
  upper_half high low (suc zero) (s ∷ t ∷ more) x some within is c = subst (λ (u : Slotted G). CoverTo high u.range.low (t ∷ more)) (sym is) c.3
  upper_half high low (suc (suc m)) (s ∷ t ∷ more) x some within is c = upper_half high t.range.low (suc m) (t ∷ more) x (omega arith) (omega arith) is c.3

  -- what an entry adds leaves the ranges
  pub cover_stays : (tag : ℕ) (clears : Option HandleRange) (adds : List Version) (high : Option ℤ) (low : ℤ) (slots : List (Slotted G)) → CoverTo high low slots → CoverTo high low (map (absorbed tag clears adds) slots)
  cover_stays tag clears adds high low [] c = c
  cover_stays tag clears adds high low (s ∷ []) c = subst (λ (r : HandleRange). (r.low ≡ low) × (r.high ≡ high) × (has_any r ≡ true)) (sym (absorbed_range tag clears adds s)) c
  cover_stays tag clears adds high low (s ∷ t ∷ more) c =
      let rest : CoverTo high t.range.low (map (absorbed tag clears adds) (t ∷ more)) = cover_stays tag clears adds high t.range.low (t ∷ more) c.3 in
      let moved : CoverTo high (absorbed tag clears adds t).range.low (map (absorbed tag clears adds) (t ∷ more)) = subst (λ (r : HandleRange). CoverTo high r.low (map (absorbed tag clears adds) (t ∷ more))) (sym (absorbed_range tag clears adds t)) rest in
      let one : (s.range.low ≡ low) × (s.range.high ≡ Some (absorbed tag clears adds t).range.low) × (has_any s.range ≡ true) = (c.0, c.1 ∙ ap (λ (r : HandleRange). Some r.low) (sym (absorbed_range tag clears adds t)), c.2) in
      let both : ((absorbed tag clears adds s).range.low ≡ low) × ((absorbed tag clears adds s).range.high ≡ Some (absorbed tag clears adds t).range.low) × (has_any (absorbed tag clears adds s).range ≡ true) = subst (λ (r : HandleRange). (r.low ≡ low) × (r.high ≡ Some (absorbed tag clears adds t).range.low) × (has_any r ≡ true)) (sym (absorbed_range tag clears adds s)) one in
      (both.0, both.1, both.2, moved)

  -- ---- the halves of an entry

  inside_before : (tag : ℕ) (clears : Option HandleRange) (adds : List Version) (low : ℤ) (high : Option ℤ) (slots : List (Slotted G)) → AllByRecursion (λ (s : Slotted G). Inside low high s.range) (map (absorbed tag clears adds) slots) → AllByRecursion (λ (s : Slotted G). Inside low high s.range) slots
  inside_before tag clears adds low high [] all = tt
  inside_before tag clears adds low high (s ∷ ss) all = (subst (Inside low high) (absorbed_range tag clears adds s) all.0, inside_before tag clears adds low high ss all.1)

  -- nothing is taken back where the entry said nothing
  pub back_silent : (range : HandleRange) (tag : ℕ) (clears : Option HandleRange) (adds : List Version) (now before : List (Slotted G)) → CoverTo range.high range.low now → now ≡ map (absorbed tag clears adds) before → says_of range clears adds ≡ false → now ≡ before
  back_silent range tag clears adds now before cover was out =
      was ∙ all_silent range tag clears adds before (inside_before tag clears adds range.low range.high before (all_inside range.high range.low (map (absorbed tag clears adds) before) (subst (CoverTo range.high range.low) was cover))) out

  -- of one slot
  pub back_one : (f : Slotted G → Slotted G) (high : Option ℤ) (low : ℤ) (now before : List (Slotted G)) (x y : Slotted G) → CoverTo high low now → length now < 2 → now ≡ map f before → ((b : Slotted G) → get_or now 0 x ≡ f b → y ≡ b) → set now 0 y ≡ before
  back_one f high low [] before x y cover few was back = absurd (false≢true cover)
  back_one f high low (n ∷ m ∷ more) before x y cover few was back = absurd (omega arith)
  back_one f high low (n ∷ []) [] x y cover few was back = absurd (cc was)
  back_one f high low (n ∷ []) (b ∷ c ∷ more) x y cover few was back = absurd (cc was)
  back_one f high low (n ∷ []) (b ∷ []) x y cover few was back = (let same : n ≡ f b = cc in ap (λ (z : Slotted G). z ∷ []) (back b same))

  -- a slot that keeps its number and its handles
  pub key_set : (slots : List (Slotted G)) (x y : Slotted G) → key_of y ≡ key_of (get_or slots 0 x) → map key_of (set slots 0 y) ≡ map key_of slots
  key_set [] x y same = refl
  key_set (s ∷ ss) x y same = ap (λ (k : ℕ × HandleRange). k ∷ map key_of ss) same

  -- which versions outside of its range the entry has makes no difference
  half_same : (range : HandleRange) (tag : ℕ) (clears : Option HandleRange) (some others : List Version) (slots : List (Slotted G)) → CoverTo range.high range.low slots → kept range some ≡ kept range others → map (absorbed tag clears some) slots ≡ map (absorbed tag clears others) slots
  half_same range tag clears some others slots cover same =
      sym (all_parted range tag clears some slots (all_inside range.high range.low slots cover))
      ∙ ap (λ (vs : List Version). map (absorbed tag clears vs) slots) same
      ∙ all_parted range tag clears others slots (all_inside range.high range.low slots cover)

  pub both_halves : (tag : ℕ) (clears : Option HandleRange) (adds low high : List Version) (lower upper : HandleRange) (m : ℕ) (slots : List (Slotted G)) → Cover lower (take m slots) → Cover upper (drop m slots) → kept lower low ≡ kept lower adds → kept upper high ≡ kept upper adds → map (absorbed tag clears low) (take m slots) ++ map (absorbed tag clears high) (drop m slots) ≡ map (absorbed tag clears adds) slots
  both_halves tag clears adds low high lower upper m slots left right a b =
      ap (λ (r : List (Slotted G)). r ++ map (absorbed tag clears high) (drop m slots)) (half_same lower tag clears low adds (take m slots) left a)
      ∙ ap (λ (r : List (Slotted G)). map (absorbed tag clears adds) (take m slots) ++ r) (half_same upper tag clears high adds (drop m slots) right b)
      ∙ sym (map-append (absorbed tag clears adds) (take m slots) (drop m slots))
      ∙ ap (map (absorbed tag clears adds)) (take-append-drop m slots)

-- none of the versions lies in the range
pub none_kept : (range : HandleRange) (adds : List Version) → is_some (added_file range adds) ≡ false → kept range [] ≡ kept range adds
none_kept range adds e = sym (none_added (kept range adds) e)

pub kept_again : (range : HandleRange) (adds : List Version) → kept range (kept range adds) ≡ kept range adds
kept_again range adds = filter_twice (is_in range) (is_in range) (λ v e. e) adds
