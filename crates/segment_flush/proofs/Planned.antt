-- Plans that are made slot by slot, and put from the last one on.
use Rattle.std.proofs.Common.{◌≡◌, ◌∙◌, ℕ, zero, suc, ◌+◌, ◌<◌, ◌≤◌, Bool, true, false, List, [], ◌∷◌, ◌++◌, length, map, take, drop, set, Option, Some, None, refl, sym, ap, subst, get_or, arith, add-one, append_assoc, append-nil, length-append}
use Rattle.std.specs.Prelude.{slice_get}
use Rattle.std.specs.List.{AllByRecursion, filter_map}
use Rattle.std.proofs.lemmas.List.{map-append, take_all}
use Rattle.std.proofs.lemmas.List.Elements.{filter_map-append}
use Rattle.column_file.specs.declared.file.ColumnFile.{ColumnFile}
use Rattle.segment_list.specs.Flushes.{after_file, flushed_files, flushed_slot}
use Rattle.segment_list.specs.Slots.{Slotted}
use Rattle.segment_list.specs.declared.flush.Flush.{Flush}
use Rattle.segment_list.proofs.Flushing.{get_some}
use Rattle.manifest_form.specs.declared.state.Edit.{Edit}
use Rattle.manifest_form.specs.declared.state.Edit.TheVariants as edit
use Rattle.manifest_form.specs.declared.state.StoredFile.{StoredFile}
use Rattle.manifest_form.specs.declared.state.StoredSegment.{StoredSegment}
use Rattle.segment_flush.specs.Flushing.{after_one, after_slots, flushed_slots, next_of, one_flushed, plan_for, plan_of, plans_of, puts_of, segment_edits, with_put}
use Rattle.segment_flush.specs.Names.{name_of, stored_of}

pub one_more : {X : Type 0} (xs : List X) (i : ℕ) (x : X) → slice_get xs i ≡ Some x → take (suc i) xs ≡ take i xs ++ x ∷ []
one_more [] i x h = absurd (cc h)
one_more (y ∷ ys) zero x h = let same : y ≡ x = cc h in ap (λ z. z ∷ []) same
one_more (y ∷ ys) (suc i) x h = ap (λ zs. y ∷ zs) (one_more ys i x h)

with_more : (b : Bool) (s : StoredSegment) (xs ys : List StoredSegment) → with_put b s (xs ++ ys) ≡ with_put b s xs ++ ys
with_more true s xs ys = refl
with_more false s xs ys = refl

module _ {G : Type 0} (p : Slotted G → Bool) where
  -- ---- one slot behind others

  after_more : (n : ℕ) (ss : List (Slotted G)) (s : Slotted G) → after_slots p n (ss ++ s ∷ []) ≡ after_one (p s) (after_slots p n ss) s
  after_more n [] s = refl
  after_more n (t ∷ ts) s = after_more (after_one (p t) n t) ts s

  plans_more : (n : ℕ) (ss : List (Slotted G)) (s : Slotted G) → plans_of p n (ss ++ s ∷ []) ≡ plans_of p n ss ++ plan_of (p s) (after_slots p n ss) s ∷ []
  plans_more n [] s = refl
  plans_more n (t ∷ ts) s = ap (λ (r : List (Option Flush)). plan_of (p t) n t ∷ r) (plans_more (after_one (p t) n t) ts s)

  puts_more : (n : ℕ) (ss : List (Slotted G)) (s : Slotted G) → puts_of p n (ss ++ s ∷ []) ≡ puts_of p n ss ++ with_put (p s) (stored_of (flushed_slot (after_slots p n ss) s)) []
  puts_more n [] s = refl
  puts_more n (t ∷ ts) s = ap (with_put (p t) (stored_of (flushed_slot n t))) (puts_more (after_one (p t) n t) ts s) ∙ with_more (p t) (stored_of (flushed_slot n t)) (puts_of p (after_one (p t) n t) ts) _

  -- ---- the next one

  pub next_after : (n : ℕ) (slots : List (Slotted G)) (i : ℕ) (s : Slotted G) → slice_get slots i ≡ Some s → after_slots p n (take (i + 1) slots) ≡ after_one (p s) (after_slots p n (take i slots)) s
  next_after n slots i s h = rw add-one (ap (after_slots p n) (one_more slots i s h)) ∙ after_more n (take i slots) s

  pub next_plan : (n : ℕ) (slots : List (Slotted G)) (i : ℕ) (s : Slotted G) → slice_get slots i ≡ Some s → plans_of p n (take (i + 1) slots) ≡ plans_of p n (take i slots) ++ plan_of (p s) (after_slots p n (take i slots)) s ∷ []
  next_plan n slots i s h = rw add-one (ap (plans_of p n) (one_more slots i s h)) ∙ plans_more n (take i slots) s

  pub next_put : (n : ℕ) (slots : List (Slotted G)) (i : ℕ) (s : Slotted G) → slice_get slots i ≡ Some s → puts_of p n (take (i + 1) slots) ≡ puts_of p n (take i slots) ++ with_put (p s) (stored_of (flushed_slot (after_slots p n (take i slots)) s)) []
  next_put n slots i s h = rw add-one (ap (puts_of p n) (one_more slots i s h)) ∙ puts_more n (take i slots) s

  -- ---- what a place has

  pub plan_at : (n : ℕ) (slots : List (Slotted G)) (i : ℕ) (s : Slotted G) → slice_get slots i ≡ Some s → slice_get (plans_of p n slots) i ≡ Some (plan_of (p s) (after_slots p n (take i slots)) s)
  plan_at n [] i s h = absurd (cc h)
  plan_at n (t ∷ ts) zero s h = let same : t ≡ s = cc h in ap (λ (u : Slotted G). Some (plan_of (p u) n u)) same
  plan_at n (t ∷ ts) (suc i) s h = plan_at (after_one (p t) n t) ts i s h

  pub as_many : (n : ℕ) (slots : List (Slotted G)) → length (plans_of p n slots) ≡ length slots
  as_many n [] = refl
  as_many n (s ∷ ss) = ap suc (as_many (after_one (p s) n s) ss)

-- ---- from the last one on

module _ {G : Type 0} (p : Slotted G → Bool) where
  -- the slot at a place is put, where those behind it are
  pub one_put : (n : ℕ) (slots : List (Slotted G)) (i : ℕ) (s : Slotted G) → slice_get slots i ≡ Some s
      → set (take (suc i) slots ++ drop (suc i) (flushed_slots p n slots)) i (one_flushed (p s) (after_slots p n (take i slots)) s) ≡ take i slots ++ drop i (flushed_slots p n slots)
  one_put n [] i s h = absurd (cc h)
  one_put n (t ∷ ts) zero s h = let same : t ≡ s = cc h in ap (λ (u : Slotted G). one_flushed (p u) n u ∷ flushed_slots p (after_one (p t) n t) ts) (sym same)
  one_put n (t ∷ ts) (suc i) s h = ap (λ (r : List (Slotted G)). t ∷ r) (one_put (after_one (p t) n t) ts i s h)

  -- what stands at a place then is what stood there
  pub still_there : (n : ℕ) (slots : List (Slotted G)) (i : ℕ) → i < length slots → slice_get (take (suc i) slots ++ drop (suc i) (flushed_slots p n slots)) i ≡ slice_get slots i
  still_there n [] i lt = absurd (omega (arith, lt))
  still_there n (t ∷ ts) zero lt = refl
  still_there n (t ∷ ts) (suc i) lt = still_there (after_one (p t) n t) ts i (omega (arith, lt))

  -- before the first one is put
  pub none_put : (k n : ℕ) (slots : List (Slotted G)) → length slots ≤ k → slots ≡ take k slots ++ drop k (flushed_slots p n slots)
  none_put zero n [] le = refl
  none_put (suc k) n [] le = refl
  none_put zero n (s ∷ ss) le = absurd (omega (arith, le))
  none_put (suc k) n (s ∷ ss) le = ap (λ (r : List (Slotted G)). s ∷ r) (none_put k (after_one (p s) n s) ss (omega (arith, le)))

pub at_place : {X : Type 0} (xs : List X) (k : ℕ) → k < length xs → (x : X) × (slice_get xs k ≡ Some x)
at_place [] k lt = absurd (omega (arith, lt))
at_place (x ∷ xs) zero lt = (x, refl)
at_place (x ∷ xs) (suc k) lt = at_place xs k (omega (arith, lt))

pub last_both : {X : Type 0} (xs ys : List X) (x y : X) → xs ++ x ∷ [] ≡ ys ++ y ∷ [] → (xs ≡ ys) × (x ≡ y)
last_both [] [] x y e = (refl, cc e)
last_both [] (z ∷ zs) x y e = absurd (let more : [] ≡ zs ++ y ∷ [] = cc e in let long = ap length more in let n = length-append zs (y ∷ []) in omega (arith, long, n))
last_both (z ∷ zs) [] x y e = absurd (let more : zs ++ x ∷ [] ≡ [] = cc e in let long = ap length more in let n = length-append zs (x ∷ []) in omega (arith, long, n))
last_both (z ∷ zs) (w ∷ ws) x y e =
    let head : z ≡ w = cc e in
    let tail : zs ++ x ∷ [] ≡ ws ++ y ∷ [] = cc e in
    let rest = last_both zs ws x y tail in
    ((λ i. head i ∷ rest.0 i), rest.1)

-- the last of the plans is that of the slot before the place
pub last_plan : {G : Type 0} (p : Slotted G → Bool) (n : ℕ) (slots : List (Slotted G)) (k : ℕ) (s : Slotted G) (rest : List (Option Flush)) (last : Option Flush) → slice_get slots k ≡ Some s → take (suc k) (plans_of p n slots) ≡ rest ++ last ∷ [] → (rest ≡ take k (plans_of p n slots)) × (last ≡ plan_of (p s) (after_slots p n (take k slots)) s)
last_plan p n slots k s rest last h e = last_both rest (take k (plans_of p n slots)) last (plan_of (p s) (after_slots p n (take k slots)) s) (sym e ∙ one_more (plans_of p n slots) k (plan_of (p s) (after_slots p n (take k slots)) s) (plan_at p n slots k s h))

-- ---- names, file by file

pub names_more : (files : List ColumnFile) (i : ℕ) (f : ColumnFile) → slice_get files i ≡ Some f → filter_map name_of (take (i + 1) files) ≡ filter_map name_of (take i files) ++ filter_map name_of (f ∷ [])
names_more files i f h = rw add-one (ap (filter_map name_of) (one_more files i f h)) ∙ filter_map-append name_of (take i files) (f ∷ [])

pub set_same : {X : Type 0} (xs : List X) (i : ℕ) (x : X) → slice_get xs i ≡ Some x → set xs i x ≡ xs
set_same [] i x h = absurd (cc h)
set_same (y ∷ ys) zero x h = let same : y ≡ x = cc h in ap (λ z. z ∷ ys) (sym same)
set_same (y ∷ ys) (suc i) x h = ap (λ zs. y ∷ zs) (set_same ys i x h)

pub planned_next : {G : Type 0} (b : Bool) (n : ℕ) (s : Slotted G) → next_of n (plan_of b n s) ≡ after_one b n s
planned_next true n s = refl
planned_next false n s = refl

-- ---- every slot of those that are flushed

pub none_planned : {G : Type 0} (b : Bool) (n : ℕ) (s : Slotted G) → None ≡ plan_of b n s → b ≡ false
none_planned true n s e = absurd (cc e)
none_planned false n s e = refl

pub some_planned : {G : Type 0} (b : Bool) (n : ℕ) (s : Slotted G) (flush : Flush) → Some flush ≡ plan_of b n s → (b ≡ true) × (flush ≡ plan_for n s)
some_planned true n s flush e = (refl, cc e)
some_planned false n s flush e = absurd (cc e)

flushed_long : (n : ℕ) (fs : List ColumnFile) → length (flushed_files n fs) ≡ length fs
flushed_long n [] = refl
flushed_long n (f ∷ fs) = ap suc (flushed_long (after_file n f) fs)

pub all_there : (n : ℕ) (fs : List ColumnFile) → take (length fs) (flushed_files n fs) ≡ flushed_files n fs
all_there n fs = take_all (length fs) (flushed_files n fs) (let same = flushed_long n fs in omega (arith, same))

pub all_at : {X : Type 0} (P : X → Type 0) (xs : List X) (i : ℕ) (x : X) → slice_get xs i ≡ Some x → AllByRecursion P xs → P x
all_at P [] i x h all = absurd (cc h)
all_at P (y ∷ ys) zero x h all = let same : y ≡ x = cc h in subst P same all.0
all_at P (y ∷ ys) (suc i) x h all = all_at P ys i x h all.1

edits_more : (xs ys : List StoredSegment) → segment_edits (xs ++ ys) ≡ segment_edits xs ++ segment_edits ys
edits_more xs ys = map-append (λ (s : StoredSegment). edit.Segment s) xs ys

pub next_edits : {G : Type 0} (p : Slotted G → Bool) (n : ℕ) (slots : List (Slotted G)) (i : ℕ) (s : Slotted G) (old now new : List Edit) → slice_get slots i ≡ Some s
    → now ≡ old ++ segment_edits (puts_of p n (take i slots))
    → new ≡ now ++ segment_edits (with_put (p s) (stored_of (flushed_slot (after_slots p n (take i slots)) s)) [])
    → new ≡ old ++ segment_edits (puts_of p n (take (i + 1) slots))
next_edits p n slots i s old now new h so_far more =
    let one = with_put (p s) (stored_of (flushed_slot (after_slots p n (take i slots)) s)) [] in
    more ∙ ap (λ (es : List Edit). es ++ segment_edits one) so_far ∙ append_assoc old (segment_edits (puts_of p n (take i slots))) (segment_edits one)
    ∙ ap (λ (es : List Edit). old ++ es) (sym (edits_more (puts_of p n (take i slots)) one) ∙ ap segment_edits (sym (next_put p n slots i s h)))

-- what a slice has at an index
pub index_there : {X : Type 0} (xs ys : List X) (i : ℕ) (x : X) → ys ≡ xs → i < length xs → x ≡ get_or ys i x → slice_get xs i ≡ Some x
index_there xs ys i x same lt is = get_some xs i x lt ∙ ap (λ (y : _). Some y) (sym (is ∙ ap (λ l. get_or l i x) same))

some_both : {X : Type 0} {a b : X} {o : Option X} → o ≡ Some a → o ≡ Some b → a ≡ b
some_both e f = cc

pub planned_there : {G : Type 0} (p : Slotted G → Bool) (n : ℕ) (slots : List (Slotted G)) (i : ℕ) (s : Slotted G) (plan : Option Flush) → slice_get slots i ≡ Some s → slice_get (plans_of p n slots) i ≡ Some plan → plan ≡ plan_of (p s) (after_slots p n (take i slots)) s
planned_there p n slots i s plan h there = some_both there (plan_at p n slots i s h)

pub put_edits : {G : Type 0} (b : Bool) (n : ℕ) (s : Slotted G) (flush : Flush) (segment : StoredSegment) (old new : List Edit) → (b ≡ true) × (flush ≡ plan_for n s)
    → segment ≡ record { id = s.id; range = s.range; stable = s.stable_number; delta = filter_map name_of flush.layer }
    → new ≡ old ++ edit.Segment segment ∷ []
    → new ≡ old ++ segment_edits (with_put b (stored_of (flushed_slot n s)) [])
put_edits {G = G} b n s flush segment old new planned stored pushed =
    pushed ∙ ap (λ (z : StoredSegment). old ++ edit.Segment z ∷ []) (stored ∙ ap (λ (fs : List ColumnFile). with_delta s (filter_map name_of fs)) (ap (λ (z : Flush). z.layer) planned.1 ∙ sym (all_there n s.files)))
    ∙ ap (λ (c : Bool). old ++ segment_edits (with_put c (stored_of (flushed_slot n s)) [])) (sym planned.0)
  where
    with_delta : Slotted G → List StoredFile → StoredSegment
    with_delta s delta = record { id = s.id; range = s.range; stable = s.stable_number; delta = delta }

pub no_edits : (b : Bool) (s : StoredSegment) (old : List Edit) → b ≡ false → old ≡ old ++ segment_edits (with_put b s [])
no_edits b s old none = sym (ap (λ (c : Bool). old ++ segment_edits (with_put c s [])) none ∙ append-nil old)
