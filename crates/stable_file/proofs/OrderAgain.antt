-- Handles of versions that rise don't fall, within a pack and from one to the next.
use Rattle.std.proofs.Common.{◌≡◌, ℕ, ℤ, zero, suc, ◌+◌, ◌-◌, ◌*◌, ◌<◌, ◌≤◌, Bool, true, false, List, [], ◌∷◌, length, map, take, drop, Option, Some, None, sym, ap, ◌∙◌, subst, arith, length-drop, length-take}
use Rattle.std.specs.Prelude.{◌||◌, ◌&&◌, FitsSigned, int_lt, nat_lt}
use Rattle.std.specs.Ordering.{int_eq}
use Rattle.std.specs.Int.{w64}
use Rattle.std.proofs.lemmas.Bool.Decides.{Decides-int_eq}
use Rattle.std.proofs.lemmas.Int.{ints}
use Rattle.std.proofs.lemmas.List.{get_or-take, get_or-drop}
use Rattle.std.proofs.Math.Nat.{suc-mul}
use Rattle.column_block.specs.declared.cell.Version.{Version}
use Rattle.column_codec.specs.Numbers.{AllFit}
use Rattle.pack_codec.specs.declared.field.Field.TheVariants as field
use Rattle.pack_codec.specs.Spelling.{int_of}
use Rattle.column_block.specs.Order.{is_before, rise_after, rise}
use Rattle.stable_file.specs.Ranges.{handle_at}
use Rattle.stable_file.specs.Building.{first_cuts}
use Rattle.stable_file.proofs.CutsAgain.{both, rise_take, rise_drop}

-- ---- two handles

same_order : (a : ℤ) → int_lt a a ≡ false
same_order a = grind (arith, ints)

over : (a b c : ℤ) → int_lt b a ≡ false → int_lt c b ≡ false → int_lt c a ≡ false
over a b c h k = grind (arith, ints)

not_above : (a b : ℤ) (later : Bool) → (int_lt a b || (int_eq a b && later)) ≡ true → int_lt b a ≡ false
not_above a b later h = grind (arith, ints, Decides-int_eq)

no_fall : (v w : Version) → is_before v w ≡ true → int_lt w.handle v.handle ≡ false
no_fall v w h = not_above v.handle w.handle (nat_lt v.ts w.ts) h

-- ---- the handles of versions that rise

none_below : (v : Version) (ws : List Version) (j : ℕ) → rise_after v ws ≡ true → j < length ws → int_lt (handle_at ws j) v.handle ≡ false
none_below v [] j rises lt = absurd (omega arith)
none_below v (w ∷ ws) zero rises lt = no_fall v w (both (is_before v w) (rise_after w ws) rises).0
none_below v (w ∷ ws) (suc j) rises lt =
    let p = both (is_before v w) (rise_after w ws) rises in
    over v.handle w.handle (handle_at ws j) (no_fall v w p.0) (none_below w ws j p.1 (omega arith))

pub in_order : (xs : List Version) (i j : ℕ) → rise xs ≡ true → i ≤ j → j < length xs → int_lt (handle_at xs j) (handle_at xs i) ≡ false
in_order [] i j rises le lt = absurd (omega arith)
in_order (x ∷ ws) zero zero rises le lt = same_order x.handle
in_order (x ∷ ws) zero (suc j) rises le lt = none_below x ws j rises (omega arith)
in_order (x ∷ ws) (suc i) zero rises le lt = absurd (omega arith)
in_order (x ∷ []) (suc i) (suc j) rises le lt = absurd (omega arith)
in_order (x ∷ w ∷ ws) (suc i) (suc j) rises le lt = in_order (w ∷ ws) i j (both (is_before x w) (rise_after w ws) rises).1 (omega arith) (omega arith)

pub handle_fits : (versions : List Version) (i : ℕ) → AllFit (map (int_of field.Handle) versions) → i < length versions → FitsSigned w64 (handle_at versions i)
handle_fits [] i all lt = absurd (omega arith)
handle_fits (v ∷ versions) zero all lt = all.0
handle_fits (v ∷ versions) (suc i) all lt = handle_fits versions i all.1 (omega arith)

-- ---- from pack to pack

-- a pack may begin with this handle behind one whose last handle is that
abbrev pub Begins : Option ℤ → ℤ → Type 0
Begins None low = Unit {0}
Begins (Some high) low = int_lt low high ≡ false

-- handles don't fall in these packs, before which this handle stands
abbrev pub InOrder : Option ℤ → List (List Version) → Type 0
InOrder high [] = Unit {0}
InOrder high (cut ∷ others) = Begins high (handle_at cut 0) × (int_lt (handle_at cut (length cut - 1)) (handle_at cut 0) ≡ false) × InOrder (Some (handle_at cut (length cut - 1))) others

begins_as : (high : Option ℤ) (a b : ℤ) → a ≡ b → Begins high b → Begins high a
begins_as high a b e h = subst (λ (z : ℤ). Begins high z) (sym e) h

first_of_cut : (rows : ℕ) (xs : List Version) → 0 < rows → handle_at (take rows xs) 0 ≡ handle_at xs 0
first_of_cut rows xs some = ap (λ (v : Version). v.handle) (get_or-take rows xs 0 _ some)

own_order : (rows : ℕ) (xs : List Version) → 0 < rows → rise xs ≡ true → 0 < length xs → int_lt (handle_at (take rows xs) (length (take rows xs) - 1)) (handle_at (take rows xs) 0) ≡ false
own_order rows xs some rises any =
    let len = length-take rows xs in
    in_order (take rows xs) 0 (length (take rows xs) - 1) (rise_take rows xs some rises) (omega arith) (omega (arith, len, some, any))

next_order : (rows : ℕ) (xs : List Version) → 0 < rows → rise xs ≡ true → rows < length xs → int_lt (handle_at (drop rows xs) 0) (handle_at (take rows xs) (length (take rows xs) - 1)) ≡ false
next_order rows xs some rises lt =
    let len = length-take rows xs in
    let k : length (take rows xs) - 1 ≡ rows - 1 = omega (arith, len, lt) in
    let m : rows + 0 ≡ rows = omega arith in
    let last : handle_at (take rows xs) (length (take rows xs) - 1) ≡ handle_at xs (rows - 1) = ap (handle_at (take rows xs)) k ∙ ap (λ (v : Version). v.handle) (get_or-take rows xs (rows - 1) _ (omega (arith, some))) in
    let first : handle_at (drop rows xs) 0 ≡ handle_at xs rows = ap (λ (v : Version). v.handle) (get_or-drop rows xs 0 _) ∙ ap (handle_at xs) m in
    rw (first, last) (in_order xs (rows - 1) rows rises (omega arith) lt)

pub cuts_in_order : (packs rows : ℕ) (high : Option ℤ) (xs : List Version) → 0 < rows → (packs - 1) * rows < length xs → rise xs ≡ true → Begins high (handle_at xs 0) → InOrder high (first_cuts packs rows xs)
cuts_in_order zero rows high xs some reach rises begins = tt
cuts_in_order (suc zero) rows high xs some reach rises begins =
    (begins_as high (handle_at (take rows xs) 0) (handle_at xs 0) (first_of_cut rows xs some) begins, own_order rows xs some rises (omega (arith, reach)), tt)
cuts_in_order (suc (suc packs)) rows high xs some reach rises begins =
    let k : suc (suc packs) - 1 ≡ suc packs = omega arith in
    let j : packs ≡ suc packs - 1 = omega arith in
    let sum : packs * rows + rows < length xs = subst (λ m. m < length xs) (suc-mul packs rows) (subst (λ m. m * rows < length xs) k reach) in
    let fewer : packs * rows < length (drop rows xs) = omega (arith, sum, length-drop rows xs) in
    let left : (suc packs - 1) * rows < length (drop rows xs) = subst (λ m. m * rows < length (drop rows xs)) j fewer in
    let lt : rows < length xs = omega (arith, sum) in (
      begins_as high (handle_at (take rows xs) 0) (handle_at xs 0) (first_of_cut rows xs some) begins,
      own_order rows xs some rises (omega (arith, lt)),
      cuts_in_order (suc packs) rows (Some (handle_at (take rows xs) (length (take rows xs) - 1))) (drop rows xs) some left (rise_drop rows xs lt rises) (next_order rows xs some rises lt),
    )
