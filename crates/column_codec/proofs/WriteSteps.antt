-- Writing part after part, as a loop does.
use Rattle.std.proofs.Common.{◌≡◌, ◌≢◌, ℕ, ℤ, zero, suc, ◌+◌, ◌-◌, ◌*◌, ◌/◌, ◌%◌, ◌^◌, ◌<◌, ◌≤◌, Bool, true, false, not, ltb, eqb, List, [], ◌∷◌, ◌++◌, length, take, drop, get_or, Option, Some, None, refl, sym, ap, ◌∙◌, append_assoc, arith}
use Rattle.std.proofs.lemmas.Bool.{le-ltb}
use Rattle.std.proofs.lemmas.List.{append-nil, drop_all}
use Rattle.std.proofs.Math.Nat.{pow-succ'}
use Rattle.std.proofs.lemmas.Option.{slice_get-get_or}
use Rattle.std.specs.List.{list_all}
use Rattle.std.specs.Int.{w64, cast_unsigned}
use Rattle.flash_put.proofs.Appending.{kept}
use Rattle.column_codec.specs.Lists.{given}
use Rattle.column_codec.specs.declared.texts.Span.{Span}
use Rattle.column_codec.specs.Texts.{texts_of}
use Rattle.column_codec.specs.Spelling as spelling
use Rattle.column_codec.proofs.ValueSteps.{item_first, item_got, value_first, null_passed}

-- What was added so far, and what is left of all.
abbrev pub Written : List ℕ → List ℕ → List ℕ → List ℕ → Type 0
Written old into left total = (front : List ℕ) × ((into ≡ old ++ front) × (front ++ left ≡ total))

pub starts : (old total : List ℕ) → Written old old total total
starts old total = ([], (sym (append-nil old), refl))

pub goes_on : (old into one left total mid : List ℕ) → Written old into (one ++ left) total → mid ≡ into ++ one → Written old mid left total
goes_on old into one left total mid w added =
    (w.0 ++ one, (added ∙ ap (λ (xs : List ℕ). xs ++ one) w.1.0 ∙ append_assoc old w.0 one, append_assoc w.0 one left ∙ w.1.1))

pub left_is : (old into left other total : List ℕ) → left ≡ other → Written old into left total → Written old into other total
left_is old into left other total e w = (w.0, (w.1.0, ap (λ (xs : List ℕ). w.0 ++ xs) (sym e) ∙ w.1.1))

pub fails : (old into left total new : List ℕ) → Written old into left total → take (length into) new ≡ into → take (length old) new ≡ old
fails old into left total new w k = kept old w.0 into new w.1.0 k

pub is_done : (old into left total : List ℕ) → left ≡ [] → Written old into left total → into ≡ old ++ total
is_done old into left total none w = w.1.0 ∙ ap (λ (xs : List ℕ). old ++ xs) (sym (append-nil w.0) ∙ ap (λ (xs : List ℕ). w.0 ++ xs) (sym none) ∙ w.1.1)

-- ---- numbers

pub high_fits : (n more : ℕ) → more ≢ 0 → n < 2 * 128 ^ more → n / 128 < 2 * 128 ^ (more - 1)
high_fits n zero ne lt = absurd (ne refl)
high_fits n (suc k) ne lt =
    let e : suc k - 1 ≡ k = omega arith in
    let front : n / 128 < 2 * 128 ^ k = omega (arith, pow-succ' 128 k) in
    rw e front

pub higher_more : (n more : ℕ) → more ≢ 0 → 128 ≤ n → spelling.higher more n ≡ (128 + n % 128) ∷ spelling.higher (more - 1) (n / 128)
unfolding spelling.higher
higher_more n zero ne high = absurd (ne refl)
higher_more n (suc k) ne high =
    let e : suc k - 1 ≡ k = omega arith in
    let f : ltb n 128 ≡ false = le-ltb _ _ high in
    rw (f, e) refl

-- ---- nulls

abbrev pub none_null : {X : Type 0} → List (Option X) → Bool
none_null values = list_all not (spelling.are_null values)

pub given_passed : {X : Type 0} (values : List (Option X)) (i : ℕ) (item : Option X) (x : X) (total : Bool) → i < length values → item ≡ get_or values i item → item ≡ Some x → none_null (drop i values) ≡ total → none_null (drop (i + 1) values) ≡ total
given_passed values i item x total lt is some so_far = sym (ap none_null (item_first values i item lt is ∙ ap (λ o. o ∷ drop (i + 1) values) some)) ∙ so_far

pub null_found : {X : Type 0} (values : List (Option X)) (i : ℕ) (item : Option X) (total : Bool) → i < length values → item ≡ get_or values i item → item ≡ None → none_null (drop i values) ≡ total → false ≡ total
null_found values i item total lt is none so_far = sym (ap none_null (item_first values i item lt is ∙ ap (λ o. o ∷ drop (i + 1) values) none)) ∙ so_far

pub all_given : {X : Type 0} (values : List (Option X)) (i : ℕ) (total : Bool) → length values ≤ i → none_null (drop i values) ≡ total → true ≡ total
all_given values i total le so_far = sym (ap none_null (drop_all i values le)) ∙ so_far

pub next_byte : (nulls : List Bool) (j count : ℕ) → j < count → spelling.bytes_from nulls j (count - j) ≡ (spelling.byte nulls (8 * j) ∷ []) ++ spelling.bytes_from nulls (j + 1) (count - (j + 1))
next_byte nulls j count lt =
    let k : count - j ≡ suc (count - (j + 1)) = omega arith in
    ap (spelling.bytes_from nulls j) k

pub no_byte : (nulls : List Bool) (j count : ℕ) → count ≤ j → spelling.bytes_from nulls j (count - j) ≡ []
no_byte nulls j count le =
    let k : count - j ≡ 0 = omega arith in
    ap (spelling.bytes_from nulls j) k

-- ---- values

pub null_left : {S X : Type 0} (write : S → X → List ℕ) (next : X → S) (state : S) (values : List (Option X)) (i : ℕ) (item : Option X) → i < length values → item ≡ get_or values i item → item ≡ None
    → spelling.each write next state (given (drop i values)) ≡ spelling.each write next state (given (drop (i + 1) values))
null_left write next state values i item lt is none = ap (spelling.each write next state) (null_passed values i item lt is none)

pub value_left : {S X : Type 0} (write : S → X → List ℕ) (next : X → S) (state : S) (values : List (Option X)) (i : ℕ) (item : Option X) (x : X) → i < length values → item ≡ get_or values i item → item ≡ Some x
    → spelling.each write next state (given (drop i values)) ≡ write state x ++ spelling.each write next (next x) (given (drop (i + 1) values))
value_left write next state values i item x lt is some = ap (spelling.each write next state) (value_first values i item x lt is some)

pub none_left : {S X : Type 0} (write : S → X → List ℕ) (next : X → S) (state : S) (values : List (Option X)) (i : ℕ) → length values ≤ i → spelling.each write next state (given (drop i values)) ≡ []
none_left write next state values i le = ap (λ vs. spelling.each write next state (given vs)) (drop_all i values le)

pub item_any : {X : Type 0} (xs : List X) (i : ℕ) (d x : X) → i < length xs → get_or xs i d ≡ x → x ≡ get_or xs i x
item_any xs i d x lt is = item_got xs i x lt (slice_get-get_or xs i d lt ∙ ap Some is)

pub int_is : (before : ℕ) (z : ℤ) → spelling.int before z ≡ spelling.uint before (cast_unsigned w64 z)
unfolding spelling.int
int_is before z = refl

pub first_shown : {S X : Type 0} (write : S → X → List ℕ) (next : X → S) (state : S) (mode : ℕ) (x : X) (others : List X) (all : List X) → mode ≢ 0 → all ≡ x ∷ others → spelling.each write next state (spelling.shown mode all) ≡ write state x
first_shown write next state mode x others all ne is =
    let e : eqb mode 0 ≡ false = grind arith in
    rw (e, is) (append-nil (write state x))

pub none_shown : {S X : Type 0} (write : S → X → List ℕ) (next : X → S) (state : S) (mode : ℕ) (all : List X) → mode ≢ 0 → all ≡ [] → spelling.each write next state (spelling.shown mode all) ≡ []
none_shown write next state mode all ne is =
    let e : eqb mode 0 ≡ false = grind arith in
    rw (e, is) refl

pub none_given : {X : Type 0} (values : List (Option X)) (i : ℕ) → length values ≤ i → given (drop i values) ≡ []
none_given values i le = ap given (drop_all i values le)

pub are_null_places : (bytes : List ℕ) (spans : List (Option Span)) → spelling.are_null (texts_of bytes spans) ≡ spelling.are_null spans
are_null_places bytes [] = refl
are_null_places bytes (None ∷ spans) = ap (λ bs. true ∷ bs) (are_null_places bytes spans)
are_null_places bytes (Some s ∷ spans) = ap (λ bs. false ∷ bs) (are_null_places bytes spans)
