-- The places of chunks, and of what is in them.
use Rattle.std.proofs.Common.{◌≡◌, ◌∙◌, refl, sym, ap, ap₂, subst, ℕ, zero, suc, ◌+◌, ◌-◌, ◌<◌, List, [], ◌∷◌, ◌++◌, append_assoc, length, map, take, drop, get_or, slice_get, Some, arith}
use Rattle.std.proofs.lemmas.List.{length-append, take_more}
use Rattle.std.proofs.lemmas.Option.{slice_get-get_or}
use Rattle.std.specs.List.{AllByRecursion}
use Rattle.delta_index.specs.Chunks.{flat, starts_from, IsSized, AreChunks, IsChunkOf}
use Rattle.delta_index.specs.Indexes.{Entry}

pub more_starts : (from : ℕ) (cs : List (List Entry)) (c : List Entry) → starts_from from (cs ++ c ∷ []) ≡ starts_from from cs ++ (from + length (flat cs)) ∷ []
more_starts from [] c = let e : from ≡ from + 0 = omega arith in ap (λ n. n ∷ []) e
more_starts from (x ∷ cs) c =
    let e : from + length x + length (flat cs) ≡ from + length (x ++ flat cs) = omega (arith, length-append x (flat cs)) in
    ap (λ t. from ∷ t) (more_starts (from + length x) cs c ∙ ap (λ n. starts_from (from + length x) cs ++ n ∷ []) e)

pub start_at : (from : ℕ) (cs : List (List Entry)) (j d : ℕ) → j < length cs → get_or (starts_from from cs) j d ≡ from + length (flat (take j cs))
start_at from [] j d lt = absurd (omega arith)
start_at from (x ∷ cs) zero d lt = omega arith
start_at from (x ∷ cs) (suc j) d lt =
    let e : from + length x + length (flat (take j cs)) ≡ from + length (x ++ flat (take j cs)) = omega (arith, length-append x (flat (take j cs))) in
    start_at (from + length x) cs j d (omega arith) ∙ e

same_length : (from : ℕ) (cs : List (List Entry)) → length (starts_from from cs) ≡ length cs
same_length from [] = refl
same_length from (x ∷ cs) = ap suc (same_length (from + length x) cs)

pub has_start : (cs : List (List Entry)) (starts : List ℕ) (len j : ℕ) → AreChunks cs starts len → j < length cs → j < length starts
has_start cs starts len j are lt = omega (arith, lt, same_length 0 cs, ap length are.places)

pub start_is : (cs : List (List Entry)) (starts : List ℕ) (len j start d : ℕ) → AreChunks cs starts len → j < length cs → start ≡ get_or starts j d → start ≡ length (flat (take j cs))
start_is cs starts len j start d are lt at =
    let e : start ≡ 0 + length (flat (take j cs)) = at ∙ ap (λ ss. get_or ss j d) are.places ∙ start_at 0 cs j d lt in
    omega (arith, e)

in_front : (xs ys : List Entry) (i : ℕ) (e : Entry) → slice_get xs i ≡ Some e → slice_get (xs ++ ys) i ≡ Some e
in_front [] ys i e is = absurd (cc is)
in_front (x ∷ xs) ys zero e is = is
in_front (x ∷ xs) ys (suc i) e is = in_front xs ys i e is

behind : (xs ys : List Entry) (n : ℕ) → slice_get (xs ++ ys) (length xs + n) ≡ slice_get ys n
behind [] ys n = let e : 0 + n ≡ n = omega arith in ap (slice_get ys) e
behind (x ∷ xs) ys n =
    let e : length (x ∷ xs) + n ≡ suc (length xs + n) = omega arith in
    ap (slice_get (x ∷ (xs ++ ys))) e ∙ behind xs ys n

-- an entry of a chunk stands behind the entries of the chunks before
pub flat_at : (cs : List (List Entry)) (j i : ℕ) (c : List Entry) (e : Entry) → slice_get cs j ≡ Some c → slice_get c i ≡ Some e → slice_get (flat cs) (length (flat (take j cs)) + i) ≡ Some e
flat_at [] j i c e a b = absurd (cc a)
flat_at (x ∷ cs) zero i c e a b =
    let same : c ≡ x = cc a in
    let n : length (flat (take zero (x ∷ cs))) + i ≡ i = omega arith in
    ap (slice_get (x ++ flat cs)) n ∙ in_front x (flat cs) i e (subst (λ t. slice_get t i ≡ Some e) same b)
flat_at (x ∷ cs) (suc j) i c e a b =
    let n : length (x ++ flat (take j cs)) + i ≡ length x + (length (flat (take j cs)) + i) = omega (arith, length-append x (flat (take j cs))) in
    ap (slice_get (x ++ flat cs)) n ∙ behind x (flat cs) (length (flat (take j cs)) + i) ∙ flat_at cs j i c e a b

-- ---- one more chunk

pub flat_more : (cs : List (List Entry)) (c : List Entry) → flat (cs ++ c ∷ []) ≡ flat cs ++ c
flat_more [] c = none c
  where
    none : (xs : List Entry) → xs ++ [] ≡ xs
    none [] = refl
    none (x ∷ xs) = ap (λ t. x ∷ t) (none xs)
flat_more (x ∷ cs) c = ap (λ t. x ++ t) (flat_more cs c) ∙ sym (append_assoc x (flat cs) c)

sized_more : (cs : List (List Entry)) (c : List Entry) → AllByRecursion IsSized cs → IsSized c → AllByRecursion IsSized (cs ++ c ∷ [])
sized_more [] c all one = (one, tt)
sized_more (x ∷ cs) c all one = (all.0, sized_more cs c all.1 one)

pub one_more_chunk : (cs : List (List Entry)) (c : List Entry) (starts : List ℕ) (len : ℕ) (all : List (List Entry)) (starts' : List ℕ) (len' : ℕ) → AreChunks cs starts len → IsSized c
    → all ≡ cs ++ c ∷ [] → starts' ≡ starts ++ len ∷ [] → len' ≡ len + length c → AreChunks all starts' len'
one_more_chunk cs c starts len all starts' len' was one is places count = subst (λ t. AreChunks t starts' len') (sym is) now
  where
    from_none : len ≡ 0 + length (flat cs)
    from_none = omega (arith, was.count)

    now : AreChunks (cs ++ c ∷ []) starts' len'
    now = record {
      sized = sized_more cs c was.sized one;
      places = places ∙ ap₂ (λ ss n. ss ++ n ∷ []) was.places from_none ∙ sym (more_starts 0 cs c);
      count = omega (arith, was.count, count, length-append (flat cs) c, ap length (flat_more cs c));
    }

-- ---- one of the chunks

pub sized_item : {A : Type 0} (v : A → List Entry) (xs : List A) (j : ℕ) (x : A) → AllByRecursion IsSized (map v xs) → j < length xs → x ≡ get_or xs j x → IsSized (v x)
sized_item v [] j x all lt is = absurd (omega arith)
sized_item v (y ∷ xs) zero x all lt is = subst (λ t. IsSized (v t)) (sym is) all.0
sized_item v (y ∷ xs) (suc j) x all lt is = sized_item v xs j x all.1 (omega arith) is

pub take_chunk : (cs : List (List Entry)) (j : ℕ) → j < length cs → flat (take (j + 1) cs) ≡ flat (take j cs) ++ get_or cs j []
take_chunk cs j lt = ap flat (take_more cs j [] lt) ∙ flat_more (take j cs) (get_or cs j [])

pub drop_chunk : (cs : List (List Entry)) (j : ℕ) → j < length cs → flat (drop j cs) ≡ get_or cs j [] ++ flat (drop (j + 1) cs)
drop_chunk [] j lt = absurd (omega arith)
drop_chunk (c ∷ cs) zero lt = refl
drop_chunk (c ∷ cs) (suc j) lt =
    let n : suc (j + 1) ≡ suc j + 1 = omega arith in
    drop_chunk cs j (omega arith) ∙ ap (λ m. get_or cs j [] ++ flat (drop m (c ∷ cs))) n

place_in_chunk : (cs : List (List Entry)) (k j start : ℕ) → IsChunkOf cs k j → start ≡ length (flat (take j cs)) → k - start < length (get_or cs j [])
place_in_chunk cs k j start is at = omega (arith, at, is.from, is.to, ap length (take_chunk cs j is.within), length-append (flat (take j cs)) (get_or cs j []))

-- the entry at a place among all, in its chunk
pub in_chunk : (cs : List (List Entry)) (k j start : ℕ) (chunk : List Entry) (d : Entry) → IsChunkOf cs k j → start ≡ length (flat (take j cs)) → chunk ≡ get_or cs j []
    → slice_get (flat cs) k ≡ Some (get_or chunk (k - start) d)
in_chunk cs k j start chunk d is at own =
    let n : length (flat (take j cs)) + (k - start) ≡ k = omega (arith, at, is.from) in
    let lt : k - start < length chunk = omega (arith, place_in_chunk cs k j start is at, ap length own) in
    sym (ap (slice_get (flat cs)) n) ∙ flat_at cs j (k - start) chunk (get_or chunk (k - start) d) (slice_get-get_or cs j [] is.within ∙ ap Some (sym own)) (slice_get-get_or chunk (k - start) d lt)
