-- Reading items one after the other, as a loop does.
use Rattle.std.proofs.Common.{◌≡◌, ℕ, suc, ◌-◌, ◌+◌, ◌≤◌, ◌<◌, List, [], ◌∷◌, ◌++◌, length, drop, get_or, Result, Ok, Err, refl, sym, ap, ◌∙◌, append_assoc, arith}
use Rattle.std.proofs.lemmas.List.{append-nil, drop_all, drop_more}
use Rattle.flash_list.specs.Steps.{◌>>=◌}
use Rattle.flash_list.proofs.Each.{with_front}
use Rattle.pack_codec.specs.declared.fault.FormError.{FormError}
use Rattle.pack_codec.specs.declared.fault.FormError.TheVariants.{Damaged, Memory}
use Rattle.pack_codec.specs.Faults.{Fails}
use Rattle.stable_file.specs.Steps.{one_for_each, so_many}

regroup : {X E : Type 0} (front : List X) (n : X) (read : Result (List X × List ℕ) E) → with_front front (read >>= λ x. Ok (n ∷ x.0, x.1)) ≡ with_front (front ++ n ∷ []) read
regroup front n (Ok x) = ap (λ ns. Ok (ns, x.1)) (simp append_assoc)
regroup front n (Err f) = refl

pub nothing_before : {X E : Type 0} (read : Result (List X × List ℕ) E) → with_front [] read ≡ read
nothing_before (Ok x) = refl
nothing_before (Err e) = refl

-- ---- one for each

module _ {C X : Type 0} (read : C → List ℕ → Result (X × List ℕ) FormError) (cs : List C) where
  pub goes_on : (k : ℕ) (d : C) (front : List X) (bytes : List ℕ) (x : X) (after : List ℕ) (total : Result (List X × List ℕ) FormError)
      → k < length cs → read (get_or cs k d) bytes ≡ Ok (x, after) → with_front front (one_for_each read (drop k cs) bytes) ≡ total → with_front (front ++ x ∷ []) (one_for_each read (drop (k + 1) cs) after) ≡ total
  unfolding one_for_each
  goes_on k d front bytes x after total lt h so_far =
      let one : with_front front (one_for_each read (drop k cs) bytes) ≡ with_front (front ++ x ∷ []) (one_for_each read (drop (k + 1) cs) after) = rw (drop_more cs k d lt, h) (regroup front x (one_for_each read (drop (k + 1) cs) after)) in
      sym one ∙ so_far

  fails : (k : ℕ) (d : C) (front : List X) (bytes : List ℕ) (e : FormError) (total : Result (List X × List ℕ) FormError)
      → k < length cs → read (get_or cs k d) bytes ≡ Err e → with_front front (one_for_each read (drop k cs) bytes) ≡ total → total ≡ Err e
  unfolding one_for_each
  fails k d front bytes e total lt h so_far =
      let one : with_front front (one_for_each read (drop k cs) bytes) ≡ Err e = rw (drop_more cs k d lt, h) refl in
      sym so_far ∙ one

  pub fails_here : (k : ℕ) (d : C) (front : List X) (bytes : List ℕ) (e : FormError) (total : Result (List X × List ℕ) FormError)
      → k < length cs → Err e ≡ read (get_or cs k d) bytes → with_front front (one_for_each read (drop k cs) bytes) ≡ total → Fails e total
  fails_here k d front bytes Memory total lt h so_far = tt
  fails_here k d front bytes (Damaged at) total lt h so_far = fails k d front bytes (Damaged at) total lt (sym h) so_far

  pub is_done : (k : ℕ) (front : List X) (bytes : List ℕ) (total : Result (List X × List ℕ) FormError) → length cs ≤ k → with_front front (one_for_each read (drop k cs) bytes) ≡ total → total ≡ Ok (front, bytes)
  unfolding one_for_each
  is_done k front bytes total le so_far =
      let one : with_front front (one_for_each read (drop k cs) bytes) ≡ Ok (front, bytes) = rw (drop_all k cs le) (ap (λ ls. Ok (ls, bytes)) (append-nil front)) in
      sym so_far ∙ one

-- ---- so many

module _ {S X : Type 0} (read : S → List ℕ → Result (X × List ℕ) FormError) (next : S → X → S) where
  pub many_start : (count : ℕ) (state : S) (bytes : List ℕ) → with_front [] (so_many read next (count - 0) state bytes) ≡ so_many read next count state bytes
  many_start count state bytes =
      let k : count - 0 ≡ count = omega arith in
      ap (λ n. with_front [] (so_many read next n state bytes)) k ∙ nothing_before (so_many read next count state bytes)

  pub many_go_on : (front : List X) (count i : ℕ) (state : S) (bytes : List ℕ) (x : X) (after : List ℕ) (total : Result (List X × List ℕ) FormError)
      → i < count → read state bytes ≡ Ok (x, after) → with_front front (so_many read next (count - i) state bytes) ≡ total → with_front (front ++ x ∷ []) (so_many read next (count - (i + 1)) (next state x) after) ≡ total
  unfolding so_many
  many_go_on front count i state bytes x after total lt h so_far =
      let k : count - i ≡ suc (count - (i + 1)) = omega arith in
      let one : with_front front (so_many read next (count - i) state bytes) ≡ with_front (front ++ x ∷ []) (so_many read next (count - (i + 1)) (next state x) after) = rw (k, h) (regroup front x (so_many read next (count - (i + 1)) (next state x) after)) in
      sym one ∙ so_far

  one_fails : (front : List X) (count i : ℕ) (state : S) (bytes : List ℕ) (e : FormError) (total : Result (List X × List ℕ) FormError)
      → i < count → read state bytes ≡ Err e → with_front front (so_many read next (count - i) state bytes) ≡ total → total ≡ Err e
  unfolding so_many
  one_fails front count i state bytes e total lt h so_far =
      let k : count - i ≡ suc (count - (i + 1)) = omega arith in
      let one : with_front front (so_many read next (count - i) state bytes) ≡ Err e = rw (k, h) refl in
      sym so_far ∙ one

  pub many_fail : (front : List X) (count i : ℕ) (state : S) (bytes : List ℕ) (e : FormError) (total : Result (List X × List ℕ) FormError)
      → i < count → Fails e (read state bytes) → with_front front (so_many read next (count - i) state bytes) ≡ total → Fails e total
  many_fail front count i state bytes Memory total lt h so_far = tt
  many_fail front count i state bytes (Damaged at) total lt h so_far = one_fails front count i state bytes (Damaged at) total lt h so_far

  pub many_done : (front : List X) (count i : ℕ) (state : S) (bytes : List ℕ) (total : Result (List X × List ℕ) FormError) → count ≤ i → with_front front (so_many read next (count - i) state bytes) ≡ total → total ≡ Ok (front, bytes)
  unfolding so_many
  many_done front count i state bytes total le so_far =
      let k : count - i ≡ 0 = omega arith in
      let one : with_front front (so_many read next (count - i) state bytes) ≡ Ok (front, bytes) = rw k (ap (λ ns. Ok (ns, bytes)) (append-nil front)) in
      sym so_far ∙ one
