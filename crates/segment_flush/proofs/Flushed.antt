-- Slots that are flushed, in a manifest, and one of them alone.
use Rattle.std.proofs.Common.{◌≡◌, ◌≢◌, ◌∙◌, ℕ, zero, suc, ◌<◌, Bool, true, false, cond, inl, inr, List, [], ◌∷◌, length, map, set, get_or, Some, refl, sym, ap, subst, arith}
use Rattle.std.specs.Prelude.{slice_get, ◌==◌}
use Rattle.std.specs.List.{AllPairs}
use Rattle.std.proofs.lemmas.Bool.Decides.{nat_tests}
use Rattle.manifest_form.specs.declared.state.StoredSegment.{StoredSegment}
use Rattle.manifest_laws.specs.Changes.{Renews}
use Rattle.segment_list.specs.Flushes.{after_files, flushed_slot}
use Rattle.segment_list.specs.Slots.{Slotted}
use Rattle.segment_flush.specs.Flushing.{after_one, after_slots, flushed_slots, is_slot, one_flushed, puts_of, with_put}
use Rattle.segment_flush.specs.Laws.{OneIsFlushed}
use Rattle.segment_flush.specs.Names.{stored_of}

module _ {G : Type 0} where
  pub renewed : (p : Slotted G → Bool) (n : ℕ) (slots : List (Slotted G)) → Renews (map stored_of slots) (map stored_of (flushed_slots p n slots)) (puts_of p n slots)
  renewed p n [] = refl
  renewed p n (s ∷ ss) = by (p s) (λ k. renewed p k ss)
    where
      by : (b : Bool) → ((k : ℕ) → Renews (map stored_of ss) (map stored_of (flushed_slots p k ss)) (puts_of p k ss)) → Renews (stored_of s ∷ map stored_of ss) (stored_of (one_flushed b n s) ∷ map stored_of (flushed_slots p (after_one b n s) ss)) (with_put b (stored_of (flushed_slot n s)) (puts_of p (after_one b n s) ss))
      by true rest = (refl, refl, inr (puts_of p (after_files n s.files) ss, refl, rest (after_files n s.files)))
      by false rest = (refl, refl, inl (refl, rest n))

-- ---- pairs

module _ {X : Type 0} (R : X → X → Type 0) (x : X) (xs : List X) (pairs : AllPairs R (x ∷ xs)) where
  pub later_pairs : AllPairs R xs
  later_pairs i j d less lt = pairs (suc i) (suc j) d (omega (arith, less)) (omega (arith, lt))

  pub first_pairs : (j : ℕ) (d : X) → j < length xs → R x (get_or xs j d)
  first_pairs j d lt = pairs 0 (suc j) d (omega arith) (omega (arith, lt))

got : {X : Type 0} (xs : List X) (i : ℕ) (x d : X) → slice_get xs i ≡ Some x → get_or xs i d ≡ x
got [] i x d h = absurd (cc h)
got (y ∷ ys) zero x d h = cc h
got (y ∷ ys) (suc i) x d h = got ys i x d h

within : {X : Type 0} (xs : List X) (i : ℕ) (x : X) → slice_get xs i ≡ Some x → i < length xs
within [] i x h = absurd (cc h)
within (y ∷ ys) zero x h = omega arith
within (y ∷ ys) (suc i) x h = let rest = within ys i x h in omega (arith, rest)

differ : (a b : ℕ) → a ≢ b → (a == b) ≡ false
differ a b out = by (a == b) refl
  where
    same : (a == b) ≡ true → a ≡ b
    same h = grind (arith, nat_tests)

    by : (t : Bool) → (a == b) ≡ t → (a == b) ≡ false
    by true h = absurd (out (same h))
    by false h = h

-- ---- one slot alone

module _ {G : Type 0} where
  pub record AreLeft (id n : ℕ) (olds : List (Slotted G)) : Type 0 where
    pub slots : flushed_slots (is_slot id) n olds ≡ olds
    pub next : after_slots (is_slot id) n olds ≡ n
    pub puts : puts_of (is_slot id) n olds ≡ []

  left : (id n : ℕ) (slots : List (Slotted G)) → ((k : ℕ) (d : Slotted G) → k < length slots → (get_or slots k d).id ≢ id) → AreLeft id n slots
  left id n [] others = record { slots = refl; next = refl; puts = refl }
  left id n (s ∷ ss) others =
      let out : is_slot id s ≡ false = differ s.id id (others 0 s (omega arith)) in
      let rest = left id n ss (λ k d lt. others (suc k) d (omega (arith, lt))) in
      record {
        slots = ap (λ (b : Bool). one_flushed b n s ∷ flushed_slots (is_slot id) (after_one b n s) ss) out ∙ ap (λ (r : List (Slotted G)). s ∷ r) rest.slots;
        next = ap (λ (b : Bool). after_slots (is_slot id) (after_one b n s) ss) out ∙ rest.next;
        puts = ap (λ (b : Bool). with_put b (stored_of (flushed_slot n s)) (puts_of (is_slot id) (after_one b n s) ss)) out ∙ rest.puts;
      }

  itself : (s : Slotted G) → is_slot s.id s ≡ true
  itself s = grind (arith, nat_tests)

  pub one_flush : (n place : ℕ) (s : Slotted G) (slots : List (Slotted G)) → AllPairs (λ a b. a.id ≢ b.id) slots → slice_get slots place ≡ Some s → OneIsFlushed n place s slots
  one_flush n place s [] pairs here = absurd (cc here)
  one_flush n zero s (t ∷ ts) pairs here =
      let is : t ≡ s = cc here in
      subst (λ (u : Slotted G). OneIsFlushed n zero s (u ∷ ts)) (sym is)
      (let rest = left s.id (after_files n s.files) ts (λ k d lt same. first_pairs (λ a b. a.id ≢ b.id) t ts pairs k d lt (ap (λ (u : Slotted G). u.id) is ∙ sym same)) in
      record {
        slots = ap (λ (b : Bool). one_flushed b n s ∷ flushed_slots (is_slot s.id) (after_one b n s) ts) (itself s) ∙ ap (λ (r : List (Slotted G)). flushed_slot n s ∷ r) rest.slots;
        next = ap (λ (b : Bool). after_slots (is_slot s.id) (after_one b n s) ts) (itself s) ∙ rest.next;
        puts = ap (λ (b : Bool). with_put b (stored_of (flushed_slot n s)) (puts_of (is_slot s.id) (after_one b n s) ts)) (itself s) ∙ ap (λ (r : List StoredSegment). stored_of (flushed_slot n s) ∷ r) rest.puts;
      })
  one_flush n (suc place) s (t ∷ ts) pairs here =
      let rest = one_flush n place s ts (later_pairs (λ a b. a.id ≢ b.id) t ts pairs) here in
      let out : is_slot s.id t ≡ false = differ t.id s.id (λ same. first_pairs (λ a b. a.id ≢ b.id) t ts pairs place s (within ts place s here) (same ∙ ap (λ (u : Slotted G). u.id) (sym (got ts place s s here)))) in
      record {
        slots = ap (λ (b : Bool). one_flushed b n t ∷ flushed_slots (is_slot s.id) (after_one b n t) ts) out ∙ ap (λ (r : List (Slotted G)). t ∷ r) rest.slots;
        next = ap (λ (b : Bool). after_slots (is_slot s.id) (after_one b n t) ts) out ∙ rest.next;
        puts = ap (λ (b : Bool). with_put b (stored_of (flushed_slot n t)) (puts_of (is_slot s.id) (after_one b n t) ts)) out ∙ rest.puts;
      }
