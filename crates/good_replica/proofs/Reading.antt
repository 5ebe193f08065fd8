-- A settled region's handles show what the row store shows at the region's index.
use Rattle.std.proofs.Common.{◌≡◌, ◌⊎◌, inl, inr, ◌∙◌, refl, sym, ap, subst, ℕ, zero, suc, ◌<◌, ◌≤◌, max, ℤ, Bool, true, false, true≢false, Some, None, slice_get, arith, length, option_map}
use Rattle.log_codec.specs.declared.entry.Entry.{Entry}
use Rattle.committed_log.specs.Applied.{IsClosed, acts_at}
use Rattle.committed_log.specs.Lawful.{IsLawful}
use Rattle.committed_log.specs.Laws.{owned, owns, touches}
use Rattle.committed_log.specs.Log.{Log, at}
use Rattle.committed_log.specs.ReadIndex.{clears_at}
use Rattle.committed_log.specs.Reads.{cells, shown}
use Rattle.committed_log.specs.Regions.{acts_on}
use Rattle.committed_log.proofs.Acting.{left_alone}
use Rattle.committed_log.proofs.Closed.{acting_entry}
use Rattle.committed_log.proofs.Faults.{both_true, or_first, or_second}
use Rattle.committed_log.proofs.Touching.{touched_by, touches_by, unmoved, touch_closed}
use Rattle.good_replica.specs.Front.{front}
use Rattle.good_replica.specs.Good.{IsGoodOn}
use Rattle.good_replica.specs.Shows.{Shows}
use Rattle.good_replica.specs.Trail.{Trail, present}
use Rattle.good_replica.specs.Versions.{written}
use Rattle.good_replica.proofs.Closure.{touch_within}
use Rattle.good_replica.proofs.Commits.{still_to, uncleared_to}
use Rattle.good_replica.proofs.Facts.{le_or}
use Rattle.good_replica.proofs.Fronts.{below_front, front_touches}
use Rattle.good_replica.proofs.Settled.{settled}
use Rattle.good_replica.proofs.Shown.{shows_shown}

module _ (log : Log) (lawful : IsLawful log) (h : ℤ) (r : ℕ) where
  -- an entry that doesn't act on the region that has the handle leaves it the handle, and doesn't touch that
  holds_on : (n : ℕ) → owns (at log n).regions r h ≡ true → acts_at log r n ≡ false → owns (at log (suc n)).regions r h ≡ true
  holds_on n o apart = ap (λ s. owned s h) (left_alone log r n apart) ∙ o

  not_touched : (n : ℕ) → owns (at log n).regions r h ≡ true → acts_at log r n ≡ false → touches log h n ≡ false
  not_touched n o apart = by (touches log h n) refl
    where
      acts_is : (e : Entry) → slice_get log.entries n ≡ Some e → acts_at log r n ≡ acts_on r e
      acts_is e is = ap (λ o. elim o [ None ↦ false | Some e ↦ acts_on r e ]) is

      by : (b : Bool) → touches log h n ≡ b → touches log h n ≡ false
      by false t = t
      by true t = (let e = touched_by log h n t in absurd (unmoved log lawful h n e.0 e.1 r (sym (acts_is e.0 e.1) ∙ apart) (holds_on n o apart) t))

  acting_touches : (n : ℕ) → acts_at log r n ≡ true → owns (at log (suc n)).regions r h ≡ true → touches log h n ≡ true
  acting_touches n act o = (let e = acting_entry log r n act in touches_by log h n e.0 e.1 r e.2 (or_second (owns (at log n).regions r h) (owns (at log (suc n)).regions r h) o))

  touched_before : (n : ℕ) → acts_at log r n ≡ true → owns (at log n).regions r h ≡ true → touches log h n ≡ true
  touched_before n act o = (let e = acting_entry log r n act in touches_by log h n e.0 e.1 r e.2 (or_first (owns (at log n).regions r h) (owns (at log (suc n)).regions r h) o))

  -- p is the last entry before n that acts on the region
  module _ (p : ℕ) (own : owns (at log (suc p)).regions r h ≡ true) where
    holds_until : (n : ℕ) → suc p ≤ n → ((x : ℕ) → p < x → x < n → acts_at log r x ≡ false) → owns (at log n).regions r h ≡ true
    holds_until zero le none = absurd (omega (arith, le))
    holds_until (suc n) le none = elim (le_or (suc p) n le) [
      | inl more ↦ holds_on n (holds_until n more (λ x a b. none x a (omega (arith, b)))) (none n (omega (arith, more)) (omega arith))
      | inr same ↦ subst (λ z. owns (at log z).regions r h ≡ true) same own
    ]

    pub quiet : (n : ℕ) → ((x : ℕ) → p < x → x < n → acts_at log r x ≡ false) → (x : ℕ) → p < x → x < n → touches log h x ≡ false
    quiet n none x a b = not_touched x (holds_until x a (λ y c d. none y c (omega (arith, b, d)))) (none x a b)

    module _ (A : ℕ → Bool) (closed : IsClosed log A) (applied : A p ≡ true) (act : acts_at log r p ≡ true) (last : (x : ℕ) → A x ≡ true → acts_at log r x ≡ true → x ≤ p) where
      -- the front of a handle is one past the last applied entry that acts on the region that holds it
      pub owner_front : front log A h ≡ suc p
      owner_front = elim (front_touches log h A (length log.entries)) [
        | inl none ↦ absurd (omega (arith, none, low))
        | inr x ↦ by x.0 x.1 (both_true (A x.0) (touches log h x.0) x.3) (above x.0)
      ]
        where
          inside : p < length log.entries
          inside = touch_within log h p (acting_touches p act own)

          low : p < front log A h
          low = below_front log h A (length log.entries) p inside applied (acting_touches p act own)

          above : (x : ℕ) → (x ≤ p) ⊎ (p < x)
          above x = grind arith

          less_or : (y x : ℕ) → y ≤ x → (y < x) ⊎ (y ≡ x)
          less_or y x le = grind arith

          applied_at : (x : ℕ) → A x ≡ true → touches log h x ≡ true → (y : ℕ) → touches log h y ≡ true → y ≤ x → A y ≡ true
          applied_at x a t y u le = elim (less_or y x le) [ inl less ↦ touch_closed log lawful h A closed x y a t less u | inr same ↦ ap A same ∙ a ]

          -- an applied entry past p that touches can't be
          none_acts : (x : ℕ) → A x ≡ true → touches log h x ≡ true → (n : ℕ) → n ≤ suc x → (y : ℕ) → p < y → y < n → acts_at log r y ≡ false
          none_acts x a t zero le y c d = absurd (omega (arith, d))
          none_acts x a t (suc n) le y c d = of (acts_at log r y) refl (none_acts x a t n (omega (arith, le)))
            where
              of : (b : Bool) → acts_at log r y ≡ b → ((y : ℕ) → p < y → y < n → acts_at log r y ≡ false) → acts_at log r y ≡ false
              of false is rest = is
              of true is rest = at_or (le_or (suc y) n (omega (arith, d)))
                where
                  at_or : (suc y ≤ n) ⊎ (suc y ≡ suc n) → acts_at log r y ≡ false
                  at_or (inl under) = rest y c (omega (arith, under))
                  at_or (inr same) =
                      let e : n ≡ y = omega (arith, same) in
                      let held : owns (at log y).regions r h ≡ true = subst (λ z. owns (at log z).regions r h ≡ true) e (holds_until n (omega (arith, c, e)) rest) in
                      let touched : touches log h y ≡ true = touched_before y is held in
                      let taken : A y ≡ true = applied_at x a t y touched (omega (arith, le, e)) in
                      let back : y ≤ p = last y taken is in
                      absurd (omega (arith, c, back))

          by : (x : ℕ) → front log A h ≡ suc x → (A x ≡ true) × (touches log h x ≡ true) → (x ≤ p) ⊎ (p < x) → front log A h ≡ suc p
          by x is both (inl le) = omega (arith, is, le, low)
          by x is both (inr more) = absurd (true≢false (sym both.1 ∙ quiet (suc x) (none_acts x both.0 both.1 (suc x) (omega arith)) x more (omega arith)))

      -- where no entry of the region below the mark is left to apply, none below it touches the handle
      pub settled_quiet : (m : ℕ) → ((x : ℕ) → x < m → acts_at log r x ≡ true → A x ≡ true) → (x : ℕ) → front log A h ≤ x → x < m → touches log h x ≡ false
      settled_quiet m all x low less = let f = owner_front in quiet m none x (omega (arith, f, low)) less
        where
          none : (x : ℕ) → p < x → x < m → acts_at log r x ≡ false
          none x a b = of (acts_at log r x) refl
            where
              of : (t : Bool) → acts_at log r x ≡ t → acts_at log r x ≡ false
              of false is = is
              of true is = let le = last x (all x b is) is in absurd (omega (arith, a, le))

      -- the read rule at the region's index is what a good trail shows
      pub read_good : (m safe ts : ℕ) (t : Trail) → ((x : ℕ) → x < m → acts_at log r x ≡ true → A x ≡ true) → safe ≤ ts → IsGoodOn log h (front log A h) m safe t → Shows (present t) ts (option_map (cells log.schema) (shown (at log (suc p)).commits ts h))
      read_good m safe ts t all above good =
          let f = owner_front in
          settled (written log h) (clears_at log h) (front log A h) m safe ts t
          (uncleared_to log lawful h (front log A h) m (settled_quiet m all))
          (λ d. still_to log lawful h (front log A h) (max (front log A h) m) (omega arith) (λ x a b. settled_quiet m all x a (omega (arith, a, b))) d)
          above good (option_map (cells log.schema) (shown (at log (suc p)).commits ts h))
          (subst (λ n. Shows (written log h n) ts (option_map (cells log.schema) (shown (at log (suc p)).commits ts h))) (sym f) (shows_shown log h (suc p) ts))
