-- What holds where an entry has no fault.
use Rattle.std.proofs.Common.{◌≡◌, ◌⊎◌, inl, inr, refl, sym, ℕ, Bool, true, false, ◌&&◌, ◌||◌, true≢false, List, Option, Some, None, nat_lt, ◌^◌}
use Rattle.std.specs.Option.{option_or}
use Rattle.log_codec.specs.declared.entry.Entry.{Entry}
use Rattle.committed_log.specs.Regions.{Region, Unborn, Live, Prepared, Gone}
use Rattle.committed_log.specs.Admission.{own_fault, other_fault, index_fault, range_fault, head_fault, unless, is_unborn}
use Rattle.committed_log.specs.declared.unlawful.Unlawful.{Unlawful}
use Rattle.committed_log.specs.declared.unlawful.Unlawful.TheVariants as unlawful

pub both_none : {A : Type 0} (a b : Option A) → option_or a b ≡ None → (a ≡ None) × (b ≡ None)
both_none None b e = (refl, e)
both_none (Some x) b e = cc e

pub unless_ok : (b : Bool) (f : Unlawful) → unless b f ≡ None → b ≡ true
unless_ok true f e = refl
unless_ok false f e = cc e

pub both_true : (x y : Bool) → (x && y) ≡ true → (x ≡ true) × (y ≡ true)
both_true true y e = (refl, e)
both_true false y e = absurd (true≢false (sym e))

pub or_either : (a b : Bool) → (a || b) ≡ true → (a ≡ true) ⊎ (b ≡ true)
or_either true b e = inl refl
or_either false b e = inr e

pub or_false : (a b : Bool) → (a || b) ≡ false → (a ≡ false) × (b ≡ false)
or_false true b e = absurd (true≢false e)
or_false false b e = (refl, e)

pub or_second : (a b : Bool) → b ≡ true → (a || b) ≡ true
or_second true b e = refl
or_second false b e = e

pub or_first : (a b : Bool) → a ≡ true → (a || b) ≡ true
or_first true b e = refl
or_first false b e = absurd (true≢false (sym e))

-- the head of an entry at position p has none of the faults
pub record IsFine (p : ℕ) (regions : List (ℕ × Region)) (e : Entry) : Type 0 where
  pub count : nat_lt p (2 ^ 20) ≡ true
  pub own : own_fault regions e.region e.body ≡ None
  pub other : other_fault regions e.region e.body ≡ None
  pub index : index_fault regions e ≡ None
  pub range : range_fault regions e.region e.body ≡ None

pub head_is_fine : (p : ℕ) (regions : List (ℕ × Region)) (e : Entry) → head_fault p regions e ≡ None → IsFine p regions e
head_is_fine p regions e none =
    let own = own_fault regions e.region e.body in
    let other = other_fault regions e.region e.body in
    let index = index_fault regions e in
    let range = range_fault regions e.region e.body in
    let a = both_none (unless (nat_lt p (2 ^ 20)) unlawful.Count) (option_or own (option_or other (option_or index range))) none in
    let b = both_none own (option_or other (option_or index range)) a.1 in
    let c = both_none other (option_or index range) b.1 in
    let d = both_none index range c.1 in
    record { count = unless_ok (nat_lt p (2 ^ 20)) unlawful.Count a.0; own = b.0; other = c.0; index = d.0; range = d.1 }

pub is_unborn_is : (st : Region) → is_unborn st ≡ true → st ≡ Unborn
is_unborn_is Unborn e = refl
is_unborn_is (Live d) e = absurd (true≢false (sym e))
is_unborn_is (Prepared d t) e = absurd (true≢false (sym e))
is_unborn_is (Gone i) e = absurd (true≢false (sym e))
