-- Closed sets.
use Rattle.std.proofs.Common.{inl, inr, ℕ, zero, suc, ◌<◌, false, ◌||◌, [], ◌∷◌, refl, arith}
use Rattle.std.specs.Prelude.{IsTrue, nat_eq}
use Rattle.std.proofs.lemmas.Bool.{ltb-true, lt-ltb, eqb-true, or_cases, false≢true}
use Rattle.committed_log.specs.Applied.{IsClosed}
use Rattle.row_store.specs.Logs.{log_of, these}
use Rattle.row_store.specs.ManyRegions.{two_merged}
use Rattle.row_store.specs.Sets.{PrefixesAreClosed, MergesWait}

pub prefixes_are_closed : PrefixesAreClosed
prefixes_are_closed log n most = record {
  within = λ p here. omega (arith, ltb-true p n here, most);
  earlier = λ p q later e here before at_p at_q waits. lt-ltb q n (omega (arith, ltb-true p n here, before));
}

early : IsClosed (log_of two_merged) (these (0 ∷ 1 ∷ 4 ∷ [])) → ⊥
early closed = false≢true (closed.earlier 4 3 _ _ refl (omega arith) refl refl refl)

below_two : (p : ℕ) → IsTrue (these (0 ∷ 1 ∷ []) p) → p < 2
below_two p h = elim (or_cases (nat_eq p 0) (nat_eq p 1 || false) h) [
  | inl e ↦ omega (arith, eqb-true p 0 e)
  | inr more ↦ elim (or_cases (nat_eq p 1) false more) [ inl e ↦ omega (arith, eqb-true p 1 e) | inr none ↦ absurd (false≢true none) ]
]

zero_is : (q : ℕ) → q < 1 → IsTrue (these (0 ∷ 1 ∷ []) q)
zero_is zero before = refl
zero_is (suc q) before = absurd (omega (arith, before))

pub merges_wait : MergesWait
merges_wait = record {
  apart = record { within = λ p here. omega (arith, below_two p here); earlier = λ p q later e here before at_p at_q waits. zero_is q (omega (arith, below_two p here, before)) };
  early = early;
}
