-- The digests along a log, and along a longer one.
use Rattle.std.proofs.Common.{◌≡◌, ◌∙◌, refl, sym, ap, ℕ, zero, suc, ◌-◌, ◌≤◌, List, [], ◌∷◌, take, drop, fold, length, arith}
use Rattle.std.proofs.lemmas.List.{take-append-le}
use Rattle.committed_log.specs.Digest.{begun, chain, extended_by}
use Rattle.committed_log.specs.Log.{Log}
use Rattle.log_laws.specs.Chains.{chain_at}
use Rattle.log_laws.specs.Longer.{GoesOn}

take_nil : {X : Type 0} (n : ℕ) → take {A = X} n [] ≡ []
take_nil zero = refl
take_nil (suc n) = refl

module _ {X Y : Type 0} (f : Y → X → Y) where
  -- what lies between two places, after what lies before them
  fold_between : (a : Y) (xs : List X) (m k n : ℕ) → k ≡ n - m → m ≤ n → fold f (fold f a (take m xs)) (take k (drop m xs)) ≡ fold f a (take n xs)
  fold_between a xs zero k n is le = (let same : k ≡ n = omega (arith, is) in ap (λ j. fold f a (take j xs)) same)
  fold_between a [] (suc m) k n is le = ap (fold f a) (take_nil k) ∙ sym (ap (fold f a) (take_nil n))
  fold_between a (x ∷ xs) (suc m) k zero is le = absurd (omega (arith, le))
  fold_between a (x ∷ xs) (suc m) k (suc n) is le = fold_between (f a x) xs m k n (omega (arith, is, le)) (omega (arith, le))

pub chain_extended : (log : Log) (m n : ℕ) → m ≤ n → fold extended_by (chain_at log m) (take (n - m) (drop m log.entries)) ≡ chain_at log n
chain_extended log m n le = fold_between extended_by (begun log.table log.schema) log.entries m (n - m) n refl le

pub chain_on : (short long : Log) → GoesOn short long → (n : ℕ) → n ≤ length short.entries → chain_at long n ≡ chain_at short n
chain_on short long g n le = (λ i. chain (g.table i) (g.schema i) (take n (g.entries i))) ∙ ap (chain short.table short.schema) (take-append-le n short.entries g.more le)
