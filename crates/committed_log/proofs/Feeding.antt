-- A hasher that takes in one part after the other.
use Rattle.std.proofs.Common.{ℕ, List, ◌++◌, subst, append_assoc}
use Rattle.sha2.specs.Hashers.{Holds256}
use Rattle.sha2.specs.declared.Sha256.{Sha256}
use Rattle.committed_log.specs.Digest.{Feeds}

-- two parts are one
pub both : (a b c : Sha256) (x y : List ℕ) → Feeds a x b → Feeds b y c → Feeds a (x ++ y) c
both a b c x y f g m h = subst (Holds256 c) (append_assoc m x y) (g (m ++ x) (f m h))
