-- A stray isn't named.
use Rattle.std.proofs.Common.{◌≡◌, ℕ, Bool, true, false, List, refl}
use Rattle.std.specs.Prelude.{not, ◌||◌}
use Rattle.manifest_form.specs.declared.state.State.{State}
use Rattle.replica_store.specs.Naming.{is_among, is_named, is_stray}

neither : (a b : Bool) → not (a || b) ≡ true → a ≡ false
neither true b h = absurd (cc h)
neither false b h = refl

pub unnamed : (own : ℕ) (s : State) (retired : List ℕ) (file : ℕ) → is_stray own s retired file ≡ true → is_named own s file ≡ false
unnamed own s retired file h = neither (is_named own s file) (is_among retired file) h
