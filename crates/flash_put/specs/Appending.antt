-- What writers of formats share: what one does to the bytes that it writes behind.
use Rattle.std.specs.Prelude.{◌≡◌, ℕ, List, ◌++◌, length, take, Result, Ok, Err}

-- It adds these bytes, or for want of memory a part of them at most.
abbrev pub Appends : {X E : Type 0} → Result X E → List ℕ → List ℕ → List ℕ → Type 0
Appends (Ok x) old bytes new = new ≡ old ++ bytes
Appends (Err e) old bytes new = take (length old) new ≡ old
