-- What a whole reading and a whole writing do to what is left and to what is held.
use Rattle.std.specs.Prelude.{◌≡◌, ℕ, ◌≤◌, ◌<◌, List, ◌++◌, length, take, Option}
use Rattle.std.specs.Io.KnownBytes.{Consumes, Appends, IsAtEnd}

-- all that was left, which isn't more than the limit, stands at the end of the buffer
pub record ReadsAll (limit : ℕ) (left left' : Option (List ℕ)) (old new : List ℕ) : Type 0 where
  pub bytes : List ℕ
  pub appended : new ≡ old ++ bytes
  pub consumed : Consumes left left' bytes
  pub within : length bytes ≤ limit
  pub ended : IsAtEnd left'

-- more bytes than the limit were read
pub record ReadsPast (limit : ℕ) (left left' : Option (List ℕ)) : Type 0 where
  pub bytes : List ℕ
  pub consumed : Consumes left left' bytes
  pub past : limit < length bytes

-- no more bytes than the limit were read
pub record ReadsWithin (limit : ℕ) (left left' : Option (List ℕ)) : Type 0 where
  pub bytes : List ℕ
  pub consumed : Consumes left left' bytes
  pub within : length bytes ≤ limit

-- a front of the bytes was taken
pub record TakesFront (held held' : Option (List ℕ)) (bytes : List ℕ) : Type 0 where
  pub count : ℕ
  pub within : count ≤ length bytes
  pub appended : Appends held held' (take count bytes)
