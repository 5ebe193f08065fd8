-- What a list of files tells.
use Rattle.std.proofs.Common.{eqb, false, [], ◌∷◌, ◌≡◌, ℕ, List, length, Option, Some, None, refl, arith}
use Rattle.std.specs.Prelude.{Contains}
use Rattle.flash_io.specs.Image.{Image, IsThere}

pub not_there : (image : Image) (file : ℕ) → (IsThere image file → ⊥) → image file ≡ None
not_there image file absent = by_cases (image file) refl
  where
    by_cases : (held : Option (List ℕ)) → image file ≡ held → image file ≡ None
    by_cases None is = is
    by_cases (Some bytes) is = absurd (absent (bytes, is))

pub first_listed : (list : List ℕ) → eqb (length list) 0 ≡ false → (file : ℕ) × Contains list file
first_listed [] some = absurd (cc some)
first_listed (file ∷ rest) some = (file, (0, omega arith, refl))
