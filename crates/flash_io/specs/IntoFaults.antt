-- Why a reading to the end may answer that it failed.
use Rattle.std.specs.Prelude.{◌≡◌, ℕ, ◌≤◌, Result, OnOk, IsErrOf}
use Rattle.flash_io.specs.Faults.{Rose}
use Rattle.flash_io.specs.declared.read.IntoError.{IntoError}
use Rattle.flash_io.specs.declared.read.IntoError.TheVariants.{Failed, TooLong, Memory}

-- the count doesn't fall, `Failed` comes only where it rose, and at any other answer it is as it was
pub record HasIntoCause {T : Type 0} (before now : ℕ) (result : Result T IntoError) : Type 0 where
  pub later : before ≤ now
  pub failed : IsErrOf result Failed → Rose before now
  pub quiet : OnOk result (now ≡ before)
  pub too_long : IsErrOf result TooLong → now ≡ before
  pub memory : IsErrOf result Memory → now ≡ before
