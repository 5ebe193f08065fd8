-- The two durable writes of a commit.
use Rattle.std.proofs.Common.{◌≡◌, inl, refl, ℕ, ◌+◌, ◌≤◌, List, [], ◌∷◌, ◌++◌, length, drop, Some, sym, ◌∙◌, ap, subst, arith, length-append, append_assoc}
use Rattle.flash_io.specs.Image.{Image}
use Rattle.flash_io.specs.Crash.{Durable, TornFile, OneFile, LeavesOnly}
use Rattle.flash_io.proofs.Moments.{then, weaken, one_file_trans}
use Rattle.flash_io.specs.declared.fault.DiskFault.{DiskFault}
use Rattle.flash_io.specs.declared.fault.DiskFault.TheVariants as faults
use Rattle.manifest.specs.declared.fault.CommitError.{CommitError}
use Rattle.manifest.specs.declared.fault.CommitError.TheVariants as error
use Rattle.manifest_form.specs.Takes.{ClosedAt}
use Rattle.manifest.specs.Gated.{commit_error, record_of, overwritten, with_record, IsSteady, IsBeforeOrAfter}
use Rattle.manifest.proofs.Crash.{staged, torn_behind, torn_open, staged_is, opened, opened_is}

pub fits_closed : (part content : List ℕ) (at : ℕ) → length part ≡ at → ClosedAt part content → at + 1 ≤ length content
fits_closed part content at size shut = omega (arith, size, ap length shut.is, length-append part (shut.gate ∷ shut.rest))

module _ (file at : ℕ) (part bytes behind content : List ℕ) (shut : ClosedAt part content) (size : length part ≡ at) (is : behind ≡ record_of bytes) where
  abbrev pub between : List ℕ
  between = staged part bytes shut.gate shut.rest

  pub fits_between : at ≤ length between
  fits_between = omega (arith, size, length-append (part ++ shut.gate ∷ record_of bytes) (drop (length (record_of bytes)) shut.rest), length-append part (shut.gate ∷ record_of bytes))

  pub durable_staged : (now : Image → Type 0) → Durable file (overwritten content (at + 1) behind) now → Durable file between now
  durable_staged now durable c left =
      let same : overwritten content (at + 1) behind ≡ between =
      ap (λ (n : ℕ). overwritten content (n + 1) behind) (sym size) ∙ ap (λ (r : List ℕ). overwritten content (length part + 1) r) is
      ∙ ap (λ (l : List ℕ). overwritten l (length part + 1) (record_of bytes)) shut.is ∙ staged_is part bytes shut.gate shut.rest in
      durable c left ∙ ap Some same

  pub steady_opened : (now : Image → Type 0) → Durable file (overwritten between at (1 ∷ [])) now → IsSteady file (with_record part bytes) now
  steady_opened now durable = (part ++ 1 ∷ record_of bytes ++ more', opened part bytes more', λ c left. durable c left ∙ ap Some same)
    where
      more' : List ℕ
      more' = drop (length (record_of bytes)) shut.rest

      same : overwritten between at (1 ∷ []) ≡ part ++ 1 ∷ record_of bytes ++ more'
      same =
          ap (λ (n : ℕ). overwritten between n (1 ∷ [])) (sym size)
          ∙ ap (λ (l : List ℕ). overwritten l (length part) (1 ∷ [])) (append_assoc part (shut.gate ∷ record_of bytes) more')
          ∙ opened_is part (record_of bytes ++ more') shut.gate
          ∙ sym (append_assoc part (1 ∷ record_of bytes) more')

  -- where the second write finds no memory, the gate is still closed
  pub steady_staged : (now : Image → Type 0) → Durable file between now → IsSteady file part now
  steady_staged now durable = (between, record { gate = shut.gate; rest = record_of bytes ++ drop (length (record_of bytes)) shut.rest; is = append_assoc part (shut.gate ∷ record_of bytes) (drop (length (record_of bytes)) shut.rest); closed = shut.closed }, durable)

  module _ {D : Type 0} (moment : D → ℕ) (left_since : D → ℕ → Image → Type 0) (may_leave : D → Image → Type 0)
      (counts_now : (disk : D) (t : ℕ) (c : Image) → t ≤ moment disk → may_leave disk c → left_since disk t c) where
    abbrev pub Run : D → D → Type 0
    Run old new = LeavesOnly moment left_since old new (OneFile file (may_leave old) (IsBeforeOrAfter part bytes))

    pub first_run : (old mid : D) → LeavesOnly moment left_since old mid (OneFile file (may_leave old) (TornFile (at + 1) (length behind) (Some content))) → Run old mid
    first_run old mid run = weaken moment left_since old mid _ _ run
        (λ c one. (one.0, inl (torn_behind part (length behind) content (c file) shut (subst (λ (n : ℕ). TornFile (n + 1) (length behind) (Some content) (c file)) (sym size) one.1))))

    pub second_run : (old mid new : D) → Run old mid → LeavesOnly moment left_since mid new (OneFile file (may_leave mid) (TornFile at 1 (Some between))) → Run old new
    second_run old mid new first second = then moment left_since old mid new _ _ first second
        (one_file_trans file (may_leave old) (may_leave mid) (IsBeforeOrAfter part bytes) (TornFile at 1 (Some between)) (IsBeforeOrAfter part bytes)
        (λ d now. first.each d (counts_now mid (moment old) d first.later now))
        (λ y torn. torn_open part bytes (drop (length (record_of bytes)) shut.rest) shut.gate y (subst (λ (n : ℕ). TornFile n 1 (Some between) y) (sym size) torn)))

-- a commit that found no memory has it from a call that found none
pub was_memory : (fault : DiskFault) (e : CommitError) → e ≡ commit_error fault → e ≡ error.Memory → fault ≡ faults.Memory
was_memory faults.Failed e from is = absurd (cc (from, is))
was_memory faults.Memory e from is = refl
