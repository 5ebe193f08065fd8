-- When the files of a replica are right, for the entries that are applied and for those that a crash may have left in the files.
use Rattle.std.specs.Prelude.{◌≡◌, ◌⊎◌, ℕ, ◌<◌, ◌≤◌, max, ℤ, Bool, true, false, Some, None, List, [], ◌∷◌, length, drop, IsTrue}
use Rattle.column_block.specs.declared.cell.Version.{Version}
use Rattle.flash_types.specs.Ranges.{holds, is_below}
pub use Rattle.flash_types.specs.Ranges.{least_handle}
use Rattle.committed_log.specs.Log.{Log}
use Rattle.committed_log.specs.ReadIndex.{clears_at}
use Rattle.good_replica.specs.Front.{front, IsUncleared}
use Rattle.good_replica.specs.Trail.{Trail, Segment, trail, present, write}
use Rattle.good_replica.specs.Versions.{Versions, written}

-- ---- the parts, for the versions of one handle: of `front`, what is committed up to the handle's front, and of `all`, what is up to the mark as well

-- Every version is a commit: the files have nothing that the log doesn't have.
abbrev pub EachIsCommitted : Versions → Trail → Type 0
EachIsCommitted all t = (ts : ℕ) (v : Version) → present t ts ≡ Some v → all ts ≡ Some v

-- a newer version that isn't above the safe point hides it from every read that is allowed
abbrev pub IsPassed : Versions → ℕ → ℕ → Type 0
IsPassed all safe ts = (d : ℕ) × (v : Version) × (ts < d) × (d ≤ safe) × (all d ≡ Some v)

-- a delete not above the safe point hides nothing where nothing older is there
abbrev pub IsLoneDelete : Versions → ℕ → ℕ → Version → Type 0
IsLoneDelete there safe ts v = (v.gone ≡ true) × (ts ≤ safe) × ((older : ℕ) → older < ts → there older ≡ None)

-- Every commit is there, or is excused: no read from the safe point on can tell that it is missing.
abbrev pub EachIsThere : Versions → Versions → ℕ → Trail → Type 0
EachIsThere front all safe t = (ts : ℕ) (v : Version) → front ts ≡ Some v → (present t ts ≡ Some v) ⊎ (IsPassed all safe ts ⊎ IsLoneDelete (present t) safe ts v)

-- Newer follows older: behind any number of delta files, where one has a commit, one has each newer commit too. So where the files that a delta merge leaves have an older commit of a row, they have its newer ones too, deletes among them.
abbrev pub NewerFollows : Versions → Trail → Type 0
NewerFollows front t = (k c d : ℕ) (u v : Version) → c < d → front c ≡ Some u → front d ≡ Some v → write c (drop k t.steps) ≡ true → write d (drop k t.steps) ≡ true

-- the three together
pub record IsGoodFor (front all : Versions) (safe : ℕ) (t : Trail) : Type 0 where
  pub real : EachIsCommitted all t
  pub kept : EachIsThere front all safe t
  pub ordered : NewerFollows front t

-- ---- a handle, a segment, a replica

-- Good for one handle: its front f, the mark m, the safe point, and its trail. Where an entry between front and mark clears the handle nothing is asked: the entry is applied before the handle is read.
abbrev pub IsGoodAt : (ℕ → Versions) → (ℕ → Bool) → ℕ → ℕ → ℕ → Trail → Type 0
IsGoodAt written clears f m safe t = IsUncleared clears f m → IsGoodFor (written f) (written (max f m)) safe t

abbrev pub IsGoodOn : Log → ℤ → ℕ → ℕ → ℕ → Trail → Type 0
IsGoodOn log h f m safe t = IsGoodAt (written log h) (clears_at log h) f m safe t

-- each handle of a segment
abbrev pub IsGoodSegment : Log → (ℕ → Bool) → ℕ → ℕ → Segment → Type 0
IsGoodSegment log A m safe s = (h : ℤ) → holds s.range h ≡ true → IsGoodOn log h (front log A h) m safe (trail h s)

abbrev pub EachGood : Log → (ℕ → Bool) → ℕ → ℕ → List Segment → Type 0
EachGood log A m safe [] = Unit {0}
EachGood log A m safe (s ∷ ss) = IsGoodSegment log A m safe s × EachGood log A m safe ss

-- The segments cover the handles from `low` on: the first begins there, each of the others where the one before it ends, none is empty, and the last has no end.
abbrev pub CoversFrom : ℤ → List Segment → Type 0
CoversFrom low [] = IsTrue false
CoversFrom low (s ∷ []) = (s.range.low ≡ low) × (s.range.high ≡ None)
CoversFrom low (s ∷ t ∷ more) = (s.range.low ≡ low) × (s.range.high ≡ Some t.range.low) × (is_below s.range.low s.range.high ≡ true) × CoversFrom t.range.low (t ∷ more)

-- The segments of a replica are good for a log, where the entries of a set are applied and rows of entries below the mark may be in the files: its segments cover all handles, and each handle is good. What the replica's region table says is said elsewhere.
pub record AreGood (log : Log) (A : ℕ → Bool) (m safe : ℕ) (segments : List Segment) : Type 0 where
  pub cover : CoversFrom least_handle segments
  pub mark : m ≤ length log.entries
  pub handles : EachGood log A m safe segments
