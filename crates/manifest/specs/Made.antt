-- A store that is made.
use Rattle.std.specs.Prelude.{◌≡◌, ◌≢◌, ◌⊎◌, ℕ, ℤ, ◌≤◌, true, List, [], ◌∷◌, length, None}
use Rattle.flash_io.specs.Image.{Image, Holds}
use Rattle.flash_io.specs.Crash.{Created, Torn}
use Rattle.column_block.specs.declared.column.Column.{Column}
use Rattle.manifest_form.specs.declared.state.State.{State}
use Rattle.manifest_form.specs.declared.state.Edit.{Edit}
use Rattle.manifest_form.specs.declared.state.Edit.TheVariants.{Next, Segment, High, SafePoint}
use Rattle.manifest_form.specs.declared.recover.Recovered.{Recovered}
use Rattle.manifest_form.specs.Example.{whole}
use Rattle.manifest.specs.declared.store.Manifest.{Manifest}
use Rattle.manifest.specs.Stores.{IsNew, HasStore, has_of}

-- the first record: Next 2, one segment of all handles without files, nothing that may be in files, and no safe point
abbrev pub first_edits : List ℕ → List Edit
first_edits chain = Next 2 ∷ Segment (whole 0 []) ∷ High 0 chain ∷ SafePoint 0 ∷ []

abbrev pub first_state : List ℕ → State
first_state chain = record { next = 2; segments = whole 0 [] ∷ []; high = 0; chain = chain; safe_point = 0; regions = None; count = None }

-- a store of this table and these columns in this state
abbrev pub store_of : ℤ → List Column → State → Recovered
store_of table columns state = record { header = record { table = table; columns = columns }; state = state }

-- a new store of this table and these columns; the chain value is that of no entries
abbrev pub new_store : ℤ → List Column → List ℕ → Recovered
new_store table columns chain = store_of table columns (first_state chain)

-- a new store in file 1
pub record IsFresh (table : ℤ) (columns : List Column) (chain : List ℕ) (m : Manifest) : Type 0 where
  pub file : m.file ≡ 1
  pub has : has_of m ≡ new_store table columns chain
  pub steadied : m.steadied ≡ true

-- ---- where a store may be made

-- a root of one byte at most
abbrev pub HasShortRoot : Image → Type 0
HasShortRoot c = (root : List ℕ) × Holds c 0 root × (length root ≤ 1)

-- no file, but perhaps a root of one byte at most
abbrev pub IsBare : Image → Type 0
IsBare c = ((file : ℕ) → file ≢ 0 → c file ≡ None) × ((c 0 ≡ None) ⊎ HasShortRoot c)

-- a root whose first gate isn't there: it has no byte, or the one byte 1
abbrev pub LacksGate : List ℕ → Type 0
LacksGate root = (root ≡ []) ⊎ (root ≡ 1 ∷ [])

-- a root whose first gate is there
abbrev pub HasGate : Image → Type 0
HasGate c = (root : List ℕ) × Holds c 0 root × (LacksGate root → ⊥)

-- Each image is bare, or each has a root of one byte at most, or the root as the disk reads has its first gate. In the last case nothing is asked of the images: a sync gives each of them that root.
abbrev pub IsUnmade : Image → (Image → Type 0) → Type 0
IsUnmade files outcomes = ((c : Image) → outcomes c → IsBare c) ⊎ (((c : Image) → outcomes c → HasShortRoot c) ⊎ ((c : Image) → outcomes c → HasGate files))

-- ---- images while a store is made

-- an old image; or one where file 0, which doesn't read as there, was made with one byte at most; or one where a root without its first gate was torn in its first byte
abbrev pub MadeReady : Image → (Image → Type 0) → Image → Type 0
MadeReady files old c = old c ⊎ ((d : Image) × old d × (((files 0 ≡ None) × Created 0 1 d c) ⊎ (((root : List ℕ) × Holds files 0 root × LacksGate root) × Torn 0 0 1 d c)))

-- but for files 0 and 1 the image is an old one
abbrev pub Apart : (Image → Type 0) → Image → Type 0
Apart old c = (d : Image) × old d × ((file : ℕ) → file ≢ 0 → file ≢ 1 → c file ≡ d file)

-- nothing was committed or the new store is there whole, and all other files are as they might have been
abbrev pub NewOrMade : (Image → Type 0) → Recovered → Image → Type 0
NewOrMade old has c = Apart old c × (IsNew c ⊎ HasStore c 1 has)

-- an old image, or one in which nothing was committed, and all files but 0 and 1 are as they might have been
abbrev pub OldOrNone : (Image → Type 0) → Image → Type 0
OldOrNone old c = old c ⊎ (Apart old c × IsNew c)

-- an old image, or one in which nothing was committed or the new store is there whole, and all files but 0 and 1 are as they might have been
abbrev pub OldOrMade : (Image → Type 0) → Recovered → Image → Type 0
OldOrMade old has c = old c ⊎ NewOrMade old has c
