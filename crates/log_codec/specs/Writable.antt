-- What the format can write.
use Rattle.std.specs.Prelude.{◌≡◌, ℕ, ◌+◌, ◌^◌, ◌<◌, ◌≤◌, ℤ, Bool, true, false, List, [], ◌∷◌, length, Option, Some, None, IsTrue, FitsSigned, slice_index}
use Rattle.std.specs.Int.{w64}
use Rattle.std.specs.List.{All}
use Rattle.log_codec.specs.declared.entry.Entry.{Entry}
use Rattle.log_codec.specs.declared.entry.Body.{Body}
use Rattle.log_codec.specs.declared.entry.Body.TheVariants.{Open, Write, Split, Prepare, Commit, Remove, Install, Empty}
use Rattle.log_codec.specs.declared.entry.Op.{Op}
use Rattle.log_codec.specs.declared.header.Header.{Header}
use Rattle.log_codec.specs.declared.header.ColumnSpec.{ColumnSpec}
use Rattle.log_codec.specs.Header.{above}
use Rattle.log_codec.specs.Spelling.{payload}

-- ids rise, the first from this one on
abbrev pub Rising : ℕ → List ColumnSpec → Type 0
Rising least [] = Unit {0}
Rising least (c ∷ rest) = (least ≤ c.id) × Rising (above c) rest

abbrev pub IsKind : ColumnSpec → Type 0
IsKind c = (1 ≤ c.kind) × (c.kind ≤ 3)

pub record HeaderCanBeWritten (h : Header) : Type 0 where
  pub count : length h.columns ≤ 64
  pub ids : Rising 0 h.columns
  pub kinds : All IsKind h.columns

-- the lengths of an op fit their fields, and a delete has no value
pub record OpCanBeWritten (o : Op) : Type 0 where
  pub key : length o.key < 2 ^ 16
  pub value : length o.value < 2 ^ 32
  pub delete : o.put ≡ false → o.value ≡ []

abbrev pub IsEpoch : ℕ → ℕ → Type 0
IsEpoch conf_ver version = (conf_ver < 2 ^ 62) × (version < 2 ^ 62)

pub record OpsCanBeWritten (ops : List Op) : Type 0 where
  pub count : length ops < 2 ^ 32
  pub each : All OpCanBeWritten ops

abbrev pub IsPut : Op → Type 0
IsPut o = IsTrue o.put

pub record InstallCanBeWritten (conf_ver version : ℕ) (ops : List Op) : Type 0 where
  pub epoch : IsEpoch conf_ver version
  pub list : OpsCanBeWritten ops
  pub puts : All IsPut ops

abbrev pub BodyCanBeWritten : Body → Type 0
BodyCanBeWritten (Open conf_ver version low high) = IsEpoch conf_ver version
BodyCanBeWritten (Write ops) = OpsCanBeWritten ops
BodyCanBeWritten (Split at child) = Unit {0}
BodyCanBeWritten (Prepare target) = Unit {0}
BodyCanBeWritten (Commit source) = Unit {0}
BodyCanBeWritten Remove = Unit {0}
BodyCanBeWritten (Install conf_ver version low high ops) = InstallCanBeWritten conf_ver version ops
BodyCanBeWritten Empty = Unit {0}

pub record CanBeWritten (e : Entry) : Type 0 where
  pub index : (1 ≤ e.index) × (e.index < 2 ^ 63)
  pub body : BodyCanBeWritten e.body
  pub size : length (payload e) ≤ 16777216

-- ---- every number is one of its type, as it is in the program

abbrev pub HandleFits : Option ℤ → Type 0
HandleFits None = Unit {0}
HandleFits (Some z) = FitsSigned w64 z

abbrev pub BodyNumbersFit : Body → Type 0
BodyNumbersFit (Open conf_ver version low high) = FitsSigned w64 low × HandleFits high
BodyNumbersFit (Write ops) = Unit {0}
BodyNumbersFit (Split at child) = FitsSigned w64 at × (child < 2 ^ 32)
BodyNumbersFit (Prepare target) = target < 2 ^ 32
BodyNumbersFit (Commit source) = source < 2 ^ 32
BodyNumbersFit Remove = Unit {0}
BodyNumbersFit (Install conf_ver version low high ops) = FitsSigned w64 low × HandleFits high
BodyNumbersFit Empty = Unit {0}

pub record NumbersFit (e : Entry) : Type 0 where
  pub region : e.region < 2 ^ 32
  pub body : BodyNumbersFit e.body

pub record HeaderNumbersFit (h : Header) : Type 0 where
  pub table : FitsSigned w64 h.table
  pub ids : All (λ c. c.id < 2 ^ 32) h.columns

-- every byte is one
abbrev pub AreBytes : List ℕ → Type 0
AreBytes bytes = (i : ℕ) → slice_index bytes i < 256
