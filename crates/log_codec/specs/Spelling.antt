-- The one spelling of a header and of an entry's frame.
use Rattle.std.specs.Prelude.{◌≡◌, ℕ, ◌+◌, ◌^◌, ◌<◌, ◌≤◌, ℤ, Bool, true, false, List, [], ◌∷◌, ◌++◌, length, Option, Some, None}
use Rattle.std.specs.Int.{w16, w32, w64, to_be_bytes, cast_unsigned}
use Rattle.std.specs.List.{flat_map}
use Rattle.log_codec.specs.declared.entry.Entry.{Entry}
use Rattle.log_codec.specs.declared.entry.Body.{Body}
use Rattle.log_codec.specs.declared.entry.Body.TheVariants.{Open, Write, Split, Prepare, Commit, Remove, Install, Empty}
use Rattle.log_codec.specs.declared.entry.Op.{Op}
use Rattle.log_codec.specs.declared.entry.Family.{Family}
use Rattle.log_codec.specs.declared.entry.Family.TheVariants.{Default, Lock, Write as WriteFamily}
use Rattle.log_codec.specs.declared.header.Header.{Header}
use Rattle.log_codec.specs.declared.header.ColumnSpec.{ColumnSpec}
use Rattle.log_codec.specs.Header.{magic}

-- ---- the header

abbrev pub handle : ℤ → List ℕ
handle z = to_be_bytes w64 (cast_unsigned w64 z)

abbrev pub column : ColumnSpec → List ℕ
column c = to_be_bytes w32 c.id ++ c.kind ∷ []

unfoldable pub header : Header → List ℕ
header h = to_be_bytes w64 magic ++ (to_be_bytes w16 1 ++ (handle h.table ++ (to_be_bytes w16 (length h.columns) ++ flat_map column h.columns)))

-- ---- bodies

abbrev pub high : Option ℤ → List ℕ
high None = 0 ∷ []
high (Some z) = 1 ∷ handle z

abbrev pub family_byte : Family → ℕ
family_byte Default = 1
family_byte Lock = 2
family_byte WriteFamily = 3

abbrev pub put_byte : Bool → ℕ
put_byte true = 1
put_byte false = 2

-- a put alone has a value
abbrev pub value : Bool → List ℕ → List ℕ
value true bytes = to_be_bytes w32 (length bytes) ++ bytes
value false bytes = []

unfoldable pub op : Op → List ℕ
op o = put_byte o.put ∷ family_byte o.family ∷ (to_be_bytes w16 (length o.key) ++ (o.key ++ value o.put o.value))

abbrev pub ops : List Op → List ℕ
ops list = to_be_bytes w32 (length list) ++ flat_map op list

abbrev pub epoch : ℕ → ℕ → List ℕ
epoch conf_ver version = to_be_bytes w64 conf_ver ++ to_be_bytes w64 version

abbrev pub range : ℤ → Option ℤ → List ℕ
range low end = handle low ++ high end

unfoldable pub body : Body → List ℕ
body (Open conf_ver version low end) = 1 ∷ (epoch conf_ver version ++ range low end)
body (Write list) = 2 ∷ ops list
body (Split at child) = 3 ∷ (handle at ++ to_be_bytes w32 child)
body (Prepare target) = 4 ∷ to_be_bytes w32 target
body (Commit source) = 5 ∷ to_be_bytes w32 source
body Remove = 6 ∷ []
body (Install conf_ver version low end list) = 7 ∷ (epoch conf_ver version ++ (range low end ++ ops list))
body Empty = 8 ∷ []

-- ---- entries

unfoldable pub payload : Entry → List ℕ
payload e = to_be_bytes w32 e.region ++ (to_be_bytes w64 e.index ++ body e.body)

unfoldable pub frame : Entry → List ℕ
frame e = to_be_bytes w32 (length (payload e)) ++ payload e
