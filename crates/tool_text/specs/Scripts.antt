-- What a script says. Each object has its names, and its fields in the order in which they are looked at.
use Rattle.std.specs.Prelude.{◌≡◌, ℕ, ◌-◌, ◌^◌, ◌<◌, ◌≤◌, ◌==◌, ◌&&◌, ℤ, negsuc, Bool, true, false, not, List, [], ◌∷◌, length, codes, min, nat_le, if◌then◌else◌, Option, Some, None, Result, Ok, Err, IsUtf8, bytes_eq}
use Rattle.std.specs.List.{list_any}
use Rattle.flash_list.specs.Steps.{◌>>=◌}
use Rattle.serde_json.specs.Data.{Data}
use Rattle.serde_json.specs.Find.{get, as_str}
use Rattle.serde_json.specs.Read.{read}
use Rattle.flash_types.specs.Asks.{Asked}
use Rattle.flash_types.specs.declared.ask.AskRegion.{AskRegion}
use Rattle.flash_types.specs.declared.range.HandleRange.{HandleRange}
use Rattle.flash_types.specs.declared.settings.Settings.{Settings}
use Rattle.tool_text.specs.Reading.{fits, number, whole, signed, needed, given_or, maybe, field, object_of, list_of, path_to}
use Rattle.tool_text.specs.declared.script.Script.{Script}
use Rattle.tool_text.specs.declared.script.Event.{Event}
use Rattle.tool_text.specs.declared.script.Action.{Action}
use Rattle.tool_text.specs.declared.script.Action.TheVariants.{Flush, Compact, MergeDelta, Split, Merge, Checkpoint, SafePoint}
use Rattle.tool_text.specs.declared.script.ScriptRead.{ScriptRead}
use Rattle.tool_text.specs.declared.script.ScriptError.{ScriptError}
use Rattle.tool_text.specs.declared.script.ScriptError.TheVariants.{Limit, Text, Field, Memory}
use Rattle.tool_text.specs.declared.names.Object.{Object}
use Rattle.tool_text.specs.declared.reader.Workers.{Workers}
use Rattle.tool_text.specs.declared.names.Object.TheVariants as object

abbrev pub names_of : Object → List (List ℕ)
names_of object.Script = codes "appliers" ∷ codes "background" ∷ codes "scanners" ∷ codes "mem_rows" ∷ codes "tiny_files" ∷ codes "delta_rows" ∷ codes "split_rows" ∷ codes "join_rows" ∷ codes "pack_rows" ∷ codes "stop_after" ∷ codes "events" ∷ codes "reads" ∷ []
names_of object.Event = codes "at" ∷ codes "do" ∷ []
names_of object.SafePoint = codes "at" ∷ codes "do" ∷ codes "ts" ∷ []
names_of object.Read = codes "ts" ∷ codes "regions" ∷ codes "low" ∷ codes "high" ∷ codes "after" ∷ []
names_of object.Region = codes "id" ∷ codes "conf_ver" ∷ codes "version" ∷ codes "index" ∷ []

-- ---- reads

unfoldable pub region_in : Data → Result AskRegion (List ℕ)
region_in value = do
  names ← object_of (names_of object.Region) value
  id ← field (codes "id") (needed (number 0 (2 ^ 32 - 1))) value
  conf_ver ← field (codes "conf_ver") (needed whole) value
  version ← field (codes "version") (needed whole) value
  index ← field (codes "index") (needed whole) value
  Ok (record { region = id; epoch = record { conf_ver = conf_ver; version = version }; index = index })

abbrev least_handle : ℤ
least_handle = negsuc (2 ^ 63 - 1)

-- absent ends are the least handle and none
unfoldable pub clip_in : Data → Result HandleRange (List ℕ)
clip_in value = do
  low ← field (codes "low") (given_or least_handle signed) value
  high ← field (codes "high") (maybe signed) value
  Ok (record { low = low; high = high })

abbrev pub is_region : ℕ → AskRegion → Bool
is_region id r = r.region == id

-- no two have the same id
abbrev pub are_distinct : List AskRegion → Bool
are_distinct [] = true
are_distinct (r ∷ regions) = not (list_any (is_region r.region) regions) && are_distinct regions

-- regions that an ask may have
abbrev pub can_be_asked : List AskRegion → Bool
can_be_asked [] = false
can_be_asked (r ∷ regions) = nat_le (length (r ∷ regions)) 64 && are_distinct (r ∷ regions)

unfoldable pub ask_in : ℕ → List AskRegion → Data → Result Asked (List ℕ)
ask_in ts regions value = if can_be_asked regions then (clip_in value >>= λ clip. Ok (record { ts = ts; regions = regions; clip = clip })) else Err (path_to (codes "regions") [])

unfoldable pub read_in : Data → Result ScriptRead (List ℕ)
read_in value = do
  names ← object_of (names_of object.Read) value
  ts ← field (codes "ts") (needed whole) value
  regions ← field (codes "regions") (needed (list_of 64 region_in)) value
  ask ← ask_in ts regions value
  after ← field (codes "after") (given_or 0 (number 0 1048576)) value
  Ok (record { ask = ask; after = after })

-- ---- events

abbrev pub is_text : List ℕ → Option (List ℕ) → Bool
is_text text None = false
is_text text (Some found) = bytes_eq found text

abbrev pub text_in : Option Data → Option (List ℕ)
text_in None = None
text_in (Some value) = as_str value

-- whether the event is to set the safe point
unfoldable pub is_safe_point : Data → Bool
is_safe_point value = is_text (codes "safe_point") (text_in (get (codes "do") value))

abbrev pub kind_of : Bool → Object
kind_of true = object.SafePoint
kind_of false = object.Event

unfoldable pub named_action : List ℕ → Option Action
named_action text =
    if bytes_eq text (codes "flush") then Some Flush
    else if bytes_eq text (codes "compact") then Some Compact
    else if bytes_eq text (codes "merge_delta") then Some MergeDelta
    else if bytes_eq text (codes "split") then Some Split
    else if bytes_eq text (codes "merge") then Some Merge
    else if bytes_eq text (codes "checkpoint") then Some Checkpoint
    else None

abbrev pub action_of : Option (List ℕ) → Result Action (List ℕ)
action_of None = Err []
action_of (Some text) = fits (named_action text)

-- an action that is its name alone
unfoldable pub plain_action : Data → Result Action (List ℕ)
plain_action value = action_of (as_str value)

unfoldable pub action_in : Bool → Data → Result Action (List ℕ)
action_in safe_point value = if safe_point then (field (codes "ts") (needed whole) value >>= λ ts. Ok (SafePoint ts)) else field (codes "do") (needed plain_action) value

unfoldable pub event_in : Data → Result Event (List ℕ)
event_in value = do
  names ← object_of (names_of (kind_of (is_safe_point value))) value
  at ← field (codes "at") (needed (number 0 1048576)) value
  action ← action_in (is_safe_point value) value
  Ok (record { at = at; action = action })

-- ---- scripts

unfoldable pub workers_in : Data → Result Workers (List ℕ)
workers_in value = do
  appliers ← field (codes "appliers") (given_or 3 (number 0 5)) value
  background ← field (codes "background") (given_or 2 (number 0 5)) value
  scanners ← field (codes "scanners") (given_or 3 (number 0 5)) value
  Ok (record { appliers = appliers; background = background; scanners = scanners })

-- at most split_rows
unfoldable pub join_rows_in : ℕ → Data → Result ℕ (List ℕ)
join_rows_in split_rows value = field (codes "join_rows") (given_or (min 1024 split_rows) (number 1 split_rows)) value

unfoldable pub settings_in : Data → Result Settings (List ℕ)
settings_in value = do
  mem_rows ← field (codes "mem_rows") (given_or 512 (number 1 1048576)) value
  tiny_files ← field (codes "tiny_files") (given_or 8 (number 1 1048576)) value
  delta_rows ← field (codes "delta_rows") (given_or 4096 (number 1 1048576)) value
  split_rows ← field (codes "split_rows") (given_or 8192 (number 1 1048576)) value
  join_rows ← join_rows_in split_rows value
  pack_rows ← field (codes "pack_rows") (given_or 1024 (number 1 65536)) value
  Ok (record { mem_rows = mem_rows; tiny_files = tiny_files; delta_rows = delta_rows; split_rows = split_rows; join_rows = join_rows; pack_rows = pack_rows })

unfoldable pub script_in : Data → Result Script (List ℕ)
script_in value = do
  names ← object_of (names_of object.Script) value
  workers ← workers_in value
  settings ← settings_in value
  stop_after ← field (codes "stop_after") (maybe (number 0 1048576)) value
  events ← field (codes "events") (given_or [] (list_of 10000 event_in)) value
  reads ← field (codes "reads") (given_or [] (list_of 10000 read_in)) value
  Ok (record { appliers = workers.appliers; background = workers.background; scanners = workers.scanners; settings = settings; stop_after = stop_after; events = events; reads = reads })

-- ---- bytes

abbrev pub most_script : ℕ
most_script = 16777216

-- the bytes are a text of JSON, and this is its value
abbrev pub IsJson : List ℕ → Data → Type 0
IsJson bytes value = IsUtf8 bytes × (read bytes ≡ Some value)

-- the bytes are this script
pub record IsScript (bytes : List ℕ) (script : Script) : Type 0 where
  pub few : length bytes ≤ most_script
  pub value : Data
  pub json : IsJson bytes value
  pub says : script_in value ≡ Ok script

-- a path as it is told: names and places with dots between them, or a dot alone for the whole
abbrev pub told : List ℕ → List ℕ
told [] = codes "."
told (dot ∷ path) = path

-- the path is that of the first field that isn't as it must be
pub record IsRefusedAt (bytes : List ℕ) (path : List ℕ) : Type 0 where
  pub few : length bytes ≤ most_script
  pub value : Data
  pub json : IsJson bytes value
  pub at : List ℕ
  pub refused : script_in value ≡ Err at
  pub is : path ≡ told at

-- why the bytes are no script; want of memory is told of none that are too many
abbrev pub IsErrorOf : List ℕ → ScriptError → Type 0
IsErrorOf bytes Limit = most_script < length bytes
IsErrorOf bytes Text = (length bytes ≤ most_script) × ((value : Data) → IsJson bytes value → ⊥)
IsErrorOf bytes (Field path) = IsRefusedAt bytes path
IsErrorOf bytes Memory = length bytes ≤ most_script
