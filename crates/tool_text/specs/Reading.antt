-- Readings of JSON data. A reading gives what a value says, or the path of the first part that isn't as it must be: names and places, each behind a dot. The path of the value itself is empty.
use Rattle.std.specs.Prelude.{ℕ, suc, ◌^◌, ◌-◌, ◌&&◌, ℤ, Bool, not, List, [], ◌∷◌, ◌++◌, length, codes, find, nat_le, if◌then◌else◌, Option, Some, None, option_and_then, Result, Ok, Err, bytes_eq}
use Rattle.std.specs.List.{list_any}
use Rattle.std.specs.Fmt.{decimal}
use Rattle.flash_list.specs.Steps.{◌>>=◌}
use Rattle.serde_json.specs.Data.{Data, Items, no_items, item, Members, no_members, member}
use Rattle.serde_json.specs.Find.{get, as_number, as_u64, as_i64, as_array, as_object}

-- the path of what stands under this name, in the path's own value
abbrev pub path_to : List ℕ → List ℕ → List ℕ
path_to name path = codes "." ++ (name ++ path)

abbrev pub below : {A : Type 0} → List ℕ → Result A (List ℕ) → Result A (List ℕ)
below name (Ok x) = Ok x
below name (Err path) = Err (path_to name path)

abbrev pub fits : {A : Type 0} → Option A → Result A (List ℕ)
fits None = Err []
fits (Some x) = Ok x

-- ---- plain values

abbrev pub in_range : ℕ → ℕ → Option ℕ → Option ℕ
in_range least most None = None
in_range least most (Some n) = if nat_le least n && nat_le n most then Some n else None

-- a whole number from least to most
unfoldable pub number : ℕ → ℕ → Data → Result ℕ (List ℕ)
number least most value = fits (in_range least most (option_and_then as_u64 (as_number value)))

-- a whole number of 64 bits
abbrev pub whole : Data → Result ℕ (List ℕ)
whole = number 0 (2 ^ 64 - 1)

-- a whole number of 64 bits with a sign
unfoldable pub signed : Data → Result ℤ (List ℕ)
signed value = fits (option_and_then as_i64 (as_number value))

-- ---- fields of an object

-- a field that must be there
abbrev pub needed : {A : Type 0} → (Data → Result A (List ℕ)) → Option Data → Result A (List ℕ)
needed reading None = Err []
needed reading (Some value) = reading value

-- a field that has a value also where it isn't there
abbrev pub given_or : {A : Type 0} → A → (Data → Result A (List ℕ)) → Option Data → Result A (List ℕ)
given_or default reading None = Ok default
given_or default reading (Some value) = reading value

-- a field that may be there
abbrev pub maybe : {A : Type 0} → (Data → Result A (List ℕ)) → Option Data → Result (Option A) (List ℕ)
maybe reading None = Ok None
maybe reading (Some value) = reading value >>= λ x. Ok (Some x)

unfoldable pub field : {A : Type 0} → List ℕ → (Option Data → Result A (List ℕ)) → Data → Result A (List ℕ)
field name reading value = below name (reading (get name value))

-- ---- names of an object

-- in the byte order of the names
abbrev pub names_in : Members → List (List ℕ)
names_in no_members = []
names_in (member name value members) = name ∷ names_in members

abbrev pub is_one_of : List (List ℕ) → List ℕ → Bool
is_one_of names name = list_any (bytes_eq name) names

abbrev pub no_other : Option (List ℕ) → Result (Unit {0}) (List ℕ)
no_other None = Ok (tt {0})
no_other (Some name) = Err (path_to name [])

abbrev pub only_names : List (List ℕ) → Option Members → Result (Unit {0}) (List ℕ)
only_names names None = Err []
only_names names (Some members) = no_other (find (λ name. not (is_one_of names name)) (names_in members))

-- an object with no other names than these
unfoldable pub object_of : List (List ℕ) → Data → Result (Unit {0}) (List ℕ)
object_of names value = only_names names (as_object value)

-- ---- lists

abbrev pub listed : Items → List Data
listed no_items = []
listed (item value items) = value ∷ listed items

-- the items from this place on, one after the other
unfoldable pub each : {A : Type 0} → (Data → Result A (List ℕ)) → ℕ → List Data → Result (List A) (List ℕ)
each reading place [] = Ok []
each reading place (value ∷ values) = do
  first ← below (decimal place) (reading value)
  others ← each reading (suc place) values
  Ok (first ∷ others)

abbrev pub at_most : {A : Type 0} → ℕ → (Data → Result A (List ℕ)) → Option Items → Result (List A) (List ℕ)
at_most most reading None = Err []
at_most most reading (Some items) = if nat_le (length (listed items)) most then each reading 0 (listed items) else Err []

-- a list of at most so many items; one that is too long is refused before its items
unfoldable pub list_of : {A : Type 0} → ℕ → (Data → Result A (List ℕ)) → Data → Result (List A) (List ℕ)
list_of most reading value = at_most most reading (as_array value)
