-- Memory-comparable keys: a text in groups of eight bytes, each with a marker behind it.
use Rattle.std.specs.Prelude.{ℕ, ◌+◌, ◌-◌, ◌^◌, ℤ, pos, negsuc, List, [], ◌∷◌, ◌++◌, length, take, drop, slice_index, not, ◌&&◌, ◌==◌, nat_lt, if◌then◌else◌, position, Option, Some, None, Result, Ok, Err}
use Rattle.std.specs.Int.{w64, from_be_bytes}
use Rattle.kv_codec.specs.declared.keys.KeyError.{KeyError}
use Rattle.kv_codec.specs.declared.keys.KeyError.TheVariants.{Short, Marker, Pad, Long}
use Rattle.flash_list.specs.Steps.{◌>>=◌}

-- the place of the first byte that isn't zero
abbrev pub first_set : List ℕ → Option ℕ
first_set bytes = position (λ b. not (b == 0)) bytes

-- nothing may follow the last group
abbrev pub ended : ℕ → List ℕ → List ℕ → Result (List ℕ) KeyError
ended at text [] = Ok text
ended at text (b ∷ rest) = Err (Long at)

-- the pads, of which the first that isn't zero is wrong
abbrev pub padded : ℕ → List ℕ → Option ℕ → List ℕ → Result (List ℕ) KeyError
padded at text None rest = ended (at + 9) text rest
padded at text (Some pad) rest = Err (Pad (at + length text + pad))

-- the last group at this place: so many of its bytes are of the text, and the others are pads
abbrev pub last_group : ℕ → List ℕ → ℕ → List ℕ → Result (List ℕ) KeyError
last_group at group count rest = padded at (take count group) (first_set (drop count group)) rest

-- the text of the groups from this place on
unfoldable pub text_at : ℕ → List ℕ → Result (List ℕ) KeyError
text_at at (a ∷ b ∷ c ∷ d ∷ e ∷ f ∷ g ∷ h ∷ marker ∷ rest) =
    let group = a ∷ b ∷ c ∷ d ∷ e ∷ f ∷ g ∷ h ∷ [] in
    if nat_lt marker 247 then Err (Marker (at + 8))
    else if nat_lt marker 255 then last_group at group (marker - 247) rest
    else (text_at (at + 9) rest >>= λ text. Ok (group ++ text))
text_at at bytes = Err (Short (at + length bytes))

-- a number with the sign bit flipped, so that the order of numbers is that of their bytes
abbrev pub flipped : ℤ → ℕ
flipped (pos n) = 2 ^ 63 + n
flipped (negsuc n) = 2 ^ 63 - (n + 1)

abbrev pub unflipped : ℕ → ℤ
unflipped n = if nat_lt n (2 ^ 63) then negsuc (2 ^ 63 - (n + 1)) else pos (n - 2 ^ 63)

-- `t`, the table, `_r`, the handle: the handle, where the text is a record key of this table
unfoldable pub handle_of : ℤ → List ℕ → Option ℤ
handle_of table (t ∷ a ∷ b ∷ c ∷ d ∷ e ∷ f ∷ g ∷ h ∷ line ∷ r ∷ handle) =
    let number = from_be_bytes w64 (a ∷ b ∷ c ∷ d ∷ e ∷ f ∷ g ∷ h ∷ []) in
    if not (t == 116) then None else if not (number == flipped table) then None
    else if not (line == 95) then None else if not (r == 114) then None
    else if length handle == 8 then Some (unflipped (from_be_bytes w64 handle)) else None
handle_of table text = None

-- the handle of an encoded key, none where it is no record key of the table
unfoldable pub record_at : ℤ → List ℕ → Result (Option ℤ) KeyError
record_at table key = text_at 0 key >>= λ text. Ok (handle_of table text)

-- a key and the timestamp behind it, whose bits are flipped
unfoldable pub parts_at : List ℕ → Result (List ℕ × ℕ) KeyError
parts_at key =
    let front = length key - 8 in
    if nat_lt (length key) 8 then Err (Short (length key))
    else Ok (take front key, 2 ^ 64 - 1 - from_be_bytes w64 (drop front key))

-- ---- the program's steps

-- the bytes of a text with no markers, where the key is as long as a record key
abbrev pub unmarked : List ℕ → List ℕ
unmarked (a ∷ b ∷ c ∷ d ∷ e ∷ f ∷ g ∷ h ∷ marker ∷ rest) = a ∷ b ∷ c ∷ d ∷ e ∷ f ∷ g ∷ h ∷ unmarked rest
unmarked bytes = bytes

unfoldable pub handle_in : ℤ → List ℕ → Option ℤ
handle_in table key = if (length key == 27) && (slice_index key 26 == 250) then handle_of table (take 19 (unmarked key)) else None

-- a record key, from the bytes of the table and of the handle
abbrev pub key_by_places : List ℕ → List ℕ → List ℕ
key_by_places t h =
    116 ∷ slice_index t 0 ∷ slice_index t 1 ∷ slice_index t 2 ∷ slice_index t 3 ∷ slice_index t 4 ∷ slice_index t 5 ∷ slice_index t 6 ∷ 255
    ∷ slice_index t 7 ∷ 95 ∷ 114 ∷ slice_index h 0 ∷ slice_index h 1 ∷ slice_index h 2 ∷ slice_index h 3 ∷ slice_index h 4 ∷ 255
    ∷ slice_index h 5 ∷ slice_index h 6 ∷ slice_index h 7 ∷ 0 ∷ 0 ∷ 0 ∷ 0 ∷ 0 ∷ 250 ∷ []
