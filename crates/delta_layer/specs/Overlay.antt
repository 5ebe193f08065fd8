-- How the versions that are present are found, step by step. No contract of a public call cites these.
use Rattle.std.specs.Prelude.{◌≡◌, ℕ, ℤ, ◌<◌, Bool, false, not, ◌&&◌, int_lt, List, [], ◌∷◌, ◌++◌, length, take, drop, filter, slice_get, if◌then◌else◌, Option, Some, None}
use Rattle.std.specs.List.{All, filter_map, list_any, prefix_len}
use Rattle.std.specs.Option.{option_and_then}
use Rattle.column_block.specs.declared.cell.Version.{Version}
use Rattle.column_file.specs.declared.file.ColumnFile.{ColumnFile}
use Rattle.column_file.specs.declared.file.ColumnFile.TheVariants.{Mem, Tiny, DeleteRange}
use Rattle.delta_index.specs.Indexes.{Entry}
use Rattle.flash_types.specs.Ranges.{holds, is_below}
use Rattle.flash_types.specs.declared.range.HandleRange.{HandleRange}
use Rattle.column_block.specs.Order.{is_before}

-- ---- versions by their places

-- the versions at these places
abbrev pub picked : List Version → List ℕ → List Version
picked all places = filter_map (slice_get all) places

abbrev pub ArePlaces : List Version → List ℕ → Type 0
ArePlaces all places = All (λ (place : ℕ). place < length all) places

-- ---- the newest versions of a delta

abbrev pub block_in : ColumnFile → List Version
block_in (Mem block) = block
block_in (Tiny file block) = block
block_in (DeleteRange range) = []

-- the version at a row of the file with this number
abbrev pub at_place : List ColumnFile → ℕ × ℕ → Option Version
at_place files place = option_and_then (λ (f : ColumnFile). slice_get (block_in f) place.1) (slice_get files place.0)

-- the versions where an index has them
abbrev pub placed : List ColumnFile → List Entry → List Version
placed files entries = filter_map (λ (entry : Entry). at_place files entry.1) entries

abbrev pub in_range : HandleRange → List Entry → List Entry
in_range range entries = filter (λ (entry : Entry). holds range entry.0.0) entries

-- ---- delete-ranges

abbrev pub clear_in : ColumnFile → Option HandleRange
clear_in (DeleteRange range) = Some range
clear_in _ = None

abbrev pub clears_in : List ColumnFile → List HandleRange
clears_in files = filter_map clear_in files

-- whether one of the ranges holds the handle
abbrev pub any_holds : List HandleRange → ℤ → Bool
any_holds ranges h = list_any (λ (range : HandleRange). holds range h) ranges

-- they go by their low ends
abbrev pub AreByLow : List HandleRange → Type 0
AreByLow [] = Unit {0}
AreByLow (range ∷ []) = Unit {0}
AreByLow (range ∷ next ∷ others) = (int_lt next.low range.low ≡ false) × AreByLow (next ∷ others)

-- whether ranges that begin at or below a handle reach past it, where this is the furthest end of them
abbrev pub reached : Option (Option ℤ) → ℤ → Bool
reached None h = false
reached (Some end) h = is_below h end

abbrev pub later_end : Option ℤ → Option ℤ → Option ℤ
later_end None b = None
later_end (Some a) None = None
later_end (Some a) (Some b) = Some (if int_lt a b then b else a)

-- the furthest end with one more range's
abbrev pub further : Option (Option ℤ) → Option ℤ → Option (Option ℤ)
further None high = Some high
further (Some end) high = Some (later_end end high)

-- whether a stable version counts: its handle is in the segment's range and in no delete-range
abbrev pub stays : HandleRange → List HandleRange → Version → Bool
stays range ranges v = holds range v.handle && not (any_holds ranges v.handle)

-- ---- stable versions and newer ones

-- how many of the newer versions stand before a version
abbrev pub count_before : Version → List Version → ℕ
count_before v news = prefix_len (λ (w : Version). is_before w v) news

-- the version, where it isn't the first of the newer ones
abbrev pub own : Version → List Version → List Version
own v [] = v ∷ []
own v (w ∷ ws) = if is_before v w then v ∷ [] else []

-- Both in order. Where a handle and timestamp stand in both, the newer version counts.
abbrev pub merged : List Version → List Version → List Version
merged [] news = news
merged (v ∷ olds) news = take (count_before v news) news ++ (own v (drop (count_before v news) news) ++ merged olds (drop (count_before v news) news))
