-- Ranges of handles.
use Rattle.std.specs.Prelude.{ℤ, negsuc, ◌^◌, ◌-◌, Bool, true, false, ◌&&◌, ◌||◌, Option, Some, None, int_lt, int_le, if◌then◌else◌}
use Rattle.std.specs.Ordering.{int_eq}
use Rattle.flash_types.specs.declared.range.HandleRange.{HandleRange}

-- the least handle that a row may have
abbrev pub least_handle : ℤ
least_handle = negsuc (2 ^ 63 - 1)

-- the range of all handles
abbrev pub all_handles : HandleRange
all_handles = record { low = least_handle; high = None }

-- whether the handle is below the end, where there is one
abbrev pub is_below : ℤ → Option ℤ → Bool
is_below handle None = true
is_below handle (Some high) = int_lt handle high

-- whether the range holds the handle: from its low end up to and without its high end
abbrev pub holds : HandleRange → ℤ → Bool
holds range handle = int_le range.low handle && is_below handle range.high

-- whether the range holds a handle at all
abbrev pub has_any : HandleRange → Bool
has_any range = is_below range.low range.high

-- whether each of the ranges begins below the other's end, as where they have a handle in common
abbrev pub meets : HandleRange → HandleRange → Bool
meets a b = is_below a.low b.high && is_below b.low a.high

abbrev pub ends_at : HandleRange → ℤ → Bool
ends_at range handle = elim range.high [ None ↦ false | Some high ↦ int_eq high handle ]

-- whether one of the ranges begins where the other ends
abbrev pub touch : HandleRange → HandleRange → Bool
touch a b = ends_at a b.low || ends_at b a.low

-- two ranges that touch, as one
abbrev pub joined : HandleRange → HandleRange → HandleRange
joined a b = if ends_at a b.low then record { low = a.low; high = b.high } else record { low = b.low; high = a.high }

abbrev pub lower_end : Option ℤ → Option ℤ → Option ℤ
lower_end None b = b
lower_end (Some a) None = Some a
lower_end (Some a) (Some b) = Some (if int_le a b then a else b)

-- the handles that both ranges hold
abbrev pub common : HandleRange → HandleRange → HandleRange
common a b = record { low = if int_le a.low b.low then b.low else a.low; high = lower_end a.high b.high }

-- the handles of a range below one of them, and those from it on
abbrev pub part_below : HandleRange → ℤ → HandleRange
part_below range at = record { low = range.low; high = Some at }

abbrev pub part_from : HandleRange → ℤ → HandleRange
part_from range at = record { low = at; high = range.high }
