-- Which work on segments is due.
use Rattle.std.specs.Prelude.{ℕ, ◌+◌, nat_le, nat_lt, max, Bool, false, Option, Some, None, option_map, List, [], ◌∷◌, ◌++◌, slice_get}
use Rattle.std.specs.List.{find}
use Rattle.delta_layer.specs.declared.built.Job.TheVariants.{Compact, MergeDelta, Split, Merge}
use Rattle.flash_types.specs.declared.settings.Settings.{Settings}
use Rattle.segment_due.specs.declared.works.Due.{Due}
use Rattle.segment_due.specs.declared.works.Due.TheVariants.{Flush, Work}
use Rattle.segment_due.specs.declared.info.SegInfo.{SegInfo}

-- whether so many versions and those of the next segment, if there is one, are at most so many
abbrev pub can_join : ℕ → ℕ → Option ℕ → Bool
can_join most total None = false
can_join most total (Some next) = nat_le (total + next) most

-- The works on a segment in the order in which they are looked at, each with whether it is due. The next segment's versions decide on the merge.
abbrev pub works_on : Settings → SegInfo → Option ℕ → List (Bool × Due)
works_on s i next =
    (nat_le s.mem_rows i.mem, Flush i.id)
    ∷ (nat_le (max s.tiny_files 2) i.tiny_run, Work (Compact i.id))
    ∷ (nat_le s.delta_rows i.delta, Work (MergeDelta i.id))
    ∷ (nat_lt s.split_rows i.total, Work (Split i.id))
    ∷ (can_join s.join_rows i.total next, Work (Merge i.id))
    ∷ []

abbrev pub total_in : SegInfo → ℕ
total_in i = i.total

-- The works on all segments, these in rising order of their handles.
abbrev pub works_in : Settings → List SegInfo → List (Bool × Due)
works_in s [] = []
works_in s (i ∷ more) = works_on s i (option_map total_in (slice_get more 0)) ++ works_in s more

abbrev pub is_due : Bool × Due → Bool
is_due work = work.0

abbrev pub work_of : Bool × Due → Due
work_of work = work.1

-- the first of these works that is due
abbrev pub first_of : List (Bool × Due) → Option Due
first_of works = option_map work_of (find is_due works)

abbrev pub due_of : Settings → List SegInfo → Option Due
due_of s infos = first_of (works_in s infos)
