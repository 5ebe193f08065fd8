-- Why a read is refused, by what a table keeps. It is what the row store says at the table's set, as a law tells.
use Rattle.std.specs.Prelude.{ℕ, Option, Some, None, List, nat_lt, if◌then◌else◌, fold}
use Rattle.std.specs.Option.{option_or}
use Rattle.flash_types.specs.declared.ask.AskRegion.{AskRegion}
use Rattle.flash_types.specs.declared.refusal.Refusal.{Refusal}
use Rattle.flash_types.specs.declared.refusal.Refusal.TheVariants as refusal
use Rattle.flash_types.specs.declared.refusal.Wants.TheVariants as wants
use Rattle.committed_log.specs.Applied.{next_of}
use Rattle.committed_log.specs.Log.{Log}
use Rattle.committed_log.specs.Replies.{first_lock, same_epoch, unsettled_refusal}
use Rattle.region_file.specs.declared.entry.Entry.TheVariants as kept
use Rattle.region_state.specs.State.{State}
use Rattle.region_table.specs.Table.{Kept, kept_in}

abbrev pub locked : ℕ → ℕ → State → Option Refusal
locked ts r s = elim (first_lock s.locks s.descriptor.range ts) [ None ↦ None | Some l ↦ Some (refusal.Locked r s.descriptor.index l.0 l.1.start) ]

abbrev pub refused_there : ℕ → AskRegion → Option ℕ → ℕ → State → Option Refusal
refused_there ts asked next mark s =
    if nat_lt s.descriptor.index asked.index then Some (refusal.NotYet asked.region (Some s.descriptor.index) (wants.Index asked.index))
    else option_or (unsettled_refusal asked.region s.descriptor.index next mark)
    (if same_epoch s.descriptor.epoch asked.epoch then locked ts asked.region s else Some (refusal.EpochNotMatch asked.region s.descriptor.index (Some s.descriptor.epoch)))

abbrev pub refused_kept : Log → ℕ → AskRegion → ℕ → Option Kept → Option Refusal
refused_kept log ts asked mark None = Some (refusal.NotYet asked.region None (wants.Index asked.index))
refused_kept log ts asked mark (Some (kept.Gone index)) = Some (refusal.EpochNotMatch asked.region index None)
refused_kept log ts asked mark (Some (kept.There s)) = refused_there ts asked (next_of log asked.region s.descriptor.index) mark s

-- the first of the regions that can't be read, and why
abbrev pub refused_list : Log → List (ℕ × Kept) → ℕ → ℕ → List AskRegion → Option Refusal
refused_list log regions ts mark asked = fold (λ (why : Option Refusal) (one : AskRegion). option_or why (refused_kept log ts one mark (kept_in regions one.region))) None asked
