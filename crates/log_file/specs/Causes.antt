-- What is printed of a log that is refused.
use Rattle.std.specs.Prelude.{ℕ, List, [], ◌++◌, codes}
use Rattle.std.specs.Fmt.{decimal, signed_decimal}
use Rattle.log_codec.specs.declared.fault.FrameError.{FrameError}
use Rattle.log_codec.specs.declared.fault.FrameError.TheVariants as frame
use Rattle.committed_log.specs.declared.unlawful.RegionState.{RegionState}
use Rattle.committed_log.specs.declared.unlawful.RegionState.TheVariants.{Unborn, Live, Prepared, Gone}
use Rattle.committed_log.specs.declared.unlawful.Unlawful.{Unlawful}
use Rattle.committed_log.specs.declared.unlawful.Unlawful.TheVariants as unlawful
use Rattle.log_file.specs.declared.cause.Cause.{Cause}
use Rattle.log_file.specs.declared.cause.Cause.TheVariants.{OfFrame, OfEntry}
use Rattle.log_file.specs.declared.cause.Refusal.{Refusal}

abbrev pub frame_text : FrameError → List ℕ
frame_text (frame.Short at) = codes "short " ++ decimal at
frame_text (frame.Bad at) = codes "bad " ++ decimal at
frame_text (frame.Long at) = codes "long " ++ decimal at
frame_text frame.Memory = []

abbrev pub state_text : RegionState → List ℕ
state_text Unborn = codes "unborn"
state_text Live = codes "live"
state_text Prepared = codes "prepared"
state_text Gone = codes "gone"

abbrev pub entry_text : Unlawful → List ℕ
entry_text unlawful.Count = codes "count"
entry_text (unlawful.Region region state) = codes "region " ++ decimal region ++ codes " " ++ state_text state
entry_text (unlawful.Index wants) = codes "index " ++ decimal wants
entry_text (unlawful.Range handle) = codes "range " ++ signed_decimal handle
entry_text (unlawful.Key op) = codes "key " ++ decimal op
entry_text (unlawful.Record op) = codes "record " ++ decimal op
entry_text (unlawful.Backdated op last) = codes "backdated " ++ decimal op ++ codes " " ++ decimal last
entry_text (unlawful.NoValue op) = codes "no-value " ++ decimal op
entry_text (unlawful.Row op) = codes "row " ++ decimal op
entry_text (unlawful.UnknownColumn op id) = codes "column " ++ decimal op ++ codes " " ++ decimal id
entry_text unlawful.Memory = []

abbrev pub cause_text : Cause → List ℕ
cause_text (OfFrame error) = frame_text error
cause_text (OfEntry error) = entry_text error

-- the whole line
abbrev pub refusal_text : Refusal → List ℕ
refusal_text r = (codes "refused log frame " ++ decimal r.frame) ++ (codes " " ++ (cause_text r.cause ++ codes "\n"))
