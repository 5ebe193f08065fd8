-- A region that is written is read again, whatever follows.
use Rattle.std.proofs.Common.{◌≡◌, ℕ, ◌^◌, ◌<◌, ◌≤◌, true, false, eqb, List, ◌∷◌, ◌++◌, Option, Some, None, Ok, refl, ap, ◌∙◌, append_assoc, arith}
use Rattle.std.specs.Prelude.{FitsSigned}
use Rattle.std.specs.Int.{w32, w64, to_be_bytes}
use Rattle.std.specs.List.{list_any}
use Rattle.flash_types.specs.declared.range.HandleRange.{HandleRange}
use Rattle.log_codec.proofs.Again.{u32_again, u64_again}
use Rattle.region_state.specs.State.{State}
use Rattle.region_file.specs.declared.entry.Entry.{Entry}
use Rattle.region_file.specs.declared.entry.Entry.TheVariants.{Gone, There}
use Rattle.region_file.specs.Regions.{meet, may_be, id_at, free_range_at, target_at, region_at, entry_at}
use Rattle.region_file.specs.Spelling as S
use Rattle.region_file.specs.Spelling.{EndFits, TargetFits, RegionFits, BodyFits, EntryFits}
use Rattle.region_file.specs.Taken.{AreFree}
use Rattle.region_file.proofs.FieldsAgain.{byte_again, range_again}
use Rattle.region_file.proofs.FamiliesAgain.{values_again, locks_again}

id_again : (end : ℕ) (last : Option ℕ) (id : ℕ) (rest : List ℕ) → id < 2 ^ 32 → may_be last id ≡ true → id_at end last (to_be_bytes w32 id ++ rest) ≡ Ok (id, rest)
unfolding id_at
id_again end last id rest fits may = rw (u32_again _ id rest fits, may) refl

free_range_again : (end : ℕ) (earlier : List HandleRange) (r : HandleRange) (rest : List ℕ) → FitsSigned w64 r.low → EndFits r.high → list_any (meet r) earlier ≡ false → free_range_at end earlier (S.range r ++ rest) ≡ Ok (r, rest)
unfolding free_range_at
free_range_again end earlier r rest low high free = rw (range_again end r rest low high, free) refl

target_again : (end : ℕ) (target : Option ℕ) (rest : List ℕ) → TargetFits target → target_at end (S.state target) (S.target target ++ rest) ≡ Ok (target, rest)
unfolding target_at
target_again end None rest fits = refl
target_again end (Some id) rest fits = rw (u32_again _ id rest fits) refl

state_least : (target : Option ℕ) → 1 ≤ S.state target
state_least None = omega arith
state_least (Some id) = omega arith

state_greatest : (target : Option ℕ) → S.state target ≤ 3
state_greatest None = omega arith
state_greatest (Some id) = omega arith

is_there : (target : Option ℕ) → eqb (S.state target) 3 ≡ false
is_there None = refl
is_there (Some id) = refl

-- what stands behind the index
abbrev behind_index : State → List ℕ → List ℕ
behind_index s rest = to_be_bytes w64 s.descriptor.epoch.conf_ver ++ (to_be_bytes w64 s.descriptor.epoch.version ++ (S.range s.descriptor.range ++ (S.target s.target ++ (S.values s.values ++ (S.locks s.locks ++ rest)))))

region_again : (end : ℕ) (earlier : List HandleRange) (s : State) (rest : List ℕ) → RegionFits s → list_any (meet s.descriptor.range) earlier ≡ false → region_at end earlier (S.state s.target) s.descriptor.index (behind_index s rest) ≡ Ok (s, rest)
unfolding region_at
region_again end earlier s rest fits free =
    let range = s.descriptor.range in
    let families : List ℕ = S.values s.values ++ (S.locks s.locks ++ rest) in
    let ranged : List ℕ = S.range range ++ (S.target s.target ++ families) in
    rw (
      u64_again _ s.descriptor.epoch.conf_ver (to_be_bytes w64 s.descriptor.epoch.version ++ ranged) fits.descriptor.conf_ver,
      u64_again _ s.descriptor.epoch.version ranged fits.descriptor.version,
      free_range_again end earlier range (S.target s.target ++ families) fits.descriptor.low fits.descriptor.high free,
      target_again end s.target families fits.target,
      values_again end range s.values (S.locks s.locks ++ rest) fits.few_values fits.values fits.values_rise fits.within.all_values,
      locks_again end range s.locks rest fits.few_locks fits.locks fits.locks_rise fits.within.all_locks,
    ) refl

region_parts : (s : State) (rest : List ℕ) → S.region s ++ rest ≡ to_be_bytes w64 s.descriptor.index ++ behind_index s rest
unfolding S.region
region_parts s rest =
    let index : List ℕ = to_be_bytes w64 s.descriptor.index in
    let conf_ver : List ℕ = to_be_bytes w64 s.descriptor.epoch.conf_ver in
    let version : List ℕ = to_be_bytes w64 s.descriptor.epoch.version in
    let range : List ℕ = S.range s.descriptor.range in
    let target : List ℕ = S.target s.target in
    let values : List ℕ = S.values s.values in
    let locks : List ℕ = S.locks s.locks in
    append_assoc index (conf_ver ++ (version ++ (range ++ (target ++ (values ++ locks))))) rest
    ∙ ap (λ (l : List ℕ). index ++ l) (append_assoc conf_ver (version ++ (range ++ (target ++ (values ++ locks)))) rest
    ∙ ap (λ (l : List ℕ). conf_ver ++ l) (append_assoc version (range ++ (target ++ (values ++ locks))) rest
    ∙ ap (λ (l : List ℕ). version ++ l) (append_assoc range (target ++ (values ++ locks)) rest
    ∙ ap (λ (l : List ℕ). range ++ l) (append_assoc target (values ++ locks) rest
    ∙ ap (λ (l : List ℕ). target ++ l) (append_assoc values locks rest)))))

-- an entry by its body, behind the id
by_body : (end : ℕ) (last : Option ℕ) (earlier : List HandleRange) (id : ℕ) (entry : Entry) (rest : List ℕ) → id < 2 ^ 32 → BodyFits entry → may_be last id ≡ true → AreFree (id, entry) earlier
    → entry_at end last earlier (to_be_bytes w32 id ++ (S.body entry ++ rest)) ≡ Ok ((id, entry), rest)
unfolding entry_at
by_body end last earlier id (Gone index) rest few fits may free =
    rw (id_again end last id (3 ∷ (to_be_bytes w64 index ++ rest)) few may, byte_again 1 3 end 3 (to_be_bytes w64 index ++ rest) (omega arith) (omega arith), u64_again _ index rest fits) refl
by_body end last earlier id (There s) rest few fits may free =
    let state = S.state s.target in
    let bytes : List ℕ = to_be_bytes w64 s.descriptor.index ++ behind_index s rest in
    ap (λ (l : List ℕ). entry_at end last earlier (to_be_bytes w32 id ++ (state ∷ l))) (region_parts s rest)
    ∙ rw (id_again end last id (state ∷ bytes) few may, byte_again 1 3 end state bytes (state_least s.target) (state_greatest s.target), u64_again _ s.descriptor.index (behind_index s rest) fits.descriptor.index, is_there s.target, region_again end earlier s rest fits free) refl

pub entry_again : (end : ℕ) (last : Option ℕ) (earlier : List HandleRange) (e : ℕ × Entry) (rest : List ℕ) → EntryFits e → may_be last e.0 ≡ true → AreFree e earlier → entry_at end last earlier (S.entry e ++ rest) ≡ Ok (e, rest)
unfolding S.entry
entry_again end last earlier e rest fits may free = ap (entry_at end last earlier) (append_assoc (to_be_bytes w32 e.0) (S.body e.1) rest) ∙ by_body end last earlier e.0 e.1 rest fits.0 fits.1 may free
