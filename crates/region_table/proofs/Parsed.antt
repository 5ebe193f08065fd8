-- An entry that was read is the log's at its position.
use Rattle.std.proofs.Common.{◌≡◌, refl, sym, ap, subst, ℕ, Option, Some, None, slice_get}
use Rattle.log_codec.specs.declared.entry.Entry.{Entry}
use Rattle.committed_log.specs.Log.{Log}
use Rattle.raft_apply.specs.Entries.{IsParsed, command_of}
use Rattle.raft_apply.specs.declared.command.Command.{Command}
use Rattle.raft_apply.specs.declared.command.Parsed.{Parsed}

pub record IsOf (log : Log) (x : Parsed) (e : Entry) : Type 0 where
  pub here : slice_get log.entries x.position ≡ Some e
  pub region : x.region ≡ e.region
  pub index : x.index ≡ e.index
  pub command : x.command ≡ command_of log x.position e.body

pub entry_of : (log : Log) (x : Parsed) → IsParsed log x → (e : Entry) × IsOf log x e
entry_of log x is = by (slice_get log.entries x.position) refl is
  where
    some_is : (a b : Parsed) → Some a ≡ Some b → b ≡ a
    some_is a b e = cc e

    by : (o : Option Entry) → slice_get log.entries x.position ≡ o → elim o [ None ↦ None | Some e ↦ Some (record { position = x.position; region = e.region; index = e.index; command = command_of log x.position e.body }) ] ≡ Some x → (e : Entry) × IsOf log x e
    by None here is = absurd (cc is)
    by (Some e) here is = let same = some_is _ _ is in (e, record { here = here; region = ap (λ (y : Parsed). y.region) same; index = ap (λ (y : Parsed). y.index) same; command = ap (λ (y : Parsed). y.command) same })

-- what holds of the log's entry holds of the one that was read
pub moved : (log : Log) (x : Parsed) (e : Entry) → IsOf log x e → (P : ℕ → ℕ → Command → Type 0) → P e.region e.index (command_of log x.position e.body) → P x.region x.index x.command
moved log x e is P h = subst (λ r. P r x.index x.command) (sym is.region) (subst (λ i. P e.region i x.command) (sym is.index) (subst (P e.region e.index) (sym is.command) h))
