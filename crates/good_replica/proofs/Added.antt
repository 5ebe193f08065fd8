-- What an entry adds suits the log's columns.
use Rattle.std.proofs.Common.{◌≡◌, refl, ℕ, suc, true, false, List, [], Option, Some, None, filter, is_none}
use Rattle.std.proofs.lemmas.List.Elements.{All-filter, All-map, Contains-get_or}
use Rattle.std.specs.List.{All, slice_index_or}
use Rattle.std.specs.Prelude.{◌==◌}
use Rattle.column_block.specs.Suiting.{CellsFit, Suits}
use Rattle.column_block.specs.declared.cell.Cell.{Cell}
use Rattle.column_block.specs.declared.column.Column.{Column}
use Rattle.committed_log.specs.Lawful.{IsLawful}
use Rattle.committed_log.specs.Log.{Log, at}
use Rattle.committed_log.specs.Reads.{cells}
use Rattle.committed_log.specs.declared.store.Commit.{Commit}
use Rattle.log_laws.proofs.Committed.{committed_is_row}
use Rattle.log_laws.proofs.Fitting.{row_fits}
use Rattle.good_replica.specs.Effect.{added}
use Rattle.good_replica.specs.Versions.{version_of}

version_suits : (schema : List Column) (c : Commit) → ((value : List ℕ) → c.value ≡ Some value → CellsFit schema (cells schema value)) → Suits schema (version_of schema c)
version_suits schema c fit = by c.value fit
  where
    by : (o : Option (List ℕ)) → ((value : List ℕ) → o ≡ Some value → CellsFit schema (cells schema value)) → elim (is_none o) as (λ _. Type 0) [ true ↦ elim o as (λ _. List Cell) [ None ↦ [] | Some value ↦ cells schema value ] ≡ [] | false ↦ CellsFit schema (elim o as (λ _. List Cell) [ None ↦ [] | Some value ↦ cells schema value ]) ]
    by None fit = refl
    by (Some value) fit = fit value refl

pub added_suit : (log : Log) → IsLawful log → (p : ℕ) → All (Suits log.schema) (added log p)
added_suit log lawful p = All-map (Suits log.schema) (version_of log.schema) (filter (λ (c : Commit). c.position == p) cs) (All-filter (λ (c : Commit). c.position == p) (λ (c : Commit). Suits log.schema (version_of log.schema c)) cs each)
  where
    cs : List Commit
    cs = (at log (suc p)).commits

    each : All (λ (c : Commit). Suits log.schema (version_of log.schema c)) cs
    each k d less = version_suits log.schema (slice_index_or cs k d) (λ value is. row_fits log.schema value (committed_is_row log lawful (suc p) (slice_index_or cs k d) (Contains-get_or cs k d less) value is))
