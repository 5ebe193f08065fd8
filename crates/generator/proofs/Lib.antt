pub mod OpChanges
pub mod Admitted
pub mod RowValues
pub mod EntrySizes
pub mod MomentSteps
pub mod GeneratedLogs
pub mod Making
