pub mod Binds
pub mod RowSteps
pub mod ColumnSteps
pub mod FieldSteps
pub mod FieldsAgain
pub mod PackAgain
mod RowsBack
pub mod SpelledFields
pub mod SpelledPack
pub mod Suiting
