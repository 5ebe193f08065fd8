pub mod Views
pub mod Rights
