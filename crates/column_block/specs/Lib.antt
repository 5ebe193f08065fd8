pub mod Cells
pub mod Handles
pub mod Numbers
pub mod Order
pub mod Rising
pub mod Schemas
pub mod Suiting
