pub mod Going
pub mod Rising
pub mod Meeting
mod Walking
mod Loop
pub mod FieldsAgain
pub mod KeysRise
pub mod FamiliesAgain
pub mod RegionAgain
pub mod FileAgain
pub mod Alike
