pub mod Core
pub mod Applying
pub mod Reads
pub mod Opening
pub mod Changes
pub mod Asks
pub mod Works
pub mod Installs
