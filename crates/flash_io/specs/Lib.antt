pub mod Faults
pub mod Streams
pub mod DiskFaults
pub mod IntoFaults
pub mod Image
pub mod Crash
pub mod Runs
