pub mod Shorts
pub mod Changes
pub mod Maps
pub mod Faults
pub mod Entries
pub mod Sorted
pub mod Disjoint
pub mod Merged
pub mod Owners
pub mod Acting
pub mod Positions
pub mod Within
pub mod Local
pub mod Ranks
pub mod Places
pub mod Longer
pub mod NextPositions
mod NextLists
mod LeastTaken
mod LowEnds
pub mod RepeatedPlaces
mod Options
pub mod Undo
pub mod FamilySteps
pub mod LastCommits
pub mod StoreSteps
pub mod OpSteps
pub mod RegionSteps
pub mod Closed
pub mod Ready
pub mod Bounds
pub mod Growth
pub mod Determined
pub mod Commits
pub mod ReadIndexes
pub mod Feeding
pub mod Pushed
pub mod Filled
pub mod Lying
pub mod Cleared
pub mod Parts
pub mod Writable
pub mod ReadLaws
pub mod Answered
pub mod Waiting
pub mod RegionTables
pub mod Touching
