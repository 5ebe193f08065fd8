-- What a reader must believe: logs, and which are lawful; regions and column families; what was applied; reads, refusals and replies; what the laws speak of.
pub mod Regions
pub mod Changes
pub mod Store
pub mod Log
pub mod Admission
pub mod Lawful
pub mod Applied
pub mod Reads
pub mod Replies
pub mod ReadIndex
pub mod Laws
pub mod Repeats
pub mod Digest
-- Admission's machinery: look-up tables, and what they hold. Nothing above rests on it.
pub mod Numbers
pub mod Shorts
pub mod Outcomes
pub mod Owned
pub mod Families
pub mod Tables
pub mod Lows
pub mod Nexts
pub mod Indexed
