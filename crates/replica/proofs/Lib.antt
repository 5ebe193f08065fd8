pub mod Following
mod Applying
mod Committing
mod Steps
mod SafePoint
mod Purged
mod Staged
mod Puts
mod Flushed
mod Reached
mod OneFlush
mod Checkpointed
mod OneCheckpoint
