pub mod Channels
pub mod Stored
pub mod Kept
