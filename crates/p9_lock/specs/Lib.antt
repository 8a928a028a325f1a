pub mod Examples
pub mod Kept
pub mod Locking
pub mod Meetings
pub mod Shown
pub mod Stands
pub mod Waiting
