pub mod Counts
pub mod Ready
pub mod Shown
