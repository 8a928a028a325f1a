pub mod Changes
pub mod Picked
pub mod Standing
