pub mod Calls
pub mod Desks
pub mod Kept
pub mod Room
pub mod Stands
