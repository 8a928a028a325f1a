pub mod Streams
pub mod Fronts
pub mod Reached
pub mod DeviceRuns
pub mod FileRuns
pub mod MemoryEntries
pub mod MemoryPlans
