pub mod Differing
pub mod CopyLines
pub mod TextReads
pub mod Lifts
pub mod Lives
pub mod Paired
pub mod ByNumber
pub mod Turns
pub mod Untouched
pub mod Services
pub mod Devices
pub mod Runs
pub mod CopyRuns
pub mod EngineSteps
pub mod Running
mod StageExamples
mod ReportExamples
