pub mod Examples
pub mod For
pub mod Kept
pub mod ProcNotes
