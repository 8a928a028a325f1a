pub mod Begin
pub mod Board
pub mod Copies
pub mod Kept
pub mod Reserved
pub mod Shown
pub mod Turns
