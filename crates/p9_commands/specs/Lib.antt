pub mod Pattern
pub mod Through
