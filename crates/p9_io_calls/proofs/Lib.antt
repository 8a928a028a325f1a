pub mod Answered
pub mod Beside
pub mod Calling
pub mod Interrupted
pub mod Taking
