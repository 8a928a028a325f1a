pub mod Parting
pub mod Quiet
