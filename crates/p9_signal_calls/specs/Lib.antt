pub mod Affects
pub mod Fit
pub mod Memory
pub mod Serves
