pub mod Memory
pub mod Serves
