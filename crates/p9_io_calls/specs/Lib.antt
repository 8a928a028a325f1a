pub mod Interrupts
pub mod Needs
pub mod Serves
