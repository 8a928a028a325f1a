pub mod For
pub mod Serves
pub mod Spares
pub mod Wakes
