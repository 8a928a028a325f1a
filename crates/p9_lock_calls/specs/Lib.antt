pub mod Granted
pub mod Serves
pub mod Spares
