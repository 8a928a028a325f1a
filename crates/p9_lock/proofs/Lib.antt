pub mod Firsts
pub mod Held
pub mod Leaving
pub mod Places
pub mod Queue
pub mod Released
pub mod RwHolds
pub mod Sleepers
