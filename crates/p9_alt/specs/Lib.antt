pub mod Exchange
pub mod For
pub mod Kept
pub mod Lends
pub mod Offered
pub mod Passing
pub mod Sides
pub mod Withdrawn
