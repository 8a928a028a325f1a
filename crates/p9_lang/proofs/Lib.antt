mod Cuts
mod Entries
mod Mapped
pub mod NameLists
