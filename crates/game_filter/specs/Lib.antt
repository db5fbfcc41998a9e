pub mod Entries
pub mod Filter
pub mod Renumbering
pub mod Search
