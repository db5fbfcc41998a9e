pub mod Indexing
pub mod Ends
