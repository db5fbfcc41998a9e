pub mod Columns
pub mod Matching
pub mod Passing
pub mod Sought
pub mod Searching
pub mod Telling
pub mod InMemory
