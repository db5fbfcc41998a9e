pub mod Counts
pub mod EntryLaws
pub mod Passes
pub mod Renumberings
pub mod Searches
