pub mod Only
pub mod Shelf
pub mod Putting
