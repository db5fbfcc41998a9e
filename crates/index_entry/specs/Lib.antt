pub mod Bits
pub mod Places
pub mod Entry
pub mod Reading
pub mod Writing
pub mod Index
pub mod Counts
