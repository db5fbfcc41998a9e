pub mod Matching
pub mod Passing
pub mod Searching
pub mod Streaks
pub mod Looking
