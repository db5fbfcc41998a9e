pub mod Table
pub mod Cutting
pub mod Reading
pub mod Kept
