pub mod Crosstable
pub mod Causes
pub mod Keeping
