pub mod Plain
pub mod Endings
pub mod Runs
pub mod Counts
pub mod Tagged
pub mod Lines
pub mod Waiting
pub mod Rendered
