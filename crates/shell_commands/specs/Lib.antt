pub mod Parts
pub mod Tasks
pub mod Refused
pub mod Saying
pub mod Watching
pub mod Showing
pub mod Turn
