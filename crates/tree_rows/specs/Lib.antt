pub mod Keys
pub mod Hits
pub mod Rows
pub mod Numbers
pub mod MoveText
pub mod TreeText
pub mod Keeping
