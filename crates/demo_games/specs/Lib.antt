pub mod Moves
pub mod Demo
