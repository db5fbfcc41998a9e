pub mod Board
pub mod Man
pub mod Packed
pub mod SameMen
pub mod Sets
pub mod Steps
pub mod Text
