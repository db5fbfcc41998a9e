pub mod Packing
pub mod Same
pub mod Squares
