pub mod Searching
pub mod Trees
pub mod Demo
pub mod Demoing
