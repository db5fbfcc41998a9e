pub mod Joining
pub mod Running
pub mod Lines
pub mod Texts
pub mod Tagging
