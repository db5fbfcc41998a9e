pub mod Around
pub mod Words
pub mod Session
pub mod Running
