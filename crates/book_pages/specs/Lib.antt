pub mod Hits
pub mod Asking
pub mod Causes
pub mod Book
pub mod Reached
pub mod Keeping
pub mod Meeting
pub mod Order
