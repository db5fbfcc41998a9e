pub mod Text
pub mod Names
pub mod Table
pub mod Listing
pub mod Page
