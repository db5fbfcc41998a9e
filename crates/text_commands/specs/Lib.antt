pub mod Cuts
pub mod GameTexts
pub mod Listing
pub mod Showing
pub mod Telling
