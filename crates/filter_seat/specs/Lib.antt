pub mod SavedFilters
pub mod Seats
pub mod Following
