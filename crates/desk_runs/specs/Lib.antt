pub mod Filters
pub mod Isolation
pub mod Desks
