pub mod Seats
pub mod Changes
pub mod Desks
pub mod Lending
pub mod Echoing
