pub mod Breaking
pub mod Ends
pub mod Importing
pub mod Intakes
pub mod LastLine
pub mod Paging
