pub mod Compacting
pub mod Drafting
pub mod Errors
