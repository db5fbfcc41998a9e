pub mod Twins
pub mod Asking
pub mod Causes
pub mod Keys
