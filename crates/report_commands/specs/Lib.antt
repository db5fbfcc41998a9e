pub mod Classifying
pub mod Crosstables
pub mod Ends
pub mod Twins
