pub mod Compacting
pub mod Editing
pub mod Ends
pub mod Indexed
pub mod Retagging
pub mod Saving
