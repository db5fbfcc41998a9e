pub mod Views
pub mod RowChanges
pub mod Watching
pub mod Slots
pub mod Following
pub mod Keeping
pub mod Showing
