pub mod Kinds
pub mod Desk
pub mod Standing
pub mod Views
pub mod Showing
pub mod Doing
