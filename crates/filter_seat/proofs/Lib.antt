pub mod SavedLaws
pub mod SeatLaws
pub mod FollowLaws
