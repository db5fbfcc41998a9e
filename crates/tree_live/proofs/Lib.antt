pub mod BlockLaws
mod ViewLaws
pub mod TellingLaws
mod HitLaws
mod GameLaws
mod ChangeLaws
mod SlotLaws
mod RowChangeLaws
pub mod HeldLaws
mod WithinLaws
pub mod FewLaws
pub mod StayingLaws
