mod ChangeLaws
mod HitLaws
mod KeyLaws
mod PriceLaws
mod ReadLaws
mod SlotLaws
pub mod ToldLaws
