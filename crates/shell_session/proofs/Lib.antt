mod DeskLaws
mod RunningLaws
mod KeptLaws
mod BodyLaws
mod AnswerLaws
mod OpeningLaws
mod PriceLaws
pub mod IdleLaws
pub mod ViewLaws
