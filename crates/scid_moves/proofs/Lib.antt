pub mod AnswerLaws
pub mod LineLaws
pub mod MoveLaws
pub mod ServingLaws
pub mod StandingLaws
