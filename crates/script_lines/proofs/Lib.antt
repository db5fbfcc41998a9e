pub mod ScriptLaws
pub mod ReadingLaws
pub mod BodyLaws
pub mod StandingLaws
pub mod PlaceLaws
pub mod TaskLaws
pub mod LineLaws
pub mod ClientLaws
