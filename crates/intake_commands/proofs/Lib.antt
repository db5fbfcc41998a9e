pub mod ByCase
pub mod AddLaws
pub mod BodyLaws
pub mod IntakeLaws
pub mod LastLineLaws
pub mod OneGameLaws
pub mod PagingLaws
