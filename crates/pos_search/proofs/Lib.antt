pub mod Words
pub mod HomeSets
pub mod MatchLemmas
pub mod PawnLemmas
pub mod ColumnLemmas
pub mod MenLemmas
pub mod FollowLemmas
pub mod WalkLemmas
pub mod SearchLemmas
pub mod FirstLemmas
pub mod AsideLemmas
pub mod TellingLemmas
pub mod OutLemmas
mod AskingLemmas
pub mod InMemoryLemmas
