pub mod StreakLemmas
pub mod MatchLemmas
pub mod ComingLemmas
pub mod PassLemmas
pub mod WalkLemmas
pub mod ReadLemmas
mod PriceLemmas
pub mod FirstLemmas
mod LookingLemmas
