pub mod AskedLaws
pub mod PuttingLemmas
pub mod MakingLemmas
