mod RangeLemmas
pub mod TestLemmas
mod KeyLemmas
pub mod CountLemmas
mod MeetLemmas
mod LineLemmas
mod ListLemmas
