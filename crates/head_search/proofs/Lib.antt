pub mod SearchLemmas
pub mod MarkLemmas
