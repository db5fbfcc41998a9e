pub mod CutLemmas
pub mod KeptLemmas
pub mod MenLemmas
pub mod LastLemmas
pub mod ReadingLemmas
pub mod ApartLemmas
