pub mod WordLaws
pub mod TableLaws
pub mod GrammarLaws
pub mod NumberLaws
pub mod ItemLaws
pub mod LengthLaws
pub mod SpellingLaws
