pub mod KeyLaws
mod RowLaws
pub mod Placing
mod Adding
mod Finding
pub mod HitKeys
mod Dropping
pub mod OneRow
mod Totals
mod TextLaws
mod SameBoard
mod NeededLaws
mod SharedSigns
mod SharedTexts
pub mod SameText
pub mod KeyWords
