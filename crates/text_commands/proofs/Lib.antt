pub mod CutLaws
pub mod GameTextLaws
pub mod Informing
pub mod ListingLaws
pub mod ShownLaws
pub mod TextLaws
