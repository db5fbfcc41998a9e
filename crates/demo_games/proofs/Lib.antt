pub mod LegalList
pub mod Drawing
pub mod Settling
