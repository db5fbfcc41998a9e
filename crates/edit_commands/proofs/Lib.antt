pub mod CompactLaws
pub mod EditLaws
pub mod RetagLaws
pub mod SaveLaws
pub mod TagLaws
