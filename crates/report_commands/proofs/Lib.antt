pub mod CrossLaws
pub mod EcoLaws
pub mod TwinLaws
pub mod UntaggedLaws
