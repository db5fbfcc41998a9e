pub mod FindingLaws
pub mod HeadLaws
pub mod HitLines
pub mod MaterialLaws
pub mod TreeLaws
pub mod DemoLaws
