pub mod TagLaws
pub mod WritingLaws
pub mod LayoutLaws
pub mod PgnLaws
pub mod WriterLaws
