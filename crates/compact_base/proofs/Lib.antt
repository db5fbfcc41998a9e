pub mod ListLaws
pub mod FirstLaws
pub mod CopyLaws
pub mod CommitLaws
pub mod RecordLaws
