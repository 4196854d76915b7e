pub mod CutLaws
pub mod RowLaws
pub mod EntryLaws
pub mod Listed
