pub mod ImageLaws
pub mod EntryLaws
pub mod Theorems
