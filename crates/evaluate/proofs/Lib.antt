pub mod FieldLaws
pub mod TextLaws
pub mod EntryLaws
pub mod PlainLaws
pub mod Theorems
pub mod Cases
