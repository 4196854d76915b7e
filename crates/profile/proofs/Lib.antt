pub mod RuleLaws
pub mod TableLaws
pub mod LineLaws
pub mod EntryLaws
pub mod Theorems
pub mod Bench
