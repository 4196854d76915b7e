pub mod Package
pub mod Entries
pub mod Theorems
pub mod Images
