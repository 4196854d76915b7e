pub mod File
pub mod InnerRows
pub mod Theorems
