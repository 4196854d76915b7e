pub mod Nearest
pub mod Theorems
pub mod InnerSearch
