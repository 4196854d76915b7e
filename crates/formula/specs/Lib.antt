pub mod Grammar
pub mod Meaning
pub mod Reader
pub mod Theorems
pub mod InnerReader
