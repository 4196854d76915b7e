pub mod Answer
pub mod Result
pub mod Lists
