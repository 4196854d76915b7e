pub mod Shake
pub mod InnerFold
