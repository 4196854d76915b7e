pub mod Evaluate
pub mod Theorems
pub mod Cases
pub mod InnerText
