pub mod NearLaws
pub mod BestLaws
pub mod Theorems
pub mod Reached
