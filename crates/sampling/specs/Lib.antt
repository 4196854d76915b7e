pub mod Sampling
pub mod Shuffle
pub mod Weight
pub mod InnerScratch
pub mod Entry
