pub mod Lanes
pub mod Blocks
pub mod Output
pub mod Holds
pub mod Words
