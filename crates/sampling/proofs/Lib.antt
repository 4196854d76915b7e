pub mod Fields
pub mod Kept
pub mod Draws
pub mod Shuffling
pub mod Steps
pub mod Answered
