pub mod Keys
pub mod Stored
pub mod InnerSlots
pub mod Calls
pub mod Reached
