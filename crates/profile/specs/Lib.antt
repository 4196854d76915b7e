pub mod Rules
pub mod Table
pub mod Line
pub mod InnerPlaces
pub mod Theorems
pub mod Bench
