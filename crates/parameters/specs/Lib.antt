pub mod Categories
pub mod Sound
