pub mod Parts
pub mod Made
