pub mod Packing
pub mod InnerVector
