pub mod Keccak
pub mod InnerPlanes
