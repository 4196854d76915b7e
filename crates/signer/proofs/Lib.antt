pub mod Ranges
pub mod Loops
pub mod Digests
pub mod Made
pub mod Sponge
pub mod Signed
pub mod Answered
