pub mod Below
pub mod Base
pub mod Sizes
pub mod RoundTrip
pub mod Bits
pub mod Groups
pub mod Seen
pub mod Refusals
