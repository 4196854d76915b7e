pub mod Strings
pub mod Key
pub mod Round
pub mod Sign
pub mod Verify
pub mod VerifyRound
pub mod Duty
pub mod Entries
