pub mod Carry
pub mod CarryLoad
