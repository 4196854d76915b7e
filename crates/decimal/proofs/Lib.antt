pub mod Decimal
pub mod Stores
