pub mod Tables
pub mod Complement
pub mod Laws
pub mod Words
