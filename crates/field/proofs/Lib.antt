pub mod Products
pub mod Congruence
pub mod Inverse
pub mod Place
pub mod Folds
