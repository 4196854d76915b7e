pub mod OrderLaws
pub mod ColumnLaws
pub mod Theorems
pub mod PlacesLaws
