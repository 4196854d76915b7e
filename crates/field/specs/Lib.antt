pub mod Field
pub mod InnerProducts
