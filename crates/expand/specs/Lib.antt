pub mod InnerExpanded
pub mod InnerScratch
pub mod InnerNumbers
