pub mod Checks
pub mod Computed
pub mod Filled
pub mod Lists
pub mod Numbers
pub mod Answering
pub mod Results
