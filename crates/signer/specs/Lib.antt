pub mod InnerState
