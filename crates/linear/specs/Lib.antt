pub mod Linear
pub mod InnerSteps
pub mod InnerLoose
