pub mod Storing
pub mod Loading
