pub mod Pasted
pub mod Resting
pub mod Failing
pub mod Writing
