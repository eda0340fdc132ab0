pub mod Parts
pub mod Found
pub mod Counts
pub mod Drawn
pub mod Answering
