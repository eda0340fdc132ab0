pub mod States
pub mod Rows
pub mod Writes
pub mod Lines
