pub mod Tellings
pub mod Packed
pub mod Reading
pub mod Grouping
pub mod Pieces
pub mod Examples
