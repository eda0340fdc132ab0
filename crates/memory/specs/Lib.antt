pub mod Plans
pub mod Meanings
pub mod Soundness
