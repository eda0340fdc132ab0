pub mod Cuts
pub mod Fresh
pub mod Naming
pub mod Laying
pub mod Ending
