pub mod Record
pub mod Parts
pub mod Stored
