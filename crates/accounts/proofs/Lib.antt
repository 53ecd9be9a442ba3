pub mod Repeats
pub mod Watch
pub mod Served
pub mod Least
