pub mod Told
pub mod Swaps
