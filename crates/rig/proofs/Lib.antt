pub mod Runs
pub mod Laps
pub mod Members
