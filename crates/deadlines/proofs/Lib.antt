pub mod Subsets
pub mod Schedules
pub mod Lists
pub mod Chosen
pub mod First
