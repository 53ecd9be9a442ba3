pub mod Faults
pub mod Limits
pub mod Feeders
pub mod SheetLines
pub mod SheetText
pub mod Needs
