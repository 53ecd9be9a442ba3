pub mod Digits
pub mod Lines
pub mod Frames
pub mod Faults
pub mod Kinds
pub mod BadLines
pub mod BadLinesAmong
pub mod Fields
