pub mod Gaps
pub mod Stock
pub mod PartLines
pub mod Ends
pub mod OneRound
