pub mod Writing
pub mod Texts
pub mod Findings
pub mod Answers
