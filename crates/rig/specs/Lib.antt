pub mod Sets
pub mod Meaning
pub mod Orders
pub mod Guides
pub mod Checks
pub mod Verdicts
