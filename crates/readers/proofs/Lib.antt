pub mod Identical
pub mod Served
pub mod Unsettled
pub mod Computed
pub mod Chains
pub mod Grown
