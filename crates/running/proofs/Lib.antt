pub mod LapsAlike
pub mod SwapsRead
