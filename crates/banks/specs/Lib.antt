pub mod Limits
pub mod Table
pub mod Places
pub mod Stored
pub mod FromSheet
pub mod Identity
