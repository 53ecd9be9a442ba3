pub mod Account
pub mod Report
