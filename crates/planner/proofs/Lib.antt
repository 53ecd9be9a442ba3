pub mod Agreed
pub mod Runs
pub mod OneGrants
pub mod Answered
pub mod Written
