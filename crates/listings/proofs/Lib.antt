mod Puts
pub mod RoundLines
mod Readings
mod Answered
