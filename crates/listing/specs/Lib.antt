pub mod Answers
pub mod Errors
pub mod Lines
pub mod Text
