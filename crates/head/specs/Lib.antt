pub mod Head
pub mod Codes
