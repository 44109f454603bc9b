pub mod Model
pub mod Ends
