pub mod Openings
pub mod Telling
pub mod Repeating
pub mod Formatting
pub mod Recovering
pub mod Usable
pub mod Keeping
