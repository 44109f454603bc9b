pub mod Rows
pub mod Options
