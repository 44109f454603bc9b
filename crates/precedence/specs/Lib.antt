pub mod Stamps
pub mod Orders
