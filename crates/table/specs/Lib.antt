pub mod Versions
pub mod Rows
pub mod Scans
