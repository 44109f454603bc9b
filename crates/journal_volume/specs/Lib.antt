pub mod Recovering
pub mod Restoring
