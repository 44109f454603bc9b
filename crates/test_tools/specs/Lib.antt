pub mod Checks
pub mod Disks
pub mod Faults
