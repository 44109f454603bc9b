pub mod Memory
pub mod Admission
pub mod Making
pub mod Parts
pub mod Soundness
