pub mod Chunks
pub mod Lays
pub mod Fates
pub mod Soundness
