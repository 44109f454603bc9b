pub mod Mixing
pub mod Soundness
