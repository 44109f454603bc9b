pub mod Retried
pub mod Soundness
