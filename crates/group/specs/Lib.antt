pub mod Phases
pub mod Groups
