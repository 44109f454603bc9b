pub mod Retries
pub mod Trying
