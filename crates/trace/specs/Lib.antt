pub mod Building
pub mod Calls
pub mod Format
pub mod Lent
pub mod Traces
